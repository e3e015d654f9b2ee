-- Ids and packets are read as they were written.
use Rattle.std.proofs.Common.{◌≡◌, ℕ, ◌+◌, ◌*◌, ◌/◌, ◌%◌, ◌^◌, ◌<◌, List, length, get_or, take, drop, arith, refl, ap, ◌∙◌}
use Rattle.std.specs.Int.{w32, from_be_bytes}
use Rattle.std.proofs.lemmas.Nat.{from_be_bytes-to_be_bytes_4, be_bytes_4}
use Rattle.std.proofs.lemmas.List.{take_at, drop_at}
use Rattle.rq_standard.specs.Packet.{SymbolId, Packet, IsSymbolId, id_number, id_bytes, id_of_bytes, packet_bytes, packet_of_bytes}

-- the id that stands behind a number
id_of_number : (n : ℕ) (i : SymbolId) → n ≡ id_number i → IsSymbolId i → record { block = n / 2 ^ 24; esi = n % 2 ^ 24 } ≡ i
id_of_number n i e h =
    let is_block : n / 2 ^ 24 ≡ i.block = omega (arith, h.esi_fits) in
    let is_esi : n % 2 ^ 24 ≡ i.esi = omega (arith, h.esi_fits) in
    λ k. record { block = is_block k; esi = is_esi k }

pub id_of_bytes-id_bytes : (i : SymbolId) → IsSymbolId i → id_of_bytes (id_bytes i) ≡ i
unfolding id_of_bytes
id_of_bytes-id_bytes i h = id_of_number (from_be_bytes w32 (id_bytes i)) i (from_be_bytes-to_be_bytes_4 (id_number i) (omega (arith, h.block_fits, h.esi_fits))) h

pub id_bytes-id_of_bytes : (bytes : List ℕ) → length bytes ≡ 4 → ((k : ℕ) → get_or bytes k 0 < 256) → id_bytes (id_of_bytes bytes) ≡ bytes
unfolding id_of_bytes
id_bytes-id_of_bytes bytes l h = be_bytes_4 bytes (from_be_bytes w32 bytes / 2 ^ 24 * 2 ^ 24 + from_be_bytes w32 bytes % 2 ^ 24) l h (omega arith)

pub packet_of_bytes-packet_bytes : (p : Packet) → id_of_bytes (id_bytes p.id) ≡ p.id → packet_of_bytes (packet_bytes p) ≡ p
unfolding packet_of_bytes
packet_of_bytes-packet_bytes p h =
    let is_id : id_of_bytes (take 4 (packet_bytes p)) ≡ p.id = ap id_of_bytes (take_at (id_bytes p.id) p.payload 4 refl) ∙ h in
    let is_payload : drop 4 (packet_bytes p) ≡ p.payload = drop_at (id_bytes p.id) p.payload 4 refl in
    λ k. record { id = is_id k; payload = is_payload k }
