-- A configuration is read as it was written.
use Rattle.std.proofs.Common.{◌≡◌, ℕ, ◌/◌, ◌%◌, ◌^◌, ◌<◌, ◌∷◌, drop, arith, ap, ◌∙◌}
use Rattle.std.specs.Int.{w64, to_be_bytes, from_be_bytes}
use Rattle.std.proofs.lemmas.Nat.{from_be_bytes-to_be_bytes_2, from_be_bytes-to_be_bytes_8}
use Rattle.rq_standard.specs.Configuration.{Configuration, IsConfiguration, header_bytes, configuration_of_bytes}

-- the first three of the eight bytes of a small number are zeros
front_zeros : (n : ℕ) → n < 2 ^ 40 → 0 ∷ 0 ∷ 0 ∷ drop 3 (to_be_bytes w64 n) ≡ to_be_bytes w64 n
front_zeros n h =
    let a : 0 ≡ n / 2 ^ 56 % 256 = omega arith in
    let b : 0 ≡ n / 2 ^ 48 % 256 = omega arith in
    let d : 0 ≡ n / 2 ^ 40 % 256 = omega arith in
    λ i. a i ∷ b i ∷ d i ∷ drop 3 (to_be_bytes w64 n)

pub configuration_of_bytes-header_bytes : (c : Configuration) → IsConfiguration c → configuration_of_bytes (header_bytes c) ≡ c
unfolding configuration_of_bytes header_bytes
configuration_of_bytes-header_bytes c h =
    let length_is : from_be_bytes w64 (0 ∷ 0 ∷ 0 ∷ drop 3 (to_be_bytes w64 c.transfer_length)) ≡ c.transfer_length = ap (from_be_bytes w64) (front_zeros c.transfer_length h.length_fits) ∙ from_be_bytes-to_be_bytes_8 c.transfer_length (omega (arith, h.length_fits)) in
    let size_is = from_be_bytes-to_be_bytes_2 c.symbol_size h.size_fits in
    let sub_is = from_be_bytes-to_be_bytes_2 c.sub_blocks h.sub_blocks_fit in
    λ i. record { transfer_length = length_is i; symbol_size = size_is i; source_blocks = c.source_blocks; sub_blocks = sub_is i; alignment = c.alignment }
