-- How many bytes the packets of an object take.
use Rattle.raptorq_c.proofs.Names.{◌≡◌, ℕ, List, Ok, sym, ap, ◌∙◌, arith, ◌+◌, ◌*◌, ◌≤◌, [], ◌∷◌, length, zero, suc, length-append, length-map, length-map-range_with_len, AllByRecursion, configuration_of_bytes, Configuration, total_symbols, IsAccepted, block_symbols, symbols_before, IsPacketOf, Packet, packet_bytes, frame_size, frames_of}
use Rattle.raptorq_c.proofs.Names.{greatest_size, IsTable, TableRow, both_ok, ok_of, accepted_by, checked_configuration, full_table, full_rows, length-packet_bytes, AppendsObject, packets_length, checked_header, IsEncoding, bytes_of_packets}
use Rattle.rq_standard.specs.ObjectPackets.{first_ids}
use Rattle.rq_standard.proofs.BlockCuts.{symbols_before-first, symbols_before-next, symbols_before-all}
use Rattle.rq_standard.proofs.BlockRows.{block_has_row}
use Rattle.raptorq.proofs.EncodedBlocks.{ids_before, ids_next}

module _ (c : Configuration) where
  -- as many as the blocks' source symbols, and the repair symbols of each
  count-ids : (repair n : ℕ) → n ≤ c.source_blocks → length (ids_before c repair n) ≡ symbols_before c n + n * repair
  count-ids repair zero h = omega (arith, symbols_before-first c)
  count-ids repair (suc n) h =
      let next : suc n ≡ n + 1 = omega arith in
      let ids = first_ids (block_symbols c n + repair) n in
      let some : length ids ≡ block_symbols c n + repair = length-map-range_with_len (λ e. record { block = n; esi = e }) 0 (block_symbols c n + repair) in
      let more : suc n * repair ≡ n * repair + repair = omega arith in
      ap (λ m. length (ids_before c repair m)) next ∙ ap length (ids_next c repair n) ∙ length-append (ids_before c repair n) ids
      ∙ omega (arith, count-ids repair n (omega arith), some, more, symbols_before-next c n (omega arith), ap (symbols_before c) next)

  frames_long : (packets : List Packet) → AllByRecursion (λ p. length (packet_bytes p) ≡ frame_size c) packets → length (frames_of packets) ≡ length packets * frame_size c
  frames_long [] all = omega arith
  frames_long (p ∷ packets) all =
      let more : length (p ∷ packets) * frame_size c ≡ frame_size c + length packets * frame_size c = omega arith in
      length-append (packet_bytes p) (frames_of packets) ∙ omega (arith, all.0, frames_long packets all.1, more)

  module _ (table : List TableRow) (is_table : IsTable table) (object : List ℕ) where
    each_long : IsAccepted (greatest_size table) c → (packets : List Packet) → AllByRecursion (IsPacketOf table c object) packets → AllByRecursion (λ p. length (packet_bytes p) ≡ frame_size c) packets
    each_long accepted [] all = tt
    each_long accepted (p ∷ packets) all = (
      length-packet_bytes table c object p (block_has_row table c is_table accepted p.id.block all.0.block).checked all.0,
      each_long accepted packets all.1,
    )

    pub encoding_length : (repair : ℕ) (bytes : List ℕ) → AppendsObject table c object repair [] bytes → length bytes ≡ packets_length c repair
    encoding_length repair bytes h =
        let checked = both_ok (checked_configuration (greatest_size table) c) _ tt h.taken in
        let accepted = accepted_by (greatest_size table) c checked.1 in
        let z = c.source_blocks in
        let count : length h.packets ≡ total_symbols c + z * repair =
        sym (length-map h.packets (λ (p : Packet). p.id)) ∙ ap length h.encoded.ids ∙ count-ids repair z (omega arith) ∙ ap (λ n. n + z * repair) (symbols_before-all c accepted.blocks_positive) in
        ap length h.grown ∙ frames_long h.packets (each_long accepted h.packets h.encoded.each) ∙ ap (λ n. n * frame_size c) count

-- so the call that says how many says this
pub packets_room : (header object : List ℕ) (repair : ℕ) (bytes : List ℕ) → IsEncoding header object repair bytes → bytes_of_packets header repair ≡ ok_of (length bytes)
packets_room header object repair bytes appended =
    let c = configuration_of_bytes header in
    let checked : checked_header header ≡ Ok tt = (both_ok (checked_configuration (greatest_size full_rows) c) _ tt appended.taken).1 in
    rw (checked, appended.enough) (ap ok_of (sym (encoding_length c full_rows full_table object repair bytes appended)))
