-- The digest of a symbol that is sent.
use Rattle.std.proofs.Common.{◌≡◌, ℕ, ◌+◌, ◌<◌, List, length, drop, get_or, refl, sym, ap, subst, ◌∙◌, arith}
use Rattle.std.proofs.Math.Logic.{∥∥₁_elim}
use Rattle.std.proofs.Math.Bridge.{le_prop}
use Rattle.std.proofs.Props.{props}
use Rattle.std.proofs.lemmas.List.{drop_at}
use Rattle.rq_standard.specs.Configuration.{largest_block}
use Rattle.rq_standard.specs.Cutting.{block_symbols, symbols_before, source_symbol}
use Rattle.rq_standard.specs.Packet.{SymbolId, id_bytes}
use Rattle.rq_standard.proofs.BlockCuts.{symbols_before-next, symbols_before-grows}
use Rattle.rq_standard.proofs.RowLaws.{greatest_below}
use Rattle.rq_standard.proofs.SourcePackets.{source_packet}
use Rattle.raptorq.specs.Encoder.{Encoded, IsFrameIn}
use Rattle.rq_cells.specs.Cells.{digest_of}
use Rattle.rq_cast.specs.Writing.{AreDigestsIn}
use Rattle.rq_cast.proofs.SymbolDigests.{digest_at, length-digests_before}

-- behind its id a packet has its payload
pub payload_of : (e : Encoded) (block esi : ℕ) (bytes : List ℕ) (frame : IsFrameIn e block esi bytes) → drop 4 bytes ≡ frame.packet.payload
payload_of e block esi bytes frame = ap (drop 4) frame.spelled ∙ drop_at (id_bytes frame.packet.id) frame.packet.payload 4 refl

module _ (e : Encoded) (digests : List (List ℕ)) (given : ∥ AreDigestsIn e digests ∥₁) where
  pub few_symbols : largest_block e.configuration < 65536
  few_symbols = ∥∥₁_elim given le_prop (λ are. omega (arith, are.accepted.in_table, greatest_below are.table are.checked))

  module _ (block esi : ℕ) (below : block < e.configuration.source_blocks) (source : esi < block_symbols e.configuration block) where
    among_those : AreDigestsIn e digests → symbols_before e.configuration block + esi < length digests
    among_those are =
        let c = e.configuration in
        omega (
          arith,
          source,
          symbols_before-next c block below,
          symbols_before-grows c (block + 1) c.source_blocks (omega (arith, below)) (omega arith),
          length-digests_before c are.object c.source_blocks (omega arith),
          ap length are.each,
        )

    pub among : symbols_before e.configuration block + esi < length digests
    among = ∥∥₁_elim given le_prop among_those

    module _ (bytes : List ℕ) (frame : IsFrameIn e block esi bytes) (d : List ℕ) where
      there : AreDigestsIn e digests → get_or digests (symbols_before e.configuration block + esi) d ≡ digest_of (drop 4 bytes)
      there are =
          let c = e.configuration in
          let p = frame.packet in
          let few : p.id.esi < block_symbols c p.id.block = subst (λ (i : SymbolId). i.esi < block_symbols c i.block) (sym frame.id) source in
          let carried : p.payload ≡ source_symbol c are.object p.id.block p.id.esi =
          source_packet are.table c are.object p are.checked are.accepted (frame.of_object are.table are.object are.encoder) few in
          ap (λ xs. get_or xs (symbols_before c block + esi) d) are.each ∙ digest_at c are.object block esi d below source
          ∙ ap digest_of ((λ j. source_symbol c are.object (sym frame.id j).block (sym frame.id j).esi) ∙ sym carried ∙ sym (payload_of e block esi bytes frame))

      -- that of a source symbol is one of the object's
      pub digest_there : get_or digests (symbols_before e.configuration block + esi) d ≡ digest_of (drop 4 bytes)
      digest_there = ∥∥₁_elim given (Prim.hlevel props) there
