use Rattle.std.proofs.Common.{◌≡◌, map, refl, sym, ap, ◌∙◌, arith}
use Rattle.std.specs.List.{range_with_len}
use Rattle.rq_algebra.proofs.SymbolSums.{symbol_elements}
use Rattle.rq_bytes.specs.SymbolSlab.{slab_of, symbol_in}
use Rattle.rq_standard.specs.OctetField.{octets}
use Rattle.rq_standard.specs.Equations.{before_hdpc}
use Rattle.rq_standard.specs.TableRows.{intermediate_symbols}
use Rattle.rq_parts.proofs.MemoryAlone.{ok_past}
use Rattle.rq_base.proofs.Accepted.{same_ok}
use Rattle.rq_block.proofs.HdpcSumSteps.{gathered_sums, range_numbers, sum_places_below}
use Rattle.rq_block.proofs.Summing.{place_of_slab}
use Rattle.rq_block.proofs.decoder.fitting.first_sums.Goals as goal
use Rattle.rq_block.proofs.decoder.fitting.first_sums.Goals.{In_ok-places}

-- the numbers of the HDPC symbols
module _ (c : In_ok-places) where
  numbers_are : c.in_ok-places.places.items ≡ range_with_len (before_hdpc c.args.row.now.numbers) c.args.row.now.numbers.hdpc_symbols
  numbers_are =
      let row = c.args.row.now.numbers in
      let start = c.before_hdpc-start.ensures.value in
      let ran = c.in_ok-places.ensures.ran in
      ran.2.0 ∙ range_numbers c.before_hdpc-start.result row.hdpc_symbols _ ran.0 (omega (arith, start, c.intermediate_symbols-end.ensures.value)) ran.1 ∙ ap (λ s. range_with_len s row.hdpc_symbols) start

pub gather-requires : goal.gather-requires
gather-requires c k d lt =
    let row = c.args.row.now.numbers in
    let are = numbers_are (goal.at.gather-requires c).In_ok-places in
    place_of_slab c.args.intermediate.now _ (intermediate_symbols row) c.requires.enough (sum_places_below row c.in_ok-places.places.items _ are (c.as_slice.ensures.value ∙ c.in_ok-push.ensures.items) k d (omega arith) lt)

pub returns : goal.returns
returns c =
    let row = c.args.row.now.numbers in
    let slab = c.args.intermediate.now in
    let column = symbol_in slab in
    let answered = ok_past _ _ c.gather.result c.in_ok-sums.ensures.variant c.in_ok-sums.ensures.cases in
    let is = sym (same_ok _ c.in_ok-sums.sums (rw answered at c.gather.ensures)) in
    gathered_sums row column slab.symbol_size slab c.in_ok-sums.sums c.in_ok-places.places.items refl (numbers_are (goal.at.returns c).In_ok-places) (is ∙ ap (λ places. slab_of slab.symbol_size (map (symbol_in slab) places)) (c.as_slice.ensures.value ∙ c.in_ok-push.ensures.items))
    (symbol_elements octets slab.symbol_size (column 0) (c.requires.symbols 0 (omega arith)))
