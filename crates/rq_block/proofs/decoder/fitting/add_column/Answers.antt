use Rattle.std.proofs.Common.{◌+◌, sym, ap, ◌∙◌, arith, set}
use Rattle.rq_algebra.specs.Operations.{meant_at}
use Rattle.rq_algebra.specs.Systems.{at}
use Rattle.rq_algebra.proofs.SymbolSums.{symbol_elements}
use Rattle.rq_bytes.specs.SymbolSlab.{Slab, symbol_in}
use Rattle.rq_standard.specs.OctetField.{octets}
use Rattle.rq_block.proofs.HdpcSumSteps.{AddsSymbol, added, allowed, column_added, doubled_at, written}
use Rattle.rq_block.proofs.Summing.{place_of_plain}
use Rattle.rq_block.proofs.decoder.fitting.add_column.Goals as goal
use Rattle.rq_block.proofs.decoder.fitting.add_column.Goals.{After-add_assign, After-add_assign-2}

-- the last symbol is added to two sums
module _ (c : After-add_assign) where
  first : AddsSymbol c.args.sums.now c.add_assign.new.self c.ones_of_mt-first.result.0 c.hdpc_symbols-height.result
  first = added c.args.sums.now c.add_assign.new.self c.ones_of_mt-first.result.0 c.hdpc_symbols-height.result c.requires.sums.order (omega (arith, c.requires.sums.count, c.ones_of_mt-first.ensures.first)) c.add_assign.ensures

module _ (c : After-add_assign-2) where
  second : AddsSymbol c.add_assign.new.self c.add_assign-2.new.self c.ones_of_mt-first.result.1 c.hdpc_symbols-height.result
  second =
      let w1 = first (goal.at.After-add_assign-2 c).After-add_assign in
      added c.add_assign.new.self c.add_assign-2.new.self c.ones_of_mt-first.result.1 c.hdpc_symbols-height.result w1.order (omega (arith, w1.count, c.requires.sums.count, c.ones_of_mt-first.ensures.second)) c.add_assign-2.ensures

pub add_assign-requires-2 : goal.add_assign-requires-2
add_assign-requires-2 c =
    let so = c.requires.sums in
    let ones = c.ones_of_mt-first in
    let w1 = first (goal.at.add_assign-requires-2 c).After-add_assign in
    let height_is = c.hdpc_symbols-height.ensures.value in
    allowed c.add_assign.new.self ones.result.1 c.hdpc_symbols-height.result w1.order (omega (arith, w1.count, so.count, ones.ensures.second)) (omega (arith, w1.count, so.count, height_is)) (λ same. omega (arith, ones.ensures.second, height_is))

pub get_mut-requires : goal.get_mut-requires
get_mut-requires c =
    let at = goal.at.get_mut-requires c in
    let w1 = first at.After-add_assign in
    let w2 = second at.After-add_assign-2 in
    place_of_plain c.add_assign-2.new.self c.hdpc_symbols-height.result w2.order (omega (arith, w2.count, w1.count, c.requires.sums.count, c.hdpc_symbols-height.ensures.value))

pub returns : goal.returns
returns c =
    let so = c.requires.sums in
    let row = c.args.row.now.numbers in
    let state = goal.at.returns c in
    let height_is = c.hdpc_symbols-height.ensures.value in
    let column = symbol_in c.args.intermediate.now in
    let size = c.args.intermediate.now.symbol_size in
    let n = c.args.column in
    let ones = c.ones_of_mt-first in
    let lent = c.get_mut in
    let w1 = first state.After-add_assign in
    let w2 = second state.After-add_assign-2 in
    let w3 = written c.add_assign-2.new.self _ row.hdpc_symbols c.double_and_add.new.octets w2.order (omega (arith, w2.count, w1.count, so.count, height_is)) (lent.ensures.whole_symbol c.double_and_add.new.octets (c.double_and_add.auto.octets ∙ lent.ensures.len) ∙ ap (λ h. let t : Slab = record c.add_assign-2.new.self { values = set c.add_assign-2.new.self.values (meant_at c.add_assign-2.new.self.order h) c.double_and_add.new.octets } in t) height_is) in
    let doubled = doubled_at lent.result.now c.get.result.now c.double_and_add.new.octets c.double_and_add.ensures (c.get.ensures.len ∙ sym (lent.ensures.len ∙ w2.size_is ∙ w1.size_is ∙ so.size_is)) in
    column_added row column size n ones.result.0 ones.result.1 c.requires.column ones.ensures.first ones.ensures.second ones.ensures.apart ones.ensures.ones
    c.args.sums.now c.add_assign.new.self c.add_assign-2.new.self _ c.double_and_add.new.octets so (rw height_is at w1) (rw height_is at w2) w3
    (λ p. doubled p ∙ ap (λ xs. octets.add (octets.mul 2 (at xs p)) (at c.get.result.now p)) (rw height_is at lent.ensures.symbol) ∙ ap (λ xs. octets.add (octets.mul 2 (at (symbol_in c.add_assign-2.new.self row.hdpc_symbols) p)) (at xs p)) c.get.ensures.symbol)
    (symbol_elements octets size (column (n + 1)) (c.requires.intermediate.symbols (n + 1) (omega (arith, c.requires.column))))
