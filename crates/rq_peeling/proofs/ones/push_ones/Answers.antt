-- What the check leaves to show of `ones::push_ones`.
use Rattle.std.proofs.Common.{◌≡◌, ℕ, List, [], ◌<◌, ◌≤◌, ◌++◌, length, ap, ◌∙◌, subst, append-nil, arith}
use Rattle.std.proofs.lemmas.List.{length-append}
use Rattle.std.proofs.lemmas.List.Elements.{All-weaker}
use Rattle.rq_standard.specs.BitTableSteps.{AreOnesOf, ArePlacesOfOnes}
use Rattle.rq_parts.proofs.MemoryAlone.{on_ok_past}
use Rattle.rq_peeling.proofs.MatrixRows.{few_columns}
use Rattle.rq_peeling.proofs.RowLists.{adds_counted, adds_ones, places_among, places_of_pairs, places_together}
use Rattle.rq_peeling.proofs.ones.push_ones.Goals as goal

-- what the iterator gave in all
first_places : (bit : ℕ → ℕ) (end : ℕ) (taken rest : List (ℕ × ℕ)) → rest ≡ [] → AreOnesOf bit 0 end (taken ++ rest) → ArePlacesOfOnes bit 0 end (places_among taken)
first_places bit end taken rest none whole = places_of_pairs bit 0 end taken (subst (AreOnesOf bit 0 end) (ap (λ l. taken ++ l) none ∙ append-nil taken) whole)

pub returns-clause-ones : goal.returns-clause-ones
returns-clause-ones g c =
    let content = g.T.BinaryMatrix.content c.args.bits.now in
    let bit = content.bit c.args.row in
    let table = g.met.T.BinaryMatrix.is_table c.args.bits.now in
    let v = c.loop-column.invariant in
    let taken = c.loop-column.yielded in
    let first = first_places bit c.args.lt_columns taken _ c.in-None.ensures.steps.0 v.whole in
    let dense = on_ok_past c.query_non_zero_columns_into.result c.in_ok-map_err.ensures.variant c.query_non_zero_columns_into.ensures.ok in
    let places = places_together bit 0 c.args.lt_columns content.width (places_among taken) c.query_non_zero_columns_into.new.out.items (omega arith) (omega (arith, c.requires.lt_columns, table.within)) first dense in
    adds_ones c.args.columns.now.items (places_among taken) c.query_non_zero_columns_into.new.out.items c.as_slice.result.now c.loop-column.columns.items c.push_columns.new.columns.items v.columns c.in_ok-push_columns.ensures c.as_slice.ensures.value bit content.width places

pub overflow_cast-result : goal.overflow_cast-result
overflow_cast-result g c =
    let content = g.T.BinaryMatrix.content c.args.bits.now in
    let bit = content.bit c.args.row in
    let table = g.met.T.BinaryMatrix.is_table c.args.bits.now in
    let v = c.loop-column.invariant in
    let first = places_among c.loop-column.yielded in
    let low = first_places bit c.args.lt_columns c.loop-column.yielded _ c.in-None.ensures.steps.0 v.whole in
    let few = few_columns c.args.lt_columns first (record {
      within = All-weaker (λ k. (0 ≤ k) × (k < c.args.lt_columns)) (λ k. k < c.args.lt_columns) (λ k b. b.1) first low.within;
      once = λ k l. omega (arith, low.once k (omega arith) l, table.bits c.args.row k c.requires.row (omega (arith, l, c.requires.lt_columns, table.within)));
    }) in
    let long = ap length v.columns ∙ length-append c.args.columns.now.items first in
    omega (arith, few, long, c.args.columns.now.ok.0, c.loop-column.columns.ok.0, c.requires.lt_columns, table.within, table.width_fits)

pub returns-clause-counted : goal.returns-clause-counted
returns-clause-counted g c =
    let content = g.T.BinaryMatrix.content c.args.bits.now in
    let bit = content.bit c.args.row in
    let v = c.loop-column.invariant in
    let low = first_places bit c.args.lt_columns c.loop-column.yielded _ c.in-None.ensures.steps.0 v.whole in
    let dense = on_ok_past c.query_non_zero_columns_into.result c.in_ok-map_err.ensures.variant c.query_non_zero_columns_into.ensures.ok in
    let counted = adds_counted c.args.columns.now.items (places_among c.loop-column.yielded) c.query_non_zero_columns_into.new.out.items c.as_slice.result.now c.loop-column.columns.items c.push_columns.new.columns.items v.columns c.in_ok-push_columns.ensures c.as_slice.ensures.value bit c.args.lt_columns content.width low dense in
    omega (arith, counted, c.args.columns.now.ok.0, c.loop-column.columns.ok.0)

pub push_columns-requires : goal.push_columns-requires
push_columns-requires g c =
    let table = g.met.T.BinaryMatrix.is_table c.args.bits.now in
    let content = g.T.BinaryMatrix.content c.args.bits.now in
    let dense = on_ok_past c.query_non_zero_columns_into.result c.in_ok-map_err.ensures.variant c.query_non_zero_columns_into.ensures.ok in
    rw c.as_slice.ensures.value (All-weaker (λ k. (c.args.lt_columns ≤ k) × (k < content.width)) (λ k. k < 65536) (λ k b. let below = b.1 in omega (arith, below, table.width_fits)) c.query_non_zero_columns_into.new.out.items dense.within)
