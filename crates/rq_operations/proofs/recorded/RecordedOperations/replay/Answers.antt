-- What the check leaves to show of `recorded::RecordedOperations::replay`.
use Rattle.std.proofs.Common.{◌≡◌, ℕ, [], ◌∷◌, ◌++◌, List, length, map, ap, ◌∙◌}
use Rattle.std.specs.List.{AllZip}
use Rattle.std.proofs.lemmas.List.{map-id}
use Rattle.std.proofs.lemmas.Slice.Zip.{AllZip-map}
use Rattle.rq_algebra.specs.Operations.{Operation, Reorder, IsOrder}
use Rattle.rq_algebra.proofs.OperationRuns.{AreAllowed-middle}
use Rattle.rq_bytes.specs.SymbolSlab.{after, after_all}
use Rattle.rq_bytes.proofs.SlabSums.{after_more}
use Rattle.rq_operations.specs.RecordedSteps.{operation_of_step}
use Rattle.rq_operations.proofs.Performed.{AreAllowed-before, length-after_all}
use Rattle.rq_operations.proofs.recorded.RecordedOperations.replay.Goals as goal

-- a clone of an order is the same order
same_order : (xs ys : List ℕ) → AllZip (λ x y. y ≡ x) xs ys → ys ≡ xs
same_order xs ys all = AllZip-map (λ x. x) xs ys all ∙ map-id xs

pub replay-requires : goal.replay-requires
replay-requires c =
    let slab = c.args.symbols.now in
    let recorded = c.args.self.now in
    rw c.as_slice.ensures.value
    (AreAllowed-before (length slab.values) slab.order (map operation_of_step recorded.steps.items) (Reorder recorded.order.items ∷ []) c.requires)

pub set_reorder-requires : goal.set_reorder-requires
set_reorder-requires c =
    let slab = c.args.symbols.now in
    let recorded = c.args.self.now in
    let is : IsOrder (length slab.values) recorded.order.items = AreAllowed-middle (length slab.values) slab.order (map operation_of_step recorded.steps.items) (Reorder recorded.order.items) [] c.requires in
    rw (c.replay.ensures, length-after_all (map operation_of_step c.as_slice.result.now) slab, same_order recorded.order.items c.in_ok-order.order.items c.in_ok-order.ensures.cases.0) is

pub returns-clause-ok : goal.returns-clause-ok
returns-clause-ok c =
    let slab = c.args.symbols.now in
    let recorded = c.args.self.now in
    c.set_reorder.ensures
    ∙ ap (λ (l : List ℕ). after (Reorder l) c.replay.new.symbols) (same_order recorded.order.items c.in_ok-order.order.items c.in_ok-order.ensures.cases.0)
    ∙ ap (after (Reorder recorded.order.items)) c.replay.ensures
    ∙ after_more (map operation_of_step c.as_slice.result.now) (Reorder recorded.order.items) slab
    ∙ ap (λ (l : List Operation). after_all l slab) (ap (λ l. map operation_of_step l ++ Reorder recorded.order.items ∷ []) c.as_slice.ensures.value)
