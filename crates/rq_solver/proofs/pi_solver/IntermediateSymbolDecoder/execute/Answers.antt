-- What the check leaves to show of `pi_solver::IntermediateSymbolDecoder::execute`.
use Rattle.std.proofs.Common.{None, length, refl, sym, ◌∙◌, subst, arith}
use Rattle.rq_algebra.specs.Operations.{AreAllowed}
use Rattle.rq_standard.specs.ConstraintMatrix.{with_octet_rows}
use Rattle.rq_operations.specs.RecordedOperations.{operations_of}
use Rattle.rq_parts.specs.DenseOctetMatrix.{entry_of}
use Rattle.rq_elimination.proofs.PhaseTotals.{totals_of}
use Rattle.rq_solver.proofs.SolutionLaws.{counts_operations, is_solution, if_some, outcome_in_order, recorded_found}
use Rattle.rq_solver.proofs.pi_solver.IntermediateSymbolDecoder.execute.Goals as goal

pub replay-requires : goal.replay-requires
replay-requires g c =
    let solver = c.args.self.now in
    let operations = operations_of c.in-Some-determined.operations in
    let finds = rw c.in-Some-determined.is at
    (recorded_found _ _ _ _ c.determined.result c.in_ok-found.ensures.found (rw c.determined.ensures c.in_row_order.ensures.found)) in
    let handed = c.in-Some.symbols in
    let some = sym c.in-Some.ensures.value in
    subst (λ o. AreAllowed (length handed.values) o operations) (sym (solver.unordered handed some)) (subst (λ n. AreAllowed n None operations) (sym (solver.counted handed some)) finds.allowed)

pub counts-self-requires : goal.counts-self-requires
counts-self-requires g c = outcome_in_order c.in_ok-found.ensures.phases.system c.in_ok-found.found c.in_ok-found.ensures.phases.phases

pub returns-clause-solved : goal.returns-clause-solved
returns-clause-solved g c =
    let solver = c.args.self.now in
    let m = g.T.BinaryMatrix.content solver.matrix in
    let rows = with_octet_rows solver.first_hdpc (length solver.hdpc.rows) m.bit (entry_of solver.hdpc) in
    let handed = c.in-Some.symbols in
    let operations = operations_of c.in-Some-determined.operations in
    let finds = rw c.in-Some-determined.is at
    (recorded_found _ _ _ _ c.determined.result c.in_ok-found.ensures.found (rw c.determined.ensures c.in_row_order.ensures.found)) in
    if_some solver.symbols handed _ (sym c.in-Some.ensures.value)
    (rw c.in_ok-into_symbol_ops.ensures
    (is_solution m.height m.width rows operations finds handed _ (solver.unordered handed (sym c.in-Some.ensures.value)) (c.symbols-2.view_is ∙ c.in_ok-replay.ensures.ok)))

pub returns-in_default-determined-clause-counted : goal.returns-in_default-determined-clause-counted
returns-in_default-determined-clause-counted g c =
    counts_operations _ _ c.in_ok-found.found c.counts-self.result None c.in_ok-found.ensures.phases c.counts-self.ensures refl refl
    (rw (← c.determined.ensures, c.in_default-determined.is) at c.in_row_order.ensures.found)

pub returns-clause-counted : goal.returns-clause-counted
returns-clause-counted g c =
    rw c.in_ok-into_symbol_ops.ensures
    (counts_operations _ _ c.in_ok-found.found c.counts-self.result _ c.in_ok-found.ensures.phases c.counts-self.ensures refl refl
    (rw (← c.determined.ensures, c.in-Some-determined.is) at c.in_row_order.ensures.found))

pub invariant_of-self-2-clause-few_additions : goal.invariant_of-self-2-clause-few_additions
invariant_of-self-2-clause-few_additions g c =
    let found = c.in_ok-found.found in
    let in_order = outcome_in_order c.in_ok-found.ensures.phases.system found c.in_ok-found.ensures.phases.phases in
    let totals = totals_of found.ends found.operations c.counts-self.result in_order c.counts-self.ensures in
    omega (arith, totals.additions_are, c.in_ok-found.ensures.few)
