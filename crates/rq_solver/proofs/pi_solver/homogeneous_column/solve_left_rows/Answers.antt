-- What the check leaves to show of `pi_solver::homogeneous_column::solve_left_rows`.
use Rattle.std.proofs.Common.{◌≡◌, ◌+◌, ◌-◌, ℕ, ap, ◌∙◌, arith, inl, inr}
use Rattle.std.proofs.lemmas.Bool.{cases_eq, cases_lt}
use Rattle.rq_algebra.specs.Systems.{at}
use Rattle.rq_algebra.proofs.Sums.{dot_zero, mul_zero, zero_mul}
use Rattle.rq_standard.specs.OctetField.{octets}
use Rattle.rq_parts.specs.DenseOctetMatrix.{entry_of}
use Rattle.rq_solver.specs.Peeled.{inactive_count}
use Rattle.rq_solver.specs.HomogeneousColumns.{inactive_entry}
use Rattle.rq_solver.proofs.SetColumns.{solves_first, solves_next}
use Rattle.rq_solver.proofs.pi_solver.homogeneous_column.solve_left_rows.Goals as goal
use Rattle.rq_solver.proofs.pi_solver.homogeneous_column.solve_left_rows.Goals.{After-free_column-free}

-- where the elimination stopped
module _ (c : After-free_column-free) where
  free_is : c.free_column-free.result ≡ c.requires.stuck.done
  free_is =
      let columns : c.width.result - c.pivots.result ≡ inactive_count c.args.peeled.now.peeling = omega (arith, c.width.ensures, c.pivots.ensures) in
      (rw columns at c.free_column-free.ensures) c.requires.stuck

pub inactive_column-requires : goal.inactive_column-requires
inactive_column-requires c = omega (arith, free_is c, c.requires.stuck.below, c.requires.under_way.pivots.peeled.peeled.columns.order_count)

pub loop-done-init : goal.loop-done-init
loop-done-init c =
    let free = c.free_column-free.result in
    let is = free_is (goal.at.loop-done-init c).After-free_column-free in
    rw c.inactive_column.ensures
    (solves_first c.args.peeled.now c.requires.under_way.pivots.peeled c.args.left.now c.args.recorded.now.table c.args.column.now c.requires.count
    free (free - 0) (omega arith) (omega (arith, is, c.requires.stuck.below)) c.requires.zeros)

pub sum_behind-requires-clause-row : goal.sum_behind-requires-clause-row
sum_behind-requires-clause-row c = omega (arith, free_is (goal.at.sum_behind-requires-clause-row c).After-free_column-free, c.requires.stuck.echelon.fits, c.loop-done-test.true)

pub sum_behind-requires-clause-column : goal.sum_behind-requires-clause-column
sum_behind-requires-clause-column c = omega (arith, free_is (goal.at.sum_behind-requires-clause-column c).After-free_column-free, c.requires.stuck.below, c.loop-done-test.true)

pub inactive_column-requires-in-loop-done : goal.inactive_column-requires-in-loop-done
inactive_column-requires-in-loop-done c =
    let columns = c.requires.under_way.pivots.peeled.peeled.columns in
    omega (arith, free_is (goal.at.inactive_column-requires-in-loop-done c).After-free_column-free, c.requires.stuck.below, columns.order_count)

pub loop-done-preserved : goal.loop-done-preserved
loop-done-preserved c =
    let stuck = c.requires.stuck in
    let kept = c.loop-done.invariant in
    let free = c.free_column-free.result in
    let done = c.loop-done.done in
    let is = free_is (goal.at.loop-done-preserved c).After-free_column-free in
    rw c.inactive_column-in-loop-done.ensures
    (solves_next c.args.peeled.now c.requires.under_way.pivots.peeled c.args.left.now c.args.recorded.now.table c.loop-done.column kept.count
    free (free - done) (free - 1 - done) (free - (done + 1)) c.sum_behind.result (omega (arith, c.loop-done-test.true)) (omega (arith, is, stuck.below))
    (omega (arith, c.loop-done-test.true)) (omega arith) (rw is stuck.echelon) (omega (arith, c.sum_behind.type_inv)) kept c.sum_behind.ensures)

pub returns-clause-left : goal.returns-clause-left
returns-clause-left c =
    let e = c.args.peeled.now in
    let kept = c.loop-done.invariant in
    let free = c.free_column-free.result in
    let stuck = c.requires.stuck in
    let is = free_is (goal.at.returns-clause-left c).After-free_column-free in
    record {
      count = kept.count;
      rows = λ q l. elim (cases_lt q free) [
        | inl before ↦ kept.solved q (omega (arith, c.loop-done-test.false)) before
        | inr from ↦
            let row = entry_of c.args.recorded.now.table (at c.args.left.now q) in
            let entries = inactive_entry e.peeling c.loop-done.column in
            dot_zero octets (inactive_count e.peeling) row entries (λ f m. elim (cases_lt free f) [
              | inl behind ↦ ap (octets.mul (row f)) (kept.behind f behind m) ∙ mul_zero octets (row f)
              | inr upto ↦
                  let none : row f ≡ 0 = elim (cases_eq f stuck.done) [
                    | inl same ↦ rw same (stuck.empty q (omega (arith, is, from)) l)
                    | inr apart ↦ stuck.echelon.zeros q f l (omega (arith, is, from, upto, apart)) (omega (arith, is, upto, apart))
                  ] in
                  ap (λ (v : ℕ). octets.mul v (entries f)) none ∙ zero_mul octets (entries f)
            ])
      ];
      place = free;
      below = omega (arith, is, stuck.below);
      nonzero = λ zero. omega (arith, kept.one, zero);
    }
