-- What the check leaves to show of `pi_solver::homogeneous_column::solve_pivot_rows`.
use Rattle.std.proofs.Common.{◌≡◌, ◌<◌, List, ℕ, length, ap, ◌∙◌, arith}
use Rattle.rq_algebra.specs.Operations.{plain}
use Rattle.rq_algebra.specs.Parities.{sum_listed}
use Rattle.rq_algebra.specs.Systems.{at}
use Rattle.rq_standard.specs.OctetField.{octets}
use Rattle.rq_peeling.specs.RowOnes.{ones_of}
use Rattle.rq_solver.proofs.SetColumns.{pivot_left, pivot_solves, pivot_zeros, set_elements}
use Rattle.rq_solver.proofs.pi_solver.homogeneous_column.solve_pivot_rows.Goals as goal

pub loop-pivot-preserved : goal.loop-pivot-preserved
loop-pivot-preserved c =
    let e = c.args.peeled.now in
    let peels = c.requires.under_way.pivots.peeled in
    let others = c.args.left.now in
    let table = c.args.recorded.now.table in
    let kept = c.loop-pivot.invariant in
    let p = c.loop-pivot.pivot in
    let old = c.loop-pivot.column in
    let value = c.sum_at.result in
    let inside : p < length e.peeling.rows = omega (arith, c.loop-pivot-test.true, c.pivots-pivot-end.ensures) in
    let within : p < length e.peeling.places = omega (arith, inside, e.few_pivots) in
    let is : value ≡ sum_listed (plain octets) (ones_of e.ones (at e.peeling.rows p)) (at old) =
    c.sum_at.ensures ∙ ap (λ (ones : List ℕ). sum_listed (plain octets) ones (at old)) (c.row-ones.ensures ∙ ap (ones_of e.ones) c.row_of.ensures) in
    rw c.column_at.ensures (record {
      elements = set_elements e peels others table old kept.left.count p value within kept.elements (omega (arith, c.sum_at.type_inv));
      left = pivot_left e peels others table old kept.left.count p value inside kept.left;
      zeros = pivot_zeros e peels others table old kept.left.count p value inside kept.zeros;
      solved = pivot_solves e peels others table old kept.left.count p value inside kept.elements kept.zeros is kept.solved;
    })
