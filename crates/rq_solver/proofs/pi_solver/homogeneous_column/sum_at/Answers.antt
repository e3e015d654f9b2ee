-- What the check leaves to show of `pi_solver::homogeneous_column::sum_at`.
use Rattle.std.proofs.Common.{refl, sym, ap, ◌∙◌, List, ℕ, bit_xor}
use Rattle.std.proofs.lemmas.List.{take_more}
use Rattle.rq_algebra.specs.Operations.{plain}
use Rattle.rq_algebra.specs.Parities.{sum_listed}
use Rattle.rq_algebra.specs.Systems.{at}
use Rattle.rq_standard.specs.OctetField.{octets}
use Rattle.rq_solver.proofs.ChangedColumns.{sum_plain-push}
use Rattle.rq_solver.proofs.pi_solver.homogeneous_column.sum_at.Goals as goal

pub loop-index-init : goal.loop-index-init
unfolding sum_listed
loop-index-init c = refl

pub loop-index-preserved : goal.loop-index-preserved
loop-index-preserved c =
    let indices = c.args.indices.now in
    let column = at c.args.column.now in
    let i = c.loop-index.index-index in
    ap (λ (s : ℕ). bit_xor s (column (at indices i))) c.loop-index.invariant ∙ sym (sum_plain-push octets _ (at indices i) column) ∙ ap (λ (l : List ℕ). sum_listed (plain octets) l column) (sym (take_more indices i 0 c.loop-index-test.true))
