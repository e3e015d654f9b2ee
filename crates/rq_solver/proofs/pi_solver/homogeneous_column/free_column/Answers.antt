-- What the check leaves to show of `pi_solver::homogeneous_column::free_column`.
use Rattle.std.proofs.Common.{ap, ℕ, sym, ◌∙◌, arith, inl, inr}
use Rattle.std.proofs.lemmas.Bool.{cases_eq, cases_lt}
use Rattle.rq_algebra.specs.Systems.{at}
use Rattle.rq_parts.specs.DenseOctetMatrix.{entry_of}
use Rattle.rq_solver.proofs.pi_solver.homogeneous_column.free_column.Goals as goal

pub loop-column-preserved : goal.loop-column-preserved
loop-column-preserved c =
    λ f l zero. elim (cases_eq f c.loop-column.column) [
      | inl same ↦ c.if-byte-eq0.false (c.byte.ensures ∙ c.get.ensures ∙ ap (λ (i : ℕ). entry_of c.args.table.now (at c.args.rows.now i) i) (sym same) ∙ zero)
      | inr apart ↦ c.loop-column.invariant f (omega arith) zero
    ]

pub returns : goal.returns
returns c =
    λ stuck. elim (cases_lt stuck.done c.min-end.result) [
      | inl before ↦ absurd (c.loop-column.invariant stuck.done (omega (arith, before, c.loop-column-test.false)) (stuck.empty stuck.done (omega arith) (omega (arith, before, c.min-end.ensures))))
      | inr from ↦ omega (arith, from, c.min-end.ensures, stuck.below, stuck.echelon.fits)
    ]
