-- What the check leaves to show of `pi_solver::second_phase::scale_row`.
use Rattle.std.proofs.Common.{◌≡◌, ◌≢◌, ℕ, ◌<◌, length, ◌∙◌, sym, subst}
use Rattle.rq_algebra.specs.Steps.{ScalesRow}
use Rattle.rq_algebra.proofs.Sums.{inverse_nonzero}
use Rattle.rq_standard.specs.OctetField.{octets}
use Rattle.rq_parts.specs.DenseOctetMatrix.{entry_of}
use Rattle.rq_elimination.proofs.ChangedEntries.{one_scales, one-div}
use Rattle.rq_elimination.proofs.Performing.{changes_none, changes_scaling, scales_of_scaling}
use Rattle.rq_solver.proofs.pi_solver.second_phase.scale_row.Goals as goal
use Rattle.rq_solver.proofs.pi_solver.second_phase.scale_row.Goals.{After-div-scalar}

-- the factor makes the entry 1
module _ (c : After-div-scalar) where
  small : entry_of c.args.recorded.now.table c.args.row c.args.column < 256
  small = c.args.recorded.now.octets.elements c.args.row c.args.column c.requires.row c.requires.column

  is : c.div-scalar.result ≡ octets.inverse (entry_of c.args.recorded.now.table c.args.row c.args.column)
  is = cc (c.div-scalar.ensures, c.one.ensures, c.get-entry.ensures, one-div (entry_of c.args.recorded.now.table c.args.row c.args.column) small c.requires.nonzero)

  scalar_small : c.div-scalar.result < 256
  scalar_small = rw is (octets.inverse_below _ small c.requires.nonzero)

  scalar_nonzero : c.div-scalar.result ≢ 0
  scalar_nonzero = rw is (inverse_nonzero octets _ small c.requires.nonzero)

pub returns-then-byte-eq1-clause-steps : goal.returns-then-byte-eq1-clause-steps
returns-then-byte-eq1-clause-steps c = changes_none _ _

pub returns-then-byte-eq1-clause-scaled : goal.returns-then-byte-eq1-clause-scaled
returns-then-byte-eq1-clause-scaled c = one_scales c.args.recorded.now.table c.args.row _ c.args.recorded.now.octets c.requires.row (sym c.get-entry.ensures ∙ sym c.byte.ensures ∙ c.if-byte-eq1.true)

pub multiply_row-requires-clause-nonzero : goal.multiply_row-requires-clause-nonzero
multiply_row-requires-clause-nonzero c = scalar_nonzero (goal.at.multiply_row-requires-clause-nonzero c).After-div-scalar

pub returns-clause-steps : goal.returns-clause-steps
returns-clause-steps c =
    let at = (goal.at.returns-clause-steps c).After-div-scalar in
    changes_scaling c.args.recorded.now c.multiply_row.new.self c.args.row c.div-scalar.result (scalar_small at) (scalar_nonzero at) c.in_ok-multiply_row.ensures.multiplied

pub returns-clause-scaled : goal.returns-clause-scaled
returns-clause-scaled c =
    subst (λ (s : ℕ). ScalesRow octets (length c.args.recorded.now.table.rows) c.args.recorded.now.table.width c.args.row s (entry_of c.args.recorded.now.table) (entry_of c.multiply_row.new.self.table)) (is (goal.at.returns-clause-scaled c).After-div-scalar)
    (scales_of_scaling c.args.recorded.now c.multiply_row.new.self c.args.row c.div-scalar.result c.requires.row c.in_ok-multiply_row.ensures.multiplied)
