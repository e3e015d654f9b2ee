-- What the check leaves to show of `pi_solver::second_phase::clear_entry`.
use Rattle.std.proofs.Common.{ℕ, length, sym, ◌∙◌, subst}
use Rattle.rq_algebra.specs.Steps.{AddsRow}
use Rattle.rq_standard.specs.OctetField.{octets}
use Rattle.rq_parts.specs.DenseOctetMatrix.{entry_of}
use Rattle.rq_elimination.proofs.ChangedEntries.{zero_adds}
use Rattle.rq_elimination.proofs.Performing.{adds_of_sum, changes_none, changes_sum}
use Rattle.rq_solver.proofs.pi_solver.second_phase.clear_entry.Goals as goal

pub returns-then-byte-eq0-clause-steps : goal.returns-then-byte-eq0-clause-steps
returns-then-byte-eq0-clause-steps c = changes_none _ _

pub returns-then-byte-eq0-clause-added : goal.returns-then-byte-eq0-clause-added
returns-then-byte-eq0-clause-added c = zero_adds _ _ _ _ (sym c.get-scalar.ensures ∙ sym c.byte.ensures ∙ c.if-byte-eq0.true)

pub returns-clause-steps : goal.returns-clause-steps
returns-clause-steps c = changes_sum c.args.recorded.now c.add_multiple.new.self c.args.dest c.args.src c.get-scalar.result (λ e. c.requires.two (sym e)) c.in_ok-add_multiple.ensures.added

pub returns-clause-added : goal.returns-clause-added
returns-clause-added c =
    let old = c.args.recorded.now.table in
    let new = c.add_multiple.new.self.table in
    subst (λ (s : ℕ). AddsRow octets (length old.rows) old.width c.args.dest c.args.src s (entry_of old) (entry_of new)) c.get-scalar.ensures
    (adds_of_sum c.args.recorded.now c.add_multiple.new.self c.args.dest c.args.src c.get-scalar.result c.requires.dest c.requires.src c.in_ok-add_multiple.ensures.added)
