-- What the check leaves to show of `null_vector::clear_entry`.
use Rattle.std.proofs.Common.{◌<◌, sym, ◌∙◌, subst, ℕ, length}
use Rattle.rq_algebra.specs.Steps.{AddsRow}
use Rattle.rq_standard.specs.OctetField.{octets}
use Rattle.rq_parts.specs.DenseOctetMatrix.{entry_of}
use Rattle.rq_elimination.proofs.ChangedEntries.{zero_adds}
use Rattle.rq_null_vector.proofs.ZeroValues.{adds_row, added_keeps}
use Rattle.rq_null_vector.proofs.null_vector.clear_entry.Goals as goal

pub returns-then-byte-ne0-clause-keeps : goal.returns-then-byte-ne0-clause-keeps
returns-then-byte-ne0-clause-keeps c =
    let small : c.get-scalar.result < 256 = rw c.get-scalar.ensures (c.requires.octets.elements c.args.dest c.args.column c.requires.dest c.requires.column) in
    added_keeps c.args.matrix.now c.requires.octets c.args.dest c.get-scalar.result c.requires.dest small c.fma_rows.new.self c.args.src c.requires.src c.fma_rows.ensures (λ e. c.requires.two (sym e))

pub returns-then-byte-ne0-clause-added : goal.returns-then-byte-ne0-clause-added
returns-then-byte-ne0-clause-added c =
    let small : c.get-scalar.result < 256 = rw c.get-scalar.ensures (c.requires.octets.elements c.args.dest c.args.column c.requires.dest c.requires.column) in
    subst (λ (s : ℕ). AddsRow octets (length c.args.matrix.now.rows) c.args.matrix.now.width c.args.dest c.args.src s (entry_of c.args.matrix.now) (entry_of c.fma_rows.new.self)) c.get-scalar.ensures
    (adds_row c.args.matrix.now c.requires.octets c.args.dest c.get-scalar.result c.requires.dest small c.fma_rows.new.self c.args.src c.requires.src c.fma_rows.ensures)

pub returns-else-byte-ne0-clause-added : goal.returns-else-byte-ne0-clause-added
returns-else-byte-ne0-clause-added c = zero_adds _ _ _ _ (sym c.get-scalar.ensures ∙ sym c.byte.ensures ∙ c.if-byte-ne0.false)
