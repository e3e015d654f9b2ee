-- What the check leaves to show of `row_multiples::add_row_multiple`.
use Rattle.std.proofs.Common.{◌≡◌, ℕ, sym, ap, ◌∙◌}
use Rattle.rq_standard.specs.Octets.{octet_mul}
use Rattle.rq_standard.specs.Rows.{row_sum, row_multiple}
use Rattle.rq_bytes.proofs.LaneFacts.{made_added}
use Rattle.rq_bytes.proofs.Multiples.{times_one}
use Rattle.rq_bytes.proofs.row_multiples.add_row_multiple.Goals as goal

pub returns-then-byte-eq1-clause-sum : goal.returns-then-byte-eq1-clause-sum
returns-then-byte-eq1-clause-sum c =
    let other = c.args.other.now in
    let one : c.args.scalar.now ≡ 1 = sym c.byte.ensures ∙ c.if-byte-eq1.true in
    c.add_assign.ensures
    ∙ ap (row_sum c.args.octets.now) (sym (ap (λ a. row_multiple a other) one ∙ times_one other (λ i l. (c.type_inv.other i).fits)))

pub returns-else-byte-eq1-clause-sum : goal.returns-else-byte-eq1-clause-sum
returns-else-byte-eq1-clause-sum c =
    let other = c.args.other.now in
    c.change_row.ensures
    ∙ made_added (octet_mul c.new.result.octet) c.args.octets.now other c.requires
    ∙ ap (λ (a : ℕ). row_sum c.args.octets.now (row_multiple a other)) (c.new.ensures ∙ c.byte-else-byte-eq1.ensures)
