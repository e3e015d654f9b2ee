-- What the check leaves to show of `row_multiples::multiply_row`.
use Rattle.std.proofs.Common.{ℕ, ap, sym, ◌∙◌}
use Rattle.rq_standard.specs.Octets.{octet_mul}
use Rattle.rq_standard.specs.Rows.{row_multiple}
use Rattle.rq_bytes.proofs.LaneFacts.{alone}
use Rattle.rq_bytes.proofs.row_multiples.multiply_row.Goals as goal

pub returns-then-byte-eq2-clause-multiple : goal.returns-then-byte-eq2-clause-multiple
returns-then-byte-eq2-clause-multiple c =
    c.change_row.ensures ∙ alone (octet_mul 2) c.args.octets.now 0 ∙ ap (λ (a : ℕ). row_multiple a c.args.octets.now) (sym c.if-byte-eq2.true ∙ c.byte.ensures)

pub returns-else-byte-eq2-clause-multiple : goal.returns-else-byte-eq2-clause-multiple
returns-else-byte-eq2-clause-multiple c =
    c.change_row-else-byte-eq2.ensures ∙ alone (octet_mul c.new-products.result.octet) c.args.octets.now 0 ∙ ap (λ (a : ℕ). row_multiple a c.args.octets.now) (c.new-products.ensures ∙ c.byte-else-byte-eq2.ensures)
