-- What the check leaves to show of `octets::mulassign_scalar`.
use Rattle.std.proofs.Common.{ℕ, ap, ◌∙◌}
use Rattle.rq_standard.specs.Octets.{octet_mul}
use Rattle.rq_standard.specs.Rows.{row_multiple}
use Rattle.rq_bytes.proofs.LaneFacts.{alone}
use Rattle.rq_bytes.proofs.octets.mulassign_scalar.Goals as goal

pub returns-clause-multiple : goal.returns-clause-multiple
returns-clause-multiple c =
    c.change_row.ensures
    ∙ alone (octet_mul c.byte.result) c.args.octets.now 0
    ∙ ap (λ (a : ℕ). row_multiple a c.args.octets.now) c.byte.ensures
