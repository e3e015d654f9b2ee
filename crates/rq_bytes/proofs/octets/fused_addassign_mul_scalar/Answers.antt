-- What the check leaves to show of `octets::fused_addassign_mul_scalar`.
use Rattle.std.proofs.Common.{ℕ, ap, ◌∙◌}
use Rattle.rq_standard.specs.Octets.{octet_mul}
use Rattle.rq_standard.specs.Rows.{row_sum, row_multiple}
use Rattle.rq_bytes.proofs.LaneFacts.{made_added}
use Rattle.rq_bytes.proofs.octets.fused_addassign_mul_scalar.Goals as goal

pub returns-clause-sum : goal.returns-clause-sum
returns-clause-sum c =
    c.change_row.ensures
    ∙ made_added (octet_mul c.byte.result) c.args.octets.now c.args.other.now c.requires
    ∙ ap (λ (a : ℕ). row_sum c.args.octets.now (row_multiple a c.args.other.now)) c.byte.ensures
