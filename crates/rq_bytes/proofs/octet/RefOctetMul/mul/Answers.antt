-- What the check leaves to show of `octet::RefOctetMul::mul`.
use Rattle.std.proofs.Common.{ap, sym, ◌∙◌}
use Rattle.rq_standard.specs.Octets.{octet_mul}
use Rattle.rq_standard.specs.OctetProducts.{zero-mul, mul-zero}
use Rattle.rq_standard.proofs.Powers.{mul_by_powers}
use Rattle.rq_bytes.proofs.octet.RefOctetMul.mul.Goals as goal
use Rattle.rq_bytes.proofs.octet.RefOctetMul.mul.Goals.{then-self-eq0-via-then-self-eq0, then-self-eq0-via-else-self-eq0+then-other-eq0}

pub returns-then-self-eq0 : goal.returns-then-self-eq0
returns-then-self-eq0 c =
    let a = c.args.self.now in
    let b = c.args.other.now in
    elim c.then-self-eq0.branch [
      | then-self-eq0-via-then-self-eq0 w ↦ c.zero.ensures ∙ sym (ap (λ x. octet_mul x b) (sym c.self.view_is ∙ w.if-self-eq0.true) ∙ zero-mul b)
      | then-self-eq0-via-else-self-eq0+then-other-eq0 w ↦ c.zero.ensures ∙ sym (ap (octet_mul a) (sym c.other.view_is ∙ w.if-other-eq0.true) ∙ mul-zero a)
    ]

pub returns : goal.returns
returns c =
    c.power.ensures
    ∙ mul_by_powers c.args.self.now c.args.other.now c.logarithm.result c.logarithm-2.result
    (c.logarithm.ensures.power ∙ c.self.view_is) (c.logarithm-2.ensures.power ∙ c.other.view_is)
