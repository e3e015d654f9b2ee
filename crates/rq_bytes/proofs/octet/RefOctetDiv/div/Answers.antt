-- What the check leaves to show of `octet::RefOctetDiv::div`.
use Rattle.std.proofs.Common.{◌<◌, ap, sym, ◌∙◌, arith, subst}
use Rattle.rq_standard.specs.Octets.{octet_div}
use Rattle.rq_standard.proofs.Powers.{power-lt, zero-div, div_by_powers}
use Rattle.rq_bytes.proofs.octet.RefOctetDiv.div.Goals as goal

pub returns-then-self-eq0 : goal.returns-then-self-eq0
returns-then-self-eq0 c = let b = c.args.other.now in c.zero.ensures ∙ sym (ap (λ x. octet_div x b) (sym c.self.view_is ∙ c.if-self-eq0.true) ∙ zero-div b)

pub returns : goal.returns
returns c =
    let m = c.logarithm.result in
    let n = c.logarithm-2.result in
    let p = c.logarithm.ensures.power ∙ c.self.view_is in
    let q = c.logarithm-2.ensures.power ∙ c.other.view_is in
    c.power.ensures
    ∙ div_by_powers c.args.self.now c.args.other.now m n (subst (λ x. x < 256) p (power-lt m)) (subst (λ x. x < 256) q (power-lt n))
    c.requires p q (omega arith)
