-- What the check leaves to show of `arraymap::U32VecMap::new`.
use Rattle.std.proofs.Common.{ℕ, ◌-◌, List, get_or, ap, ◌∙◌}
use Rattle.rq_algebra.proofs.Placewise.{at-zeros}
use Rattle.rq_parts.proofs.arraymap.U32VecMap.new.Goals as goal

pub returns-clause-zeros : goal.returns-clause-zeros
returns-clause-zeros c =
    λ k. ap (λ (xs : List ℕ). get_or xs (k - c.args.start_key) 0) c.in_ok-elements.ensures ∙ at-zeros 1 (k - c.args.start_key)
