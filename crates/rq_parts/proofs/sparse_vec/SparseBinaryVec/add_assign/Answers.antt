use Rattle.std.proofs.Common.{subst, ◌∙◌}
use Rattle.rq_parts.specs.SparseBinaryVec.{IsListedSum}
use Rattle.rq_parts.proofs.sparse_vec.SparseBinaryVec.add_assign.Goals as goal

pub returns-clause-sum : goal.returns-clause-sum
returns-clause-sum c =
    let sum = c.in_ok-sum.sum.items in
    let other = subst (λ ys. IsListedSum c.deref.result.now ys sum) (c.deref-2.ensures ∙ c.other.view_is) c.in_ok-sum.ensures.sum in
    subst (λ xs. IsListedSum xs c.args.other.now sum) (c.deref.ensures ∙ c.self.view_is) other
