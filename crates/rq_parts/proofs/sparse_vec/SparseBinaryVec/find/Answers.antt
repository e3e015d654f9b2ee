-- What the check leaves to show of `sparse_vec::SparseBinaryVec::find`.
use Rattle.std.proofs.Common.{◌≡◌, ◌-◌, ℕ, List, get_or, ap, subst, ◌∙◌, arith}
use Rattle.std.specs.List.Sorted.{IsStrictlyIncreasing}
use Rattle.rq_parts.proofs.ListedBits.{gap-behind}
use Rattle.rq_parts.proofs.sparse_vec.SparseBinaryVec.find.Goals as goal
use Rattle.rq_parts.proofs.sparse_vec.SparseBinaryVec.find.Goals.{then-loop-gap-test+else-from-i, else-loop-gap-test, else-gap-gt0-via-then-gap-gt0+else-from-i-2, else-gap-gt0-via-else-gap-gt0}

pub returns-else-gap-gt0-clause-missing : goal.returns-else-gap-gt0-clause-missing
returns-else-gap-gt0-clause-missing c =
    let items = c.as_slice-ones.result.now in
    let read = c.as_slice-ones.ensures ∙ c.self.view_is in
    let rises = subst IsStrictlyIncreasing c.self.view_is c.self.invariant in
    gap-behind c.args.self.now c.args.i c.loop-gap.gap rises c.loop-gap.invariant.within
    (λ some. elim c.else-gap-gt0.branch [
      | else-gap-gt0-via-then-gap-gt0+else-from-i-2 w ↦ elim c.loop-gap-test.branch [
        | then-loop-gap-test+else-from-i v ↦
            let same : get_or items (c.loop-gap.gap - 1) 0 ≡ get_or c.args.self.now (c.loop-gap.gap - 1) 0 = ap (λ (xs : List ℕ). get_or xs (c.loop-gap.gap - 1) 0) read in
            omega (arith, same)
        | else-loop-gap-test v ↦ absurd (omega arith)
      ]
      | else-gap-gt0-via-else-gap-gt0 w ↦ absurd (omega arith)
    ])
    c.loop-gap.invariant.behind
