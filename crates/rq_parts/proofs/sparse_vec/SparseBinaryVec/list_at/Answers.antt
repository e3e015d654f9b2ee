-- What the check leaves to show of `sparse_vec::SparseBinaryVec::list_at`.
use Rattle.std.proofs.Common.{◌≡◌, ℕ, List, [], ◌∷◌, ◌++◌, length, ap, sym, subst, ◌∙◌, arith}
use Rattle.std.specs.List.{insert, refill}
use Rattle.std.specs.List.Sorted.{IsStrictlyIncreasing}
use Rattle.rq_parts.specs.SparseBinaryVec.{SetsListed}
use Rattle.rq_parts.proofs.ListedBits.{rises-with, sets-inserted}
use Rattle.rq_parts.proofs.InsertedLower.{inserted_whole}
use Rattle.rq_parts.proofs.sparse_vec.SparseBinaryVec.list_at.Goals as goal

inserted : (c : goal.After-self-1) → refill (length c.push.new.ones.items) c.push.new.ones.items c.move_last_to.new.ones ≡ insert c.args.self.now c.args.gap c.args.i
inserted c =
    let pushed = c.in_ok-push.ensures.ok ∙ ap (λ (xs : List ℕ). xs ++ c.args.i ∷ []) c.self.view_is in
    inserted_whole c.args.self.now c.push.new.ones.items c.move_last_to.new.ones c.args.i c.args.gap c.requires.gap.within
    pushed (c.move_last_to.ensures c.args.self.now c.args.i (c.deref_mut.ensures.value ∙ pushed))

rises : (c : goal.After-self-1) → IsStrictlyIncreasing (insert c.args.self.now c.args.gap c.args.i)
rises c = rises-with c.args.self.now c.args.i c.args.gap (subst IsStrictlyIncreasing c.self.view_is c.self.invariant) c.requires.gap

pub invariant_of-self-2 : goal.invariant_of-self-2
invariant_of-self-2 c = subst IsStrictlyIncreasing (sym (inserted c)) (rises c)

pub returns-clause-ok : goal.returns-clause-ok
returns-clause-ok c =
    subst (SetsListed c.args.self.now c.args.i 1) (sym (inserted c)) (sets-inserted c.args.self.now c.args.i c.args.gap 1 (λ zero. omega arith) c.requires.gap)

pub returns-clause-increasing : goal.returns-clause-increasing
returns-clause-increasing c = subst IsStrictlyIncreasing (sym (inserted c)) (rises c)
