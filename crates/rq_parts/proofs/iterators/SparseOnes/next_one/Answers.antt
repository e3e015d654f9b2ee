use Rattle.std.proofs.Common.{◌≡◌, get_or, inl, inr, ap, ◌∙◌, arith}
use Rattle.rq_parts.proofs.SparsePairs.{known_rest, left_skipped}
use Rattle.rq_parts.proofs.iterators.SparseOnes.next_one.Goals as goal
use Rattle.rq_parts.proofs.iterators.SparseOnes.next_one.Goals.{else-column-self-via-then-column-self+else-column-self-2, else-column-self-via-else-column-self}

pub invariant_of-self : goal.invariant_of-self
invariant_of-self c = let s = c.loop-one.self-inside in known_rest _ s.ones.now s.columns.now s.start s.end c.in-Some.one.now c.in-Some.rest.now c.in-Some.ensures.cases c.loop-one.invariant

pub loop-one-preserved : goal.loop-one-preserved
loop-one-preserved c =
    let s = c.loop-one.self-inside in
    let column : c.from-column.result ≡ get_or s.columns.now c.in-Some.one.now 0 = c.from-column.ensures ∙ ap (λ k. get_or s.columns.now k 0) c.from.ensures in
    left_skipped _ s.ones.now s.columns.now s.start s.end c.in-Some.one.now c.in-Some.rest.now c.in-Some.ensures.cases c.loop-one.invariant (elim c.else-column-self.branch [
      | else-column-self-via-then-column-self+else-column-self-2 w ↦ inr (omega (arith, column, w.if-column-self-2.false))
      | else-column-self-via-else-column-self w ↦ inl (omega (arith, column, w.if-column-self.false))
    ])
