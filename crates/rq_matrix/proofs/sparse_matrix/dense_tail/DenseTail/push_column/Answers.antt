-- What the check leaves to show of `sparse_matrix::dense_tail::DenseTail::push_column`.
use Rattle.std.proofs.Common.{◌≡◌, ℕ, ◌+◌, ◌*◌, ◌/◌, ◌<◌, ◌≤◌, ◌⊎◌, List, [], ◌∷◌, ◌++◌, length, replicate, ap, subst, ◌∙◌, inl, inr, arith}
use Rattle.rq_matrix.specs.declared.sparse_matrix.dense_tail.DenseTail.TheInside.{Inside}
use Rattle.rq_matrix.specs.DenseTails.{Tail, PushesColumn}
use Rattle.rq_matrix.proofs.DenseTailLaws.{tail_widened, tail_longer, longer_is, longer_pushes}
use Rattle.rq_matrix.proofs.sparse_matrix.dense_tail.DenseTail.push_column.Goals as goal
use Rattle.rq_matrix.proofs.sparse_matrix.dense_tail.DenseTail.push_column.Goals.{After-self-1, then-self-len+in_ok-block+in_ok-push, else-self-len}

abbrev tail_of : Inside → Tail
tail_of t = record { rows = t.rows; columns = t.columns; blocks = t.blocks.items }

-- what is pushed is a word of zeros for each row
pushed : (blocks new : List (List ℕ)) (block : List ℕ) (rows columns : ℕ) → new ≡ blocks ++ block ∷ [] → block ≡ replicate ((64 * rows + 63) / 64) 0
    → ◌≡◌ {A = Tail} (record { rows = rows; columns = columns; blocks = new }) (tail_widened (record { rows = rows; columns = columns; blocks = blocks }))
pushed blocks new block rows columns is zeros =
    let words : (64 * rows + 63) / 64 ≡ rows = omega arith in
    let same = is ∙ ap (λ (b : List ℕ). blocks ++ b ∷ []) (zeros ∙ ap (λ n. replicate n 0) words) in
    ap (λ (bs : List (List ℕ)). let t : Tail = record { rows = rows; columns = columns; blocks = bs } in t) same

-- there is room: a block has come, or there was
room : (c : After-self-1)
    → ((tail_of c.if-self-len.self-inside ≡ tail_widened (tail_of c.self.inside)) × (length c.self.inside.blocks.items ≤ c.self.inside.columns / 64)) ⊎ ((tail_of c.if-self-len.self-inside ≡ tail_of c.self.inside) × (c.self.inside.columns / 64 < length c.self.inside.blocks.items))
room c =
    let old = c.self.inside in
    elim c.if-self-len.branch [
      | then-self-len+in_ok-block+in_ok-push w ↦
          inl (
            ap tail_of w.self-inside-is ∙ pushed old.blocks.items w.push.new.self.items w.in_ok-block.block old.rows old.columns w.in_ok-push.ensures.items w.in_ok-block.ensures,
            omega (arith, w.if-self-len.true, c.len.ensures, old.blocks.ok.0),
          )
      | else-self-len w ↦ inr (ap tail_of w.self-inside-is, omega (arith, w.if-self-len.false, c.len.ensures, old.blocks.ok.0))
    ]

pub invariant_of-self-2 : goal.invariant_of-self-2
invariant_of-self-2 c = longer_is (tail_of c.self.inside) (tail_of c.if-self-len.self-inside) c.self.invariant (room c)

pub returns-clause-ok : goal.returns-clause-ok
returns-clause-ok c = subst (λ old. PushesColumn old (tail_longer (tail_of c.if-self-len.self-inside))) c.self.view_is (longer_pushes (tail_of c.self.inside) (tail_of c.if-self-len.self-inside) c.self.invariant (room c))
