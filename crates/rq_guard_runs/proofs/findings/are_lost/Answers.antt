use Rattle.std.proofs.Common.{◌≡◌, ◌+◌, ◌<◌, ◌≤◌, ◌&&◌, min, List, [], ◌∷◌, drop, length, true, ℕ, inl, inr, refl, sym, ap, ap₂, ◌∙◌, arith}
use Rattle.std.proofs.lemmas.Bool.{cases_lt}
use Rattle.std.proofs.lemmas.List.{drop_more, at_drop_all}
use Rattle.rq_guard.specs.declared.list.DigestList.{DigestList}
use Rattle.rq_guard.specs.declared.damage_check.PartDamage.{PartDamage}
use Rattle.rq_guard_runs.specs.Found.{is_lost, are_lost}
use Rattle.rq_guard_runs.proofs.findings.are_lost.Goals as goal

-- one part more
one_more : (lists : List DigestList) (parts : List PartDamage) (i : ℕ) (l : DigestList) (d : PartDamage) → i < length lists → i < length parts
    → drop i lists ≡ l ∷ drop (i + 1) lists → drop i parts ≡ d ∷ drop (i + 1) parts
    → are_lost (drop i lists) (drop i parts) ≡ (is_lost l d && are_lost (drop (i + 1) lists) (drop (i + 1) parts))
one_more lists parts i l d some other is_l is_d = ap₂ are_lost is_l is_d

none_behind : (lists : List DigestList) → are_lost lists [] ≡ true
none_behind [] = refl
none_behind (l ∷ lists) = refl

none_left : (lists : List DigestList) (parts : List PartDamage) (i : ℕ) → min (length lists) (length parts) ≤ i
    → are_lost (drop i lists) (drop i parts) ≡ true
none_left lists parts i all = elim (cases_lt i (length lists)) [
  | inr past ↦ at_drop_all (λ (ls : List DigestList). are_lost ls (drop i parts)) lists i past
  | inl below ↦
      let past : length parts ≤ i = omega (arith, all, below) in
      at_drop_all (λ (ds : List PartDamage). are_lost (drop i lists) ds) parts i past ∙ none_behind (drop i lists)
]

pub loop-i-preserved : goal.loop-i-preserved
loop-i-preserved c =
    let lists = c.args.lists.now in
    let parts = c.args.parts.now in
    let i = c.loop-i.i in
    let l = c.index-lists-i.result in
    let d = c.index-parts-i.result in
    let some : i < length lists = omega (arith, c.loop-i-test.true, c.loop-i.auto.i-end) in
    let other : i < length parts = omega (arith, c.loop-i-test.true, c.loop-i.auto.i-end) in
    c.loop-i.invariant ∙ one_more lists parts i l d some other
    (drop_more lists i l some ∙ ap (λ (x : DigestList). x ∷ drop (i + 1) lists) (sym c.index-lists-i.is))
    (drop_more parts i d other ∙ ap (λ (x : PartDamage). x ∷ drop (i + 1) parts) (sym c.index-parts-i.is))
    ∙ ap (λ b. b && are_lost (drop (i + 1) lists) (drop (i + 1) parts)) (sym c.is_lost.ensures ∙ c.if-not-is_lost.false)

pub returns-then-not-is_lost : goal.returns-then-not-is_lost
returns-then-not-is_lost c =
    let lists = c.args.lists.now in
    let parts = c.args.parts.now in
    let i = c.loop-i.i in
    let l = c.index-lists-i.result in
    let d = c.index-parts-i.result in
    let some : i < length lists = omega (arith, c.loop-i-test.true, c.loop-i.auto.i-end) in
    let other : i < length parts = omega (arith, c.loop-i-test.true, c.loop-i.auto.i-end) in
    sym (c.loop-i.invariant ∙ one_more lists parts i l d some other
    (drop_more lists i l some ∙ ap (λ (x : DigestList). x ∷ drop (i + 1) lists) (sym c.index-lists-i.is))
    (drop_more parts i d other ∙ ap (λ (x : PartDamage). x ∷ drop (i + 1) parts) (sym c.index-parts-i.is))
    ∙ ap (λ b. b && are_lost (drop (i + 1) lists) (drop (i + 1) parts)) (sym c.is_lost.ensures ∙ c.if-not-is_lost.true))

pub returns : goal.returns
returns c =
    sym (c.loop-i.invariant ∙ none_left c.args.lists.now c.args.parts.now c.loop-i.i (omega (arith, c.min-i-end.ensures, c.loop-i-test.false)))
