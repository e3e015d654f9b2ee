-- Heads that are equal, and heads of one stream.
use Rattle.std.proofs.Common.{◌≡◌, true, false, ℕ, zero, suc, List, [], ◌∷◌, map, nat_eq, sym, ap, subst, ◌∙◌, arith, rules}
use Rattle.std.specs.Prelude.{Contains}
use Rattle.std.specs.List.{list_any}
use Rattle.std.specs.Cmp.Lexicographic.{pointwise}
use Rattle.std.proofs.lemmas.Bool.{true≢false}
use Rattle.std.proofs.lemmas.List.{get_or-map, length-map}
use Rattle.std.proofs.lemmas.List.Folds.{Any-from_list_any}
use Rattle.rq_cells.specs.declared.head.Head.{Head}
use Rattle.rq_cells.specs.declared.cell.Cell.{Cell}
use Rattle.rq_cells.proofs.Beginnings.{same_bytes, same_from_test}
use Rattle.rq_cast.specs.Taken.{has_head}
use Rattle.rq_cast.proofs.SettledParts.{either}

pub same_head : (h : Head) (cell : Cell) → has_head h cell ≡ true → cell.head ≡ h
same_head h cell is = search rules

pub own_head : (cell : Cell) → has_head cell.head cell ≡ true
own_head cell = search rules

-- one of some heads is that of a stream
pub Contains-stream : (heads : List Head) (s : List ℕ) → list_any (λ h. pointwise nat_eq h.stream s) heads ≡ true → Contains (map (λ h. h.stream) heads) s
Contains-stream heads s is =
    let (k, x, less, there, same) = Any-from_list_any (λ (h : Head). pointwise nat_eq h.stream s) heads is in
    let found = get_or-map (λ (h : Head). h.stream) heads k x x.stream less ∙ ap (λ (h : Head). h.stream) there in
    subst (Contains (map (λ (h : Head). h.stream) heads)) (sym (same_from_test x.stream s same))
    (k, omega (arith, less, length-map heads (λ (h : Head). h.stream)), found)

-- and none is
pub no-stream : (heads : List Head) (s : List ℕ) → list_any (λ h. pointwise nat_eq h.stream s) heads ≡ false → Contains (map (λ h. h.stream) heads) s → ⊥
no-stream [] s none (k, less, same) = absurd (omega (arith, less))
no-stream (h ∷ heads) s none (zero, less, same) =
    let both = either (pointwise nat_eq h.stream s) (list_any (λ (k : Head). pointwise nat_eq k.stream s) heads) none in
    true≢false (sym (ap (λ xs. pointwise nat_eq xs s) same ∙ same_bytes s) ∙ both.0)
no-stream (h ∷ heads) s none (suc k, less, same) =
    let both = either (pointwise nat_eq h.stream s) (list_any (λ (k : Head). pointwise nat_eq k.stream s) heads) none in
    no-stream heads s both.1 (k, omega (arith, less), same)
