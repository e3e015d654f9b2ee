-- Rows that are listed by their degrees.
use Rattle.std.proofs.Common.{◌≡◌, ℕ, ◌+◌, ◌<◌, List, [], ◌∷◌, All, length, set, take, sym, ap, ◌∙◌, subst, arith, inl, inr}
use Rattle.std.specs.List.{Contains}
use Rattle.std.proofs.lemmas.Bool.{cases_eq}
use Rattle.std.proofs.lemmas.List.{length-set, length-take-le, get_or-set_same, get_or-set_other, get_or-take}
use Rattle.std.proofs.lemmas.List.Elements.{All-push, Contains-append_left}
use Rattle.rq_algebra.specs.Systems.{at}
use Rattle.rq_peeling.specs.RowDegrees.{AreListed, MayAdd}

-- what is listed stays listed
pub added_contains : (row r : ℕ) (old new : List ℕ) → MayAdd row old new → Contains old r → Contains new r
added_contains row r old new (inl same) is = subst (λ (l : List ℕ). Contains l r) (sym same) is
added_contains row r old new (inr more) is = subst (λ (l : List ℕ). Contains l r) (sym more) (Contains-append_left old (row ∷ []) r is)

-- rows that are listed stay below a number of rows
pub added_below : (count row : ℕ) (old new : List ℕ) → MayAdd row old new → row < count → All (λ r. r < count) old → All (λ r. r < count) new
added_below count row old new (inl same) l all = subst (All (λ r. r < count)) (sym same) all
added_below count row old new (inr more) l all = subst (All (λ r. r < count)) (sym more) (All-push (λ r. r < count) old row all l)

-- rows may be listed before one of them has another degree
pub listed_added : (degrees singles pairs new_singles new_pairs : List ℕ) (row : ℕ) → AreListed degrees singles pairs → row < length degrees → MayAdd row singles new_singles → MayAdd row pairs new_pairs → AreListed degrees new_singles new_pairs
listed_added degrees singles pairs new_singles new_pairs row are l more also = record {
  singles_below = added_below (length degrees) row singles new_singles more l are.singles_below;
  pairs_below = added_below (length degrees) row pairs new_pairs also l are.pairs_below;
  single = λ r n e. added_contains row r singles new_singles more (are.single r n e);
}

-- a row has another degree, and is listed if it is 1
pub listed_set : (degrees singles pairs : List ℕ) (row degree : ℕ) → AreListed degrees singles pairs → (degree ≡ 1 → Contains singles row) → AreListed (set degrees row degree) singles pairs
listed_set degrees singles pairs row degree are here =
    let long = length-set degrees row degree in
    record {
      singles_below = rw long are.singles_below;
      pairs_below = rw long are.pairs_below;
      single = λ r l e.
          let inside : r < length degrees = omega (arith, long, l) in
          elim (cases_eq r row) [
            | inl same ↦
                let one : degree ≡ 1 = sym (get_or-set_same degrees row degree 0 (rw same at inside)) ∙ ap (at (set degrees row degree)) (sym same) ∙ e in
                subst (Contains singles) (sym same) (here one)
            | inr other ↦ are.single r inside (sym (get_or-set_other degrees row r degree 0 other) ∙ e)
          ];
    }

-- a row that is written behind others
pub last_there : (count row : ℕ) (rows : List ℕ) → count < length rows → Contains (take (count + 1) (set rows count row)) row
last_there count row rows inside =
    let long = length-set rows count row in
    (count, omega (arith, length-take-le (count + 1) (set rows count row) (omega (arith, long, inside))), get_or-take (count + 1) (set rows count row) count row (omega arith) ∙ get_or-set_same rows count row row inside)
