-- The heads of the cells at the first places of bytes.
use Rattle.std.proofs.Common.{◌≡◌, ◌⊎◌, ℕ, ◌+◌, ◌-◌, ◌<◌, ◌≤◌, ◌++◌, List, [], ◌∷◌, length, map, drop, Option, Some, None, refl, sym, ap, subst, ◌∙◌, arith, inl, inr}
use Rattle.std.specs.Prelude.{Contains}
use Rattle.std.proofs.lemmas.Bool.{cases_lt}
use Rattle.std.proofs.lemmas.List.{drop-drop, drop_all, length-drop, map-append}
use Rattle.std.proofs.lemmas.List.Elements.{Contains-push, Contains-append_left}
use Rattle.rq_cells.specs.declared.head.Head.{Head}
use Rattle.rq_cells.specs.Wanted.{Wish, wanted_at, IsFirstWanted, NoneBefore}
use Rattle.rq_cast.specs.Surveyed.{IsFirstOf, AreFirst, ListsStreams}

abbrev streams : List Head → List (List ℕ)
streams heads = map (λ k. k.stream) heads

-- So each head stands at a place from one on and before another, one behind another.
abbrev AreFirstTo : Wish → List ℕ → ℕ → ℕ → List Head → Type 0
AreFirstTo w bytes from to [] = from ≤ to
AreFirstTo w bytes from to (h ∷ heads) = (i : ℕ) × (from ≤ i) × IsFirstOf w bytes i h × AreFirstTo w bytes (i + 1) to heads

first_more : (w : Wish) (bytes : List ℕ) (from to i : ℕ) (heads : List Head) (h : Head) → AreFirstTo w bytes from to heads → to ≤ i → IsFirstOf w bytes i h
    → AreFirstTo w bytes from (i + 1) (heads ++ (h ∷ []))
first_more w bytes from to i [] h are late is = (i, omega (arith, are, late), is, omega arith)
first_more w bytes from to i (k ∷ heads) h are late is = (are.0, are.1, are.2, first_more w bytes (are.0 + 1) to i heads h are.3 late is)

first_later : (w : Wish) (bytes : List ℕ) (from to later : ℕ) (heads : List Head) → AreFirstTo w bytes from to heads → to ≤ later
    → AreFirstTo w bytes from later heads
first_later w bytes from to later [] are late = omega (arith, are, late)
first_later w bytes from to later (k ∷ heads) are late = (are.0, are.1, are.2, first_later w bytes (are.0 + 1) to later heads are.3 late)

first_all : (w : Wish) (bytes : List ℕ) (from to : ℕ) (heads : List Head) → AreFirstTo w bytes from to heads → AreFirst w bytes from heads
first_all w bytes from to [] are = tt
first_all w bytes from to (k ∷ heads) are = (are.0, are.1, are.2, first_all w bytes (are.0 + 1) to heads are.3)

-- so it is of each head, and there is no other one of which a cell begins at the first n places
pub record Listed (w : Wish) (bytes : List ℕ) (n : ℕ) (heads : List Head) : Type 0 where
  pub within : n ≤ length bytes
  pub each : AreFirstTo w bytes 0 n heads
  pub all : (i : ℕ) (h : Head) → i < n → wanted_at w (drop i bytes) ≡ Some h → Contains (streams heads) h.stream

abbrev wanted_there : Wish → List ℕ → ℕ → Option Head
wanted_there w bytes i = wanted_at w (drop i bytes)

-- what stands behind a place stands there in all bytes
behind_at : (w : Wish) (bytes : List ℕ) (at k : ℕ) → wanted_at w (drop k (drop at bytes)) ≡ wanted_there w bytes (at + k)
behind_at w bytes at k = ap (wanted_at w) (drop-drop k at bytes)

never_both : {X : Type 0} (o : Option X) (x : X) → o ≡ None → o ≡ Some x → ⊥
never_both None x e f = absurd (cc f)
never_both (Some y) x e f = absurd (cc e)

same_both : {X : Type 0} (o : Option X) (x y : X) → o ≡ Some x → o ≡ Some y → x ≡ y
same_both None x y e f = absurd (cc f)
same_both (Some z) x y e f = let a : z ≡ x = cc e in let b : z ≡ y = cc f in sym a ∙ b

nothing_there : (w : Wish) → wanted_at w [] ≡ None
nothing_there w = refl

-- which heads are listed behind those that were
abbrev pub Adds : List Head → Head → List Head → Type 0
Adds heads h more = ((more ≡ heads) × Contains (streams heads) h.stream) ⊎ ((more ≡ heads ++ (h ∷ [])) × (Contains (streams heads) h.stream → ⊥))

one_more : (heads : List Head) (h : Head) → streams (heads ++ (h ∷ [])) ≡ streams heads ++ (h.stream ∷ [])
one_more heads h = map-append (λ (k : Head). k.stream) heads (h ∷ [])

keeps : (heads more : List Head) (h : Head) (x : List ℕ) → Adds heads h more → Contains (streams heads) x → Contains (streams more) x
keeps heads more h x (inl (same, there)) c = subst (λ (hs : List Head). Contains (streams hs) x) (sym same) c
keeps heads more h x (inr (new, fresh)) c =
    subst (λ xs. Contains xs x) (sym (ap streams new ∙ one_more heads h)) (Contains-append_left (streams heads) (h.stream ∷ []) x c)

adds : (heads more : List Head) (h : Head) → Adds heads h more → Contains (streams more) h.stream
adds heads more h (inl (same, there)) = subst (λ (hs : List Head). Contains (streams hs) h.stream) (sym same) there
adds heads more h (inr (new, fresh)) = subst (λ xs. Contains xs h.stream) (sym (ap streams new ∙ one_more heads h)) (Contains-push (streams heads) h.stream)

-- one more place behind those that were listed
pub listed_more : (w : Wish) (bytes : List ℕ) (at place : ℕ) (h : Head) (heads more : List Head) → Listed w bytes at heads
    → IsFirstWanted w (drop at bytes) place h → Adds heads h more → Listed w bytes (at + (place + 1)) more
listed_more w bytes at place h heads more l first known = record {
  within = omega (arith, first.within, length-drop at bytes, l.within);
  each = each_more known;
  all = λ i x less e. elim (cases_lt i at) [
    | inl below ↦ keeps heads more h x.stream known (l.all i x below e)
    | inr above ↦
        let k = i - at in
        let is : at + k ≡ i = omega (arith, above) in
        let there : wanted_at w (drop k (drop at bytes)) ≡ Some x = behind_at w bytes at k ∙ ap (wanted_there w bytes) is ∙ e in
        elim (cases_lt k place) [
          | inl before ↦ absurd (never_both _ x (first.first k before) there)
          | inr late ↦
              let last : k ≡ place = omega (arith, late, less, above) in
              let here : wanted_at w (drop k (drop at bytes)) ≡ Some h = ap (λ j. wanted_at w (drop j (drop at bytes))) last ∙ first.found in
              subst (λ (k : Head). Contains (streams more) k.stream) (same_both _ h x here there) (adds heads more h known)
        ]
  ];
}
  where
    is_first : (Contains (streams heads) h.stream → ⊥) → IsFirstOf w bytes (at + place) h
    is_first fresh = record {
      found = sym (behind_at w bytes at place) ∙ first.found;
      first = λ j k less e same. elim (cases_lt j at) [
        | inl below ↦ fresh (subst (Contains (streams heads)) same (l.all j k below e))
        | inr above ↦
            let n = j - at in
            let is : at + n ≡ j = omega (arith, above) in
            never_both _ k (first.first n (omega (arith, less, above))) (behind_at w bytes at n ∙ ap (wanted_there w bytes) is ∙ e)
      ];
    }

    each_more : Adds heads h more → AreFirstTo w bytes 0 (at + (place + 1)) more
    each_more (inl (same, there)) =
        subst (AreFirstTo w bytes 0 (at + (place + 1))) (sym same) (first_later w bytes 0 at (at + (place + 1)) heads l.each (omega arith))
    each_more (inr (new, fresh)) =
        let next : at + place + 1 ≡ at + (place + 1) = omega arith in
        subst (AreFirstTo w bytes 0 (at + (place + 1))) (sym new)
        (subst (λ n. AreFirstTo w bytes 0 n (heads ++ (h ∷ []))) next
        (first_more w bytes 0 at (at + place) heads h l.each (omega arith) (is_first fresh)))

-- no cell begins behind those that were listed
pub listed_all : (w : Wish) (bytes : List ℕ) (at : ℕ) (heads : List Head) → Listed w bytes at heads
    → NoneBefore w (drop at bytes) (length (drop at bytes)) → ListsStreams w bytes heads
listed_all w bytes at heads l none = record {
  each = first_all w bytes 0 at heads l.each;
  all = λ i x e. elim (cases_lt i at) [
    | inl below ↦ l.all i x below e
    | inr above ↦
        let k = i - at in
        let is : at + k ≡ i = omega (arith, above) in
        let there : wanted_at w (drop k (drop at bytes)) ≡ Some x = behind_at w bytes at k ∙ ap (wanted_there w bytes) is ∙ e in
        elim (cases_lt k (length (drop at bytes))) [
          | inl within ↦ absurd (never_both _ x (none k within) there)
          | inr past ↦
              let gone : drop k (drop at bytes) ≡ [] = drop_all k (drop at bytes) past in
              absurd (never_both _ x (ap (wanted_at w) gone ∙ nothing_there w) there)
        ]
  ];
}
