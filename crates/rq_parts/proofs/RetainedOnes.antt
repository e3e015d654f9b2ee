-- The ones of an ascending list that a predicate keeps.
use Rattle.std.proofs.Common.{◌≡◌, ◌≢◌, ℕ, ◌<◌, List, [], ◌∷◌, get_or, Bool, cond, true, false, refl, sym, ap, subst, ◌∙◌, inl, inr, arith}
use Rattle.std.specs.List.Sorted.{IsStrictlyIncreasing}
use Rattle.std.specs.List.Retain.{RetainsInTurn}
use Rattle.std.proofs.lemmas.Bool.{cases_lt}
use Rattle.std.proofs.lemmas.Bool.Decides.{eqb_tells}
use Rattle.rq_parts.specs.SparseBinaryVec.{listed_bit}
use Rattle.rq_parts.specs.ListedLaws.{listed-self, listed-other, listed-first, listed-below, rises-tail}
use Rattle.rq_parts.proofs.ListedBits.{listed-found, rises-join, rises-one}

module _ (Answers : ℕ → Bool → Type 0) where
  pub record AreRetained (xs ys : List ℕ) : Type 0 where
    pub listed : (k : ℕ) → listed_bit ys k ≡ 1 → listed_bit xs k ≡ 1
    pub kept : (k : ℕ) → listed_bit ys k ≡ 1 → Answers k true
    pub dropped : (k : ℕ) → listed_bit xs k ≡ 1 → listed_bit ys k ≡ 0 → Answers k false
    pub increasing : IsStrictlyIncreasing ys

  module _ (x : ℕ) (xs zs : List ℕ) (up : IsStrictlyIncreasing (x ∷ xs)) (rest : AreRetained xs zs) where
    listed_whole : (k : ℕ) → (k ≢ x → listed_bit zs k ≡ 1) → listed_bit (x ∷ xs) k ≡ 1
    listed_whole k later = elim (eqb_tells k x) [
      | inl same ↦ subst (λ i. listed_bit (x ∷ xs) i ≡ 1) (sym same.1) (listed-first x xs up)
      | inr other ↦ listed-other x xs k other.1 ∙ rest.listed k (later other.1)
    ]

    -- what is listed behind the first one is above it
    above : (k : ℕ) → listed_bit xs k ≡ 1 → x < k
    above k one = elim (cases_lt x k) [
      | inl less ↦ less
      | inr not_less ↦ absurd (omega (arith, one, listed-below xs k (rises-tail x xs up) (λ some. omega (arith, up 0 (omega arith)))))
    ]

    with_first : Answers x true → AreRetained (x ∷ xs) (x ∷ zs)
    with_first answer = record {
      listed = λ k one. listed_whole k (λ other. sym (listed-other x zs k other) ∙ one);
      kept = λ k one. elim (eqb_tells k x) [
        | inl same ↦ subst (λ i. Answers i true) (sym same.1) answer
        | inr other ↦ rest.kept k (sym (listed-other x zs k other.1) ∙ one)
      ];
      dropped = λ k one none. elim (eqb_tells k x) [
        | inl same ↦ absurd (omega (arith, none, listed-self x zs k same.1))
        | inr other ↦ rest.dropped k (sym (listed-other x xs k other.1) ∙ one) (sym (listed-other x zs k other.1) ∙ none)
      ];
      increasing = rises-join (x ∷ []) zs (rises-one x) rest.increasing (λ front back. above (get_or zs 0 0) (rest.listed (get_or zs 0 0) (listed-found zs (get_or zs 0 0) 0 rest.increasing (record { within = back; is = refl }))));
    }

    without_first : Answers x false → AreRetained (x ∷ xs) zs
    without_first answer = record {
      listed = λ k one. listed_whole k (λ _. one);
      kept = rest.kept;
      dropped = λ k one none. elim (eqb_tells k x) [
        | inl same ↦ subst (λ i. Answers i false) (sym same.1) answer
        | inr other ↦ rest.dropped k (sym (listed-other x xs k other.1) ∙ one) none
      ];
      increasing = rest.increasing;
    }

  first_asked : (x : ℕ) (xs zs : List ℕ) → IsStrictlyIncreasing (x ∷ xs) → AreRetained xs zs → (kept : Bool) → Answers x kept → AreRetained (x ∷ xs) (cond kept (x ∷ zs) zs)
  first_asked x xs zs up rest true answer = with_first x xs zs up rest answer
  first_asked x xs zs up rest false answer = without_first x xs zs up rest answer

  -- where no call changes the closure or an element
  pub retained : {F : Type 0} (R : F → ℕ → Bool → F → ℕ → Type 0) (f : F) → ((x : ℕ) (kept : Bool) (f' : F) (y : ℕ) → R f x kept f' y → Answers x kept × (f' ≡ f) × (y ≡ x))
      → (xs ys : List ℕ) → IsStrictlyIncreasing xs → RetainsInTurn R f xs ys → AreRetained xs ys
  retained R f says [] ys up left = subst (AreRetained []) (sym left) (record {
    listed = λ k one. one;
    kept = λ k one. absurd (omega (arith, one));
    dropped = λ k one none. absurd (omega (arith, one));
    increasing = up;
  })
  retained R f says (x ∷ xs) ys up left =
      let said = says x left.0 left.1 left.2 left.3 in
      let zs = left.4 in
      let rest = retained R f says xs zs (rises-tail x xs up) (subst (λ g. RetainsInTurn R g xs zs) said.1 left.5) in
      subst (AreRetained (x ∷ xs)) (sym (left.6 ∙ ap (λ y. cond left.0 (y ∷ zs) zs) said.2)) (first_asked x xs zs up rest left.0 said.0)
