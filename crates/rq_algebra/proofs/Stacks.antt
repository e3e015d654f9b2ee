-- Systems that stand one below the other.
use Rattle.std.proofs.Common.{◌≡◌, ℕ, ◌+◌, ◌-◌, ◌<◌, List, length, sym, ap, ◌∙◌, refl, arith, inl, inr}
use Rattle.std.proofs.lemmas.Bool.{cases_lt, lt-ltb, le-ltb}
use Rattle.std.proofs.lemmas.Grind.{get_or_default_zero}
use Rattle.std.proofs.lemmas.List.Elements.{Contains-get_or}
use Rattle.rq_algebra.specs.Arrangements.{IdsStandIn, RowsStandIn}
use Rattle.rq_algebra.specs.Systems.{dot, at, stacked, rows_of}
use Rattle.rq_algebra.specs.Symbols.{slice_at, SolvesSymbols}
use Rattle.rq_algebra.specs.SystemLaws.{StackedIsBoth}
use Rattle.rq_algebra.specs.SymbolLaws.{StackedIsBothInSymbols}
use Rattle.rq_algebra.proofs.Solutions.{solves_same}

module _ {X : Type 0} (height : ℕ) (above below : ℕ → X) where
  pub stacked_above : (i : ℕ) → i < height → stacked height above below i ≡ above i
  stacked_above i l = rw (lt-ltb i height l)

  pub stacked_below : (i : ℕ) → stacked height above below (height + i) ≡ below i
  stacked_below i = let e : (height + i) - height ≡ i = omega arith in rw (le-ltb (height + i) height (omega arith), e)

  -- what holds of those above and of those below holds of all
  pub stacked_all : (P : X → Type 0) → ((i : ℕ) → i < height → P (above i)) → ((j : ℕ) → P (below j)) → (i : ℕ) → P (stacked height above below i)
  stacked_all P first second i = elim (cases_lt i height) [ inl l ↦ rw (stacked_above i l) (first i l) | inr l ↦ rw (le-ltb i height l) (second (i - height)) ]

-- what is read of each, read of those that are stacked
stacked-map : {X Y : Type 0} (f : X → Y) (height : ℕ) (above below : ℕ → X) (i : ℕ) → f (stacked height above below i) ≡ stacked height (λ k. f (above k)) (λ k. f (below k)) i
stacked-map f height above below i = elim (cases_lt i height) [ inl l ↦ rw (lt-ltb i height l) | inr l ↦ rw (le-ltb i height l) ]

-- the equations of the old ids are among those of the new ones
pub ids_stand : (width height : ℕ) (above row : ℕ → ℕ → ℕ) (old new : List ℕ) → IdsStandIn old new → RowsStandIn width (height + length old) (stacked height above (rows_of row old)) (height + length new) (stacked height above (rows_of row new))
ids_stand width height above row old new ids i l = elim (cases_lt i height) [
  | inl m ↦ (i, (omega arith), λ k n. ap (λ (r : ℕ → ℕ). r k) (stacked_above height above (rows_of row new) i m ∙ sym (stacked_above height above (rows_of row old) i m)))
  | inr m ↦
      let j : ℕ = i - height in
      let e : height + j ≡ i = omega arith in
      let o : j < length old = omega arith in
      let q = ids (at old j) (Contains-get_or old j 0 o) in
      let same : at new q.0 ≡ at old j = sym (get_or_default_zero new q.0 (at old j) q.1) ∙ q.2 in (
        height + q.0,
        (omega (arith, q.1)),
        λ k n. ap (λ (r : ℕ → ℕ). r k) (
            stacked_below height above (rows_of row new) q.0 ∙ ap row same
            ∙ sym (stacked_below height above (rows_of row old) j) ∙ ap (stacked height above (rows_of row old)) e),
      )
]

pub solves_stacked : StackedIsBoth
solves_stacked F height more width above below column u v = (
  λ s. (
    record { at = λ i l. ap (λ (row : ℕ → ℕ). dot F width row column) (sym (stacked_above height above below i l)) ∙ s.at i (omega arith) ∙ stacked_above height u v i l },
    record { at = λ i l. ap (λ (row : ℕ → ℕ). dot F width row column) (sym (stacked_below height above below i)) ∙ s.at (height + i) (omega arith) ∙ stacked_below height u v i },
  ),
  λ both. record {
    at = λ i l. elim (cases_lt i height) [
      | inl m ↦ ap (λ (row : ℕ → ℕ). dot F width row column) (stacked_above height above below i m) ∙ both.0.at i m ∙ sym (stacked_above height u v i m)
      | inr m ↦
          let j : ℕ = i - height in
          let e : height + j ≡ i = omega arith in
          rw (← e) (ap (λ (row : ℕ → ℕ). dot F width row column) (stacked_below height above below j) ∙ both.1.at j (omega arith) ∙ sym (stacked_below height u v j))
    ];
  },
)

pub symbols_stacked : StackedIsBothInSymbols
symbols_stacked F height more width above below column u v =
    let both_at = λ (p : ℕ). solves_stacked F height more width above below (slice_at p column) (slice_at p u) (slice_at p v) in
    let same = solves_same F (height + more) width (stacked height above below) (stacked height above below) in
    let parts = λ (s : SolvesSymbols F (height + more) width (stacked height above below) column (stacked height u v)) (p : ℕ). (both_at p).0 (same _ _ _ (λ i k l m. refl) (λ i l. stacked-map (λ (xs : List ℕ). at xs p) height u v i) (s.at_place p)) in (
      λ s. (record { at_place = λ p. (parts s p).0 }, record { at_place = λ p. (parts s p).1 }),
      λ both. record { at_place = λ p. same _ _ _ (λ i k l m. refl) (λ i l. sym (stacked-map (λ (xs : List ℕ). at xs p) height u v i)) ((both_at p).1 (both.0.at_place p, both.1.at_place p)) },
    )
