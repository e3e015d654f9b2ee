-- A row of bits that is flipped at one index after another.
use Rattle.std.proofs.Common.{◌≡◌, ◌≢◌, ℕ, ◌+◌, ◌%◌, ◌<◌, ◌⊎◌, List, [], ◌∷◌, All, refl, sym, ap, ◌∙◌, subst, arith, inl, inr}
use Rattle.std.proofs.lemmas.Bool.{cases_eq}
use Rattle.std.proofs.lemmas.List.Elements.{All-head, All-tail}
use Rattle.std.specs.Int.Bits.{bit_xor}
use Rattle.rq_algebra.specs.Parities.{parity}
use Rattle.rq_algebra.proofs.Parity.{unit, parity-cons, parity_cases}
use Rattle.rq_algebra.proofs.Choices.{if_same, if_apart}
use Rattle.rq_standard.specs.BitTable.{BitTable}
use Rattle.rq_standard.specs.BitTableSteps.{HasSameShape, SetsBit, bit_of}
use Rattle.rq_base.specs.BinaryRows.{SetsParityRow}
use Rattle.rq_base.proofs.BitRowSteps.{same_shape}

-- what is left to flip of the indices of a row
pub record IsFlipping (old : BitTable) (i : ℕ) (indices left : List ℕ) (new : BitTable) : Type 0 where
  pub shape : HasSameShape old new
  pub small : (k : ℕ) → k < old.width → new.bit i k < 2
  pub parity : (k : ℕ) → k < old.width → (new.bit i k + parity left k) % 2 ≡ parity indices k
  pub other_rows : (a k : ℕ) → a < old.height → k < old.width → a ≢ i → new.bit a k ≡ old.bit a k
  pub below : All (λ index. index < old.width) left

small_parity : (indices : List ℕ) (k : ℕ) → parity indices k < 2
small_parity indices k = elim (parity_cases indices k) [ inl e ↦ omega arith | inr e ↦ omega arith ]

pub flips_all : (m : BitTable) (i : ℕ) (indices : List ℕ) → ((k : ℕ) → k < m.width → m.bit i k ≡ 0) → All (λ index. index < m.width) indices → IsFlipping m i indices indices m
flips_all m i indices zeros below = record {
  shape = record { height = refl; width = refl; boundary = refl; indexed = refl };
  small = λ k hk. let zero = zeros k hk in omega arith;
  parity = λ k hk. let zero = zeros k hk in let small = small_parity indices k in omega arith;
  other_rows = λ a k ha hk d. refl;
  below = below;
}

-- the other bit
flip_cases : (b : ℕ) → b < 2 → ((b ≡ 0) × (bit_of (bit_xor b 1) ≡ 1)) ⊎ ((b ≡ 1) × (bit_of (bit_xor b 1) ≡ 0))
flip_cases b lt = elim (cases_eq b 0) [
  | inl e ↦ inl (e, ap (λ n. bit_of (bit_xor n 1)) e)
  | inr d ↦ let one : b ≡ 1 = omega arith in inr (one, ap (λ n. bit_of (bit_xor n 1)) one)
]

flip_parity : (b c p q u : ℕ) → b < 2 → c ≡ bit_of (bit_xor b 1) → u ≡ 1 → p ≡ (u + q) % 2 → (c + q) % 2 ≡ (b + p) % 2
flip_parity b c p q u lt e one f = elim (flip_cases b lt) [
  | inl zero ↦ omega (arith, zero.0, zero.1)
  | inr set ↦ omega (arith, set.0, set.1)
]

flip_small : (b c : ℕ) → b < 2 → c ≡ bit_of (bit_xor b 1) → c < 2
flip_small b c lt e = elim (flip_cases b lt) [
  | inl zero ↦ omega (arith, zero.1)
  | inr set ↦ omega (arith, set.1)
]

pub flips_more :
    {old middle new : BitTable} {i index : ℕ} {indices left rest : List ℕ} → i < old.height → IsFlipping old i indices left middle → left ≡ index ∷ rest
    → SetsBit middle i index (bit_xor (middle.bit i index) 1) new → IsFlipping old i indices rest new
flips_more {old} {middle} {new} {i} {index} {indices} {left} {rest} row flipping e set =
    let below : All (λ p. p < old.width) (index ∷ rest) = subst (All (λ p. p < old.width)) e flipping.below in
    let wide : index < old.width = All-head (λ p. p < old.width) index rest below in
    let tall = flipping.shape.height in
    let same_width = flipping.shape.width in
    let flipped : new.bit i index ≡ bit_of (bit_xor (middle.bit i index) 1) = set.here in
    let there : (k : ℕ) → k < old.width → k ≢ index → new.bit i k ≡ middle.bit i k = λ k hk d. set.other_columns k (omega arith) d in
    let more : (k : ℕ) → parity left k ≡ (unit index k + parity rest k) % 2 = λ k. (ap (λ l. parity l k) e ∙ parity-cons index rest k) in
    record {
      shape = same_shape flipping.shape set.shape;
      small = λ k hk. elim (cases_eq k index) [
        | inl same ↦ subst (λ n. n < 2) (sym (ap (new.bit i) same)) (flip_small (middle.bit i index) (new.bit i index) (flipping.small index wide) flipped)
        | inr other ↦ subst (λ n. n < 2) (sym (there k hk other)) (flipping.small k hk)
      ];
      parity = λ k hk. elim (cases_eq k index) [
        | inl same ↦
            flip_parity (middle.bit i k) (new.bit i k) (parity left k) (parity rest k) (unit index k) (flipping.small k hk)
            (ap (new.bit i) same ∙ flipped ∙ ap (λ n. bit_of (bit_xor (middle.bit i n) 1)) (sym same)) (if_same index k 1 0 (sym same)) (more k)
            ∙ flipping.parity k hk
        | inr other ↦
            let zero = if_apart index k 1 0 (λ s. other (sym s)) in
            let left_is = more k in
            let same = there k hk other in
            let small = small_parity rest k in
            let keeps : (new.bit i k + parity rest k) % 2 ≡ (middle.bit i k + parity left k) % 2 = omega arith in
            keeps ∙ flipping.parity k hk
      ];
      other_rows = λ a k ha hk d. set.other_rows a k (omega arith) (omega arith) d ∙ flipping.other_rows a k ha hk d;
      below = All-tail (λ p. p < old.width) index rest below;
    }

pub flips_none : {old new : BitTable} {i : ℕ} {indices left : List ℕ} → IsFlipping old i indices left new → left ≡ [] → SetsParityRow old i indices new
unfolding parity
flips_none {old} {new} {i} {indices} {left} flipping e = record {
  shape = flipping.shape;
  here = λ k hk.
      let small = flipping.small k hk in
      let none : parity left k ≡ 0 = ap (λ l. parity l k) e in
      let whole = flipping.parity k hk in
      omega arith;
  other_rows = flipping.other_rows;
}

-- ---- the rows of the ids
