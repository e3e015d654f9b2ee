-- The lowest one of a word, and the others.
use Rattle.std.proofs.Common.{◌≡◌, ◌≢◌, ℕ, ◌+◌, ◌-◌, ◌*◌, ◌%◌, ◌/◌, ◌^◌, ◌<◌, ◌≤◌, min, sym, ap, ◌∙◌, arith, inl, inr, w64}
use Rattle.std.specs.Prelude.{bit_and}
use Rattle.std.specs.Int.{bit_at, trailing_zeros}
use Rattle.std.proofs.Math.Pow.{pow-lt}
use Rattle.std.proofs.Math.Nat.{mod-lt}
use Rattle.std.proofs.lemmas.Nat.{pow_pos, div-add-mod'}
use Rattle.std.proofs.lemmas.Nat.Bits.{bit_at_and, bit_at-pow_same, bit_at-pow_other, bit_at_ones_above, bit_at_above, bit_at_cat_low, bit_at_cat_high, bit_at-trailing_zeros, same_from_bits}
use Rattle.std.proofs.lemmas.Bool.{cases_eq, cases_lt}

module _ (word lowest high low : ℕ) (whole : high * 2 ^ (lowest + 1) + low ≡ word) (small : low < 2 ^ (lowest + 1)) (one : bit_at word lowest ≡ 1) (zeros : (k : ℕ) → k < lowest → bit_at word k ≡ 0) where
  low_is : low ≡ 2 ^ lowest
  low_is = same_from_bits low (2 ^ lowest) (λ k. elim (cases_lt k (lowest + 1)) [
    | inl l ↦
        sym (bit_at_cat_low high (lowest + 1) low k l)
        ∙ ap (λ n. bit_at n k) whole
        ∙ elim (cases_eq k lowest) [
          | inl e ↦ rw e (one ∙ sym (bit_at-pow_same lowest))
          | inr d ↦ zeros k (omega arith) ∙ sym (bit_at-pow_other lowest k d)
        ]
    | inr past ↦ bit_at_above low (lowest + 1) k small past ∙ sym (bit_at-pow_other lowest k (omega arith))
  ])

  less_is : high * 2 ^ (lowest + 1) + (2 ^ lowest - 1) ≡ word - 1
  less_is = let some = pow_pos lowest in omega (arith, low_is, whole, some)

  ones_small : 2 ^ lowest - 1 < 2 ^ (lowest + 1)
  ones_small = let more = pow-lt {i = lowest} {j = lowest + 1} (omega arith) in omega (arith, more)

  clears : (k : ℕ) → k ≤ lowest → bit_at (bit_and word (word - 1)) k ≡ 0
  clears k l = bit_at_and word (word - 1) k ∙ elim (cases_lt k lowest) [
    | inl early ↦ ap (λ b. min b (bit_at (word - 1) k)) (zeros k early) ∙ omega arith
    | inr late ↦
        let is : k ≡ lowest = omega arith in
        let zero : bit_at (word - 1) lowest ≡ 0 = ap (λ n. bit_at n lowest) (sym less_is) ∙ bit_at_cat_low high (lowest + 1) (2 ^ lowest - 1) lowest (omega arith) ∙ bit_at_ones_above lowest lowest (omega arith) in
        rw is (ap (min (bit_at word lowest)) zero ∙ omega arith)
  ]

  keeps : (k : ℕ) → lowest < k → bit_at (bit_and word (word - 1)) k ≡ bit_at word k
  keeps k l =
      let same : bit_at (word - 1) k ≡ bit_at word k = ap (λ n. bit_at n k) (sym less_is)
      ∙ bit_at_cat_high high (lowest + 1) (2 ^ lowest - 1) k ones_small (omega arith)
      ∙ sym (bit_at_cat_high high (lowest + 1) low k small (omega arith))
      ∙ ap (λ n. bit_at n k) whole in
      bit_at_and word (word - 1) k ∙ ap (min (bit_at word k)) same ∙ omega arith

-- a word less its lowest one
pub record ClearsLowest (word lowest less : ℕ) : Type 0 where
  pub one : bit_at word lowest ≡ 1
  pub zeros : (k : ℕ) → k < lowest → bit_at word k ≡ 0
  pub cleared : (k : ℕ) → k ≤ lowest → bit_at less k ≡ 0
  pub kept : (k : ℕ) → lowest < k → bit_at less k ≡ bit_at word k

pub clears_lowest : (word : ℕ) → word ≢ 0 → word < 2 ^ 64 → ClearsLowest word (trailing_zeros w64 word) (bit_and word (word - 1))
clears_lowest word some fits =
    let lowest = trailing_zeros w64 word in
    let found = bit_at-trailing_zeros w64 word (omega arith) fits in
    let whole = div-add-mod' word (2 ^ (lowest + 1)) in
    let small = mod-lt word (pow_pos (lowest + 1)) in
    record {
      one = found.1;
      zeros = found.2;
      cleared = clears word lowest (word / 2 ^ (lowest + 1)) (word % 2 ^ (lowest + 1)) whole small found.1 found.2;
      kept = keeps word lowest (word / 2 ^ (lowest + 1)) (word % 2 ^ (lowest + 1)) whole small found.1 found.2;
    }

module _ (word lowest less : ℕ) (clears : ClearsLowest word lowest less) where
  -- not before a place, or not from one on, where there are zeros
  pub lowest_from : (place : ℕ) → ((k : ℕ) → k < place → bit_at word k ≡ 0) → place ≤ lowest
  lowest_from place behind = elim (cases_lt lowest place) [
    | inl early ↦ let zero = behind lowest early in let one = clears.one in absurd (omega (arith, zero, one))
    | inr late ↦ late
  ]

  pub lowest_before : (end : ℕ) → ((k : ℕ) → end ≤ k → bit_at word k ≡ 0) → lowest < end
  lowest_before end beyond = elim (cases_lt lowest end) [
    | inl inside ↦ inside
    | inr past ↦ let zero = beyond lowest past in let one = clears.one in absurd (omega (arith, zero, one))
  ]

pub lowest-lt : (word lowest less : ℕ) → word < 2 ^ 64 → ClearsLowest word lowest less → lowest < 64
lowest-lt word lowest less fits clears = lowest_before word lowest less clears 64 (λ k past. bit_at_above word 64 k fits past)
