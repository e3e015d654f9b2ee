-- Rows of packed bits, and what their words have.
use Rattle.std.proofs.Common.{◌≡◌, ◌≢◌, ℕ, ◌+◌, ◌-◌, ◌*◌, ◌/◌, ◌%◌, ◌^◌, ◌<◌, ◌≤◌, true, false, List, length, replicate, set, take, get_or, min, sym, ap, ◌∙◌, arith, inl, inr, w64, get_or-set_same, get_or-set_other}
use Rattle.std.specs.Prelude.{Bool, MatchOption, bit_and, nat_lt}
use Rattle.std.specs.Bool.{then_some}
use Rattle.std.specs.Int.{bit_at, trailing_zeros}
use Rattle.std.specs.Int.Bits.{bit_xor}
use Rattle.std.proofs.Math.Nat.{div-le_self}
use Rattle.std.proofs.Math.Pow.{pow-add}
use Rattle.std.proofs.lemmas.Bool.{cases_lt}
use Rattle.std.proofs.lemmas.Bool.Decides.{eqb_tells, nat_tests}
use Rattle.std.proofs.lemmas.List.{get_or-take}
use Rattle.std.proofs.lemmas.Nat.Bits.{bit_at-lt, bit_at-zero, bit_at_xor, bit_at_and, bit_at_ones, bit_at_ones_above, bit_at_above, bit_at_cat_high, bit_at-trailing_zeros, ones_shr}
use Rattle.std.proofs.lemmas.Simd.{get_or-zip2}
use Rattle.rq_bytes.specs.BinaryOctetVec.{packed_bit}
use Rattle.rq_standard.specs.Rows.{row_sum}
use Rattle.rq_parts.specs.PackedBits.{word_count, IsWordWith, HasZerosBetween, IsLastOne, IsNextOne}
use Rattle.rq_parts.proofs.BitPairLaws.{bit_at-shifted, sum_of_bits}
use Rattle.rq_algebra.proofs.Placewise.{at-zeros}

pub packed_bit-set_here : (words : List ℕ) (column value word : ℕ) → column < 64 * length words → IsWordWith (get_or words (column / 64) 0) (column % 64) value word
    → packed_bit (set words (column / 64) word) column ≡ value
packed_bit-set_here words column value word within written =
    let inside : column / 64 < length words = omega arith in
    ap (λ w. bit_at w (column % 64)) (get_or-set_same words (column / 64) word 0 inside) ∙ written.here

pub packed_bit-set_other : (words : List ℕ) (column value word k : ℕ) → column < 64 * length words → IsWordWith (get_or words (column / 64) 0) (column % 64) value word
    → k ≢ column → packed_bit (set words (column / 64) word) k ≡ packed_bit words k
packed_bit-set_other words column value word k within written other =
    let inside : column / 64 < length words = omega arith in
    elim (eqb_tells (k / 64) (column / 64)) [
      | inl e ↦
          let same = e.1 in
          let bit : k % 64 ≢ column % 64 = λ f. other (omega arith) in
          ap (λ w. bit_at (get_or (set words (column / 64) word) w 0) (k % 64)) same
          ∙ ap (λ w. bit_at w (k % 64)) (get_or-set_same words (column / 64) word 0 inside)
          ∙ written.elsewhere (k % 64) (omega arith) bit
          ∙ ap (λ w. bit_at (get_or words w 0) (k % 64)) (sym same)
      | inr e ↦ ap (λ w. bit_at w (k % 64)) (get_or-set_other words (column / 64) (k / 64) word 0 e.1)
    ]

-- the bits that follow in the word of a column
pub packed_bit-near : (words : List ℕ) (column k : ℕ) → column % 64 + k < 64 → packed_bit words (column + k) ≡ bit_at (get_or words (column / 64) 0) (column % 64 + k)
packed_bit-near words column k below =
    let word : (column + k) / 64 ≡ column / 64 = omega arith in
    let bit : (column + k) % 64 ≡ column % 64 + k = omega arith in
    ap (λ w. bit_at (get_or words w 0) ((column + k) % 64)) word ∙ ap (bit_at (get_or words (column / 64) 0)) bit

pub packed_bit-lt : (words : List ℕ) (k : ℕ) → packed_bit words k < 2
packed_bit-lt words k = bit_at-lt (get_or words (k / 64) 0) (k % 64)

pub packed_bit-zeros : (n k : ℕ) → packed_bit (replicate n 0) k ≡ 0
packed_bit-zeros n k = ap (λ w. bit_at w (k % 64)) (at-zeros n (k / 64)) ∙ bit_at-zero (k % 64)

pub packed_bit-sum : (xs ys : List ℕ) (k : ℕ) → length ys ≡ length xs → k / 64 < length xs → packed_bit (row_sum xs ys) k ≡ bit_xor (packed_bit xs k) (packed_bit ys k)
packed_bit-sum xs ys k long inside =
    ap (λ w. bit_at w (k % 64)) (get_or-zip2 bit_xor xs ys (k / 64) 0 0 0 inside (omega arith))
    ∙ bit_at_xor (get_or xs (k / 64) 0) (get_or ys (k / 64) 0) (k % 64)
    ∙ sum_of_bits (packed_bit xs k) (packed_bit ys k) (packed_bit-lt xs k) (packed_bit-lt ys k)

pub word_inside : (width k : ℕ) → k < width → k / 64 < word_count width
word_inside width k below = omega arith

pub packed_bit-take : (words : List ℕ) (n k : ℕ) → k / 64 < n → packed_bit (take n words) k ≡ packed_bit words k
packed_bit-take words n k inside = ap (λ w. bit_at w (k % 64)) (get_or-take n words (k / 64) 0 inside)

pub word_count-le : (new old : ℕ) → new ≤ old → word_count new ≤ word_count old
word_count-le new old le = omega arith

-- ---- the next one of a row

-- what is left of the word of a column, from that column on
module _ (words : List ℕ) (column rest : ℕ) (rest_is : rest ≡ get_or words (column / 64) 0 / 2 ^ (column % 64)) where
  bit_ahead : (i : ℕ) → column % 64 + i < 64 → packed_bit words (column + i) ≡ bit_at rest i
  bit_ahead i l = packed_bit-near words column i l ∙ sym (ap (λ x. bit_at x i) rest_is ∙ bit_at-shifted (get_or words (column / 64) 0) (column % 64) i)

  pub zeros_ahead : rest ≡ 0 → HasZerosBetween (packed_bit words) column (column + (64 - column % 64))
  zeros_ahead none k from before =
      let i : ℕ = k - column in
      let back : column + i ≡ k = omega arith in
      ap (packed_bit words) (sym back) ∙ bit_ahead i (omega arith) ∙ ap (λ x. bit_at x i) none ∙ bit_at-zero i

  pub one_ahead : (zeros : ℕ) → get_or words (column / 64) 0 < 2 ^ 64 → rest ≢ 0 → zeros ≡ trailing_zeros w64 rest → IsNextOne (packed_bit words) column (column + zeros + 1) (column + zeros)
  one_ahead zeros small some is =
      let word = get_or words (column / 64) 0 in
      let less = div-le_self word (2 ^ (column % 64)) in
      let lowest = bit_at-trailing_zeros w64 rest (omega arith) (omega (arith, less, rest_is)) in
      let one : bit_at rest zeros ≡ 1 = ap (bit_at rest) is ∙ lowest.1 in
      let shifted : bit_at rest zeros ≡ bit_at word (column % 64 + zeros) = ap (λ x. bit_at x zeros) rest_is ∙ bit_at-shifted word (column % 64) zeros in
      let within : column % 64 + zeros < 64 = elim (cases_lt (column % 64 + zeros) 64) [
        | inl l ↦ l
        | inr past ↦ let none = bit_at_above word 64 (column % 64 + zeros) small past in absurd (omega (arith, none, one, shifted))
      ] in
      record {
        behind = omega arith;
        below = omega arith;
        one = bit_ahead zeros within ∙ one;
        zeros = λ k from before.
            let i : ℕ = k - column in
            let back : column + i ≡ k = omega arith in
            ap (packed_bit words) (sym back) ∙ bit_ahead i (omega arith) ∙ lowest.2 i (omega arith);
      }

-- zeros before a column, and from it on
pub zeros_before : (bit : ℕ → ℕ) (from column end : ℕ) → HasZerosBetween bit from column → HasZerosBetween bit column end → HasZerosBetween bit from end
zeros_before bit from column end first rest k l m = elim (cases_lt k column) [ inl early ↦ first k l early | inr late ↦ rest k late m ]

-- a one, and zeros before it: it is the next one where it is before the end, and else there is none
pub next_one-if : (bit : ℕ → ℕ) (from column end place : ℕ) (inside : Bool) → from ≤ column → HasZerosBetween bit from column → IsNextOne bit column (place + 1) place → inside ≡ nat_lt place end
    → MatchOption (then_some inside place) (HasZerosBetween bit from end) (IsNextOne bit from end)
next_one-if bit from column end place true after first next is =
    let behind = next.behind in
    record { behind = omega arith; below = grind (arith, nat_tests, is); one = next.one; zeros = zeros_before bit from column place first next.zeros }
next_one-if bit from column end place false after first next is = λ k l m.
    let past : end ≤ place = grind (arith, nat_tests, is) in
    zeros_before bit from column place first next.zeros k l (omega arith)

-- ---- the last one of a word

-- a word without the bits from `end` on
abbrev pub low_bits : ℕ → ℕ → ℕ
low_bits word end = bit_and word ((2 ^ 64 - 1) / 2 ^ (64 - end))

module _ (word end : ℕ) (within : end ≤ 64) where
  low-mask : (k : ℕ) → bit_at (low_bits word end) k ≡ min (bit_at word k) (bit_at (2 ^ end - 1) k)
  low-mask k =
      let kept : 64 - (64 - end) ≡ end = omega arith in
      let mask : (2 ^ 64 - 1) / 2 ^ (64 - end) ≡ 2 ^ end - 1 = ones_shr 64 (64 - end) (omega arith) ∙ ap (λ n. 2 ^ n - 1) kept in
      ap (λ m. bit_at (bit_and word m) k) mask ∙ bit_at_and word (2 ^ end - 1) k

  pub low-same : (k : ℕ) → k < end → bit_at (low_bits word end) k ≡ bit_at word k
  low-same k below = low-mask k ∙ ap (min (bit_at word k)) (bit_at_ones end k below) ∙ (let small = bit_at-lt word k in omega arith)

  pub low-none : (k : ℕ) → end ≤ k → bit_at (low_bits word end) k ≡ 0
  low-none k above = low-mask k ∙ ap (min (bit_at word k)) (bit_at_ones_above end k above) ∙ (omega arith)

  pub no_ones-low : low_bits word end ≡ 0 → HasZerosBetween (bit_at word) 0 end
  no_ones-low none k _ below = sym (low-same k below) ∙ ap (λ n. bit_at n k) none ∙ bit_at-zero k

  pub last_one-low : (place : ℕ) → 2 ^ place ≤ low_bits word end → low_bits word end < 2 * 2 ^ place → IsLastOne (bit_at word) end place
  last_one-low place least most =
      let low = low_bits word end in
      let rest : 1 * 2 ^ place + (low - 2 ^ place) ≡ low = omega arith in
      let same : place - place ≡ 0 = omega arith in
      let here : bit_at low place ≡ 1 = ap (λ n. bit_at n place) (sym rest) ∙ bit_at_cat_high 1 place (low - 2 ^ place) place (omega arith) (omega arith) ∙ ap (bit_at 1) same in
      let below : place < end = elim (cases_lt place end) [ inl lt ↦ lt | inr above ↦ absurd (omega (arith, here, low-none place above)) ] in
      record {
        below = below;
        one = sym (low-same place below) ∙ here;
        after = λ k past lt. sym (low-same k lt) ∙ bit_at_above low (place + 1) k (omega (arith, pow-add 2 place 1)) (omega arith);
      }
