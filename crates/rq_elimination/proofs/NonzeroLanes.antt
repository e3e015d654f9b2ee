-- The bits of a word say which octets aren't 0.
use Rattle.std.proofs.Common.{◌≡◌, ◌≢◌, ℕ, ◌+◌, ◌-◌, ◌%◌, ◌^◌, ◌<◌, ◌≤◌, Bool, false, List, length, map, min, eqb, not, cond, sym, ap, ◌∙◌, arith, inl, inr, w8, w64, lit<}
use Rattle.std.specs.Prelude.{bit_and, replicate}
use Rattle.std.specs.Int.{bit_at, bit_not}
use Rattle.std.proofs.lemmas.Bool.{cases_eq, eq-eqb, ne_eqb}
use Rattle.std.proofs.lemmas.List.{get_or-map, length-map}
use Rattle.std.proofs.lemmas.Nat.Bits.{bit_at-lt, bit_at-zero, bit_at_above, bit_at_and, bit_at_not}
use Rattle.std.proofs.lemmas.Simd.{length-chunk, get_or-chunk, bit_mask_l, bitmask_splat, mask_l-lt}
use lib.Lanes.{chunk, mask_l, top, zip2}
use Rattle.rq_algebra.specs.Systems.{at}
use Rattle.rq_standard.specs.BitTableSteps.{bit_of}
use Rattle.rq_elimination.specs.NonzeroOctets.{HasOnes}
use Rattle.rq_algebra.proofs.Choices.{if_same}
use Rattle.rq_parts.proofs.ListedBits.{nonzero_bit}
use Rattle.rq_parts.proofs.LowestOnes.{ClearsLowest, lowest_before, lowest_from}

zero_bit : (x : ℕ) → x ≡ 0 → bit_of x ≡ 0
zero_bit x e = if_same x 0 0 1 e

is_zero : (x : ℕ) → bit_of x ≡ 0 → x ≡ 0
is_zero x none = elim (cases_eq x 0) [ inl e ↦ e | inr d ↦ absurd (omega (arith, none, nonzero_bit x d)) ]

is_some : (x : ℕ) → bit_of x ≡ 1 → x ≢ 0
is_some x some = λ e. omega (arith, some, zero_bit x e)

-- ---- the next octet that isn't 0

module _ (octets : List ℕ) (start place ones : ℕ) (v : HasOnes octets start place ones) where
  zero_at : (k : ℕ) → place < k → start ≤ k → k < start + 32 → bit_at ones (k - start) ≡ 0 → at octets k ≡ 0
  zero_at k after from before none =
      let there : start + (k - start) ≡ k = omega arith in
      ap (at octets) (sym there) ∙ is_zero (at octets (start + (k - start))) (sym (v.ahead (k - start) (rw there after) (omega arith)) ∙ none)

  pub all_zeros : ones ≡ 0 → (k : ℕ) → place < k → start ≤ k → k < start + 32 → at octets k ≡ 0
  all_zeros none k after from before = zero_at k after from before (ap (λ n. bit_at n (k - start)) none ∙ bit_at-zero (k - start))

  -- the first of them, and the word that is left
  pub record IsFirstOne (lowest less : ℕ) : Type 0 where
    pub inside : lowest < 32
    pub after : place < start + lowest
    pub some : at octets (start + lowest) ≢ 0
    pub zeros : (k : ℕ) → place < k → start ≤ k → k < start + lowest → at octets k ≡ 0
    pub others : HasOnes octets start (start + lowest) less

  pub first_one : (lowest less : ℕ) → ClearsLowest ones lowest less → IsFirstOne lowest less
  first_one lowest less clears =
      let inside : lowest < 32 = lowest_before ones lowest less clears 32 v.beyond in
      let after : place < start + lowest = (let from = lowest_from ones lowest less clears (place + 1 - start) (λ k l. v.behind k (omega arith)) in omega (arith, from)) in
      record {
        inside = inside;
        after = after;
        some = is_some (at octets (start + lowest)) (sym (v.ahead lowest after inside) ∙ clears.one);
        zeros = λ k late from before. zero_at k late from (omega (arith, before, inside)) (clears.zeros (k - start) (omega arith));
        others = record {
          behind = λ k l. clears.cleared k (omega arith);
          ahead = λ k l m. clears.kept k (omega arith) ∙ v.ahead k (omega (arith, l, after)) m;
          beyond = λ k past. clears.kept k (omega (arith, past, inside)) ∙ v.beyond k past;
        };
      }

-- where the vector begins
pub same_vector : (start lane : ℕ) → start % 32 ≡ 0 → lane < 32 → start + lane - (start + lane) % 32 ≡ start
same_vector start lane whole inside = omega (arith, whole, inside)

module _ (octets : List ℕ) (start lanes : ℕ) (bits : (k : ℕ) → k < 32 → bit_at lanes k ≡ bit_of (at octets (start + k))) (few : lanes < 2 ^ 32) where
  -- a vector after the place
  pub ones_ahead : (place : ℕ) → place < start → HasOnes octets start place lanes
  ones_ahead place before = record {
    behind = λ k l. absurd (omega (arith, l, before));
    ahead = λ k l m. bits k m;
    beyond = λ k past. bit_at_above lanes 32 k few past;
  }

  -- a vector without its first octet
  pub ones_after_first : HasOnes octets start start (bit_and lanes (bit_not w64 1))
  ones_after_first = record {
    behind = λ k l. (let first : k ≡ 0 = omega arith in rw first (bit_at_and lanes (bit_not w64 1) 0 ∙ ap (min (bit_at lanes 0)) (bit_at_not w64 1 0 (lit< tt) (lit< tt)) ∙ omega arith));
    ahead = λ k l m.
        let none : bit_at 1 k ≡ 0 = bit_at_above 1 1 k (lit< tt) (omega arith) in
        let one : bit_at (bit_not w64 1) k ≡ 1 = bit_at_not w64 1 k (lit< tt) (omega arith) ∙ omega (arith, none) in
        bit_at_and lanes (bit_not w64 1) k ∙ ap (min (bit_at lanes k)) one ∙ (let small = bit_at-lt lanes k in omega (arith, small)) ∙ bits k m;
    beyond = λ k past. bit_at_and lanes (bit_not w64 1) k ∙ ap (λ b. min b (bit_at (bit_not w64 1) k)) (bit_at_above lanes 32 k few past) ∙ omega arith;
  }

-- ---- the lanes of a vector

-- whether two octets aren't the same
abbrev differs : ℕ → ℕ → Bool
differs a b = not (eqb a b)

lane_bit : (x : ℕ) → cond (differs x 0) 1 0 ≡ bit_of x
lane_bit x = elim (cases_eq x 0) [
  | inl e ↦ ap (λ b. cond (not b) 1 0) (eq-eqb x 0 e) ∙ sym (zero_bit x e)
  | inr d ↦ ap (λ b. cond (not b) 1 0) (ne_eqb x 0 d) ∙ sym (nonzero_bit x d)
]

-- what the comparison of a vector with zeros gives
abbrev lanes_of : List ℕ → ℕ → ℕ
lanes_of octets start = mask_l (map (top 7) (zip2 (λ a b. cond (differs a b) 255 0) (chunk start 32 octets) (replicate 32 0))) % 2 ^ 64

module _ (octets : List ℕ) (start : ℕ) (room : start + 32 ≤ length octets) where
  lanes_are : lanes_of octets start ≡ mask_l (map (λ x. differs x 0) (chunk start 32 octets))
  lanes_are = bitmask_splat w8 differs (chunk start 32 octets) 32 0 (length-chunk start 32 octets room) (omega arith)

  pub lane_bits : (result : ℕ) → result ≡ lanes_of octets start → (k : ℕ) → k < 32 → bit_at result k ≡ bit_of (at octets (start + k))
  lane_bits result is k l =
      let long = length-chunk start 32 octets room in
      ap (λ n. bit_at n k) (is ∙ lanes_are)
      ∙ bit_mask_l (map (λ x. differs x 0) (chunk start 32 octets)) k
      ∙ ap (λ b. cond b 1 0) (get_or-map (λ x. differs x 0) (chunk start 32 octets) k 0 false (omega (arith, long)))
      ∙ ap (λ x. cond (differs x 0) 1 0) (get_or-chunk start 32 octets k 0 l)
      ∙ lane_bit (at octets (start + k))

  pub lanes_few : (result : ℕ) → result ≡ lanes_of octets start → result < 2 ^ 32
  lanes_few result is =
      let many : length (map (λ x. differs x 0) (chunk start 32 octets)) ≡ 32 = length-map (chunk start 32 octets) (λ x. differs x 0) ∙ length-chunk start 32 octets room in
      rw (is ∙ lanes_are) (rw many at (mask_l-lt (map (λ x. differs x 0) (chunk start 32 octets))))
