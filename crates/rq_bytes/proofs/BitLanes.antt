-- The bits of lanes, and those of words as lanes.
use Rattle.std.proofs.Common.{[], ◌∷◌, ◌++◌, ◌≡◌, ℕ, ◌+◌, ◌-◌, ◌*◌, ◌/◌, ◌%◌, ◌^◌, ◌<◌, ◌≤◌, Bool, false, cond, eqb, max, List}
use Rattle.std.proofs.Common.{length, get_or, map, replicate, refl, sym, ap, ◌∙◌, arith, ⊎_elim}
use Rattle.std.proofs.lemmas.Bool.{cases_eq, cases_lt, cond-true, cond-false, eq-eqb, ne_eqb}
use Rattle.std.proofs.lemmas.List.{ext_get_or, get_or-map, get_or_append_left, length-map}
use Rattle.std.proofs.lemmas.List.FromFn.{length-map-range_with_len, get_or-map-range_with_len}
use Rattle.std.proofs.lemmas.Nat.{shr-shr, pow_pos}
use Rattle.std.proofs.lemmas.Nat.Bits.{and_pow, bit_at-lt, bit_at_above, bit_at_cat_low, bit_at_cat_high, bit_at_or, bit_at-zero}
use Rattle.std.proofs.lemmas.Simd.{length-zip2, get_or-zip2, length-sel_l, get_or-sel_l, get_or-replicate, length-replicate, get_or_narrower}
use Rattle.std.specs.List.{range_with_len}
use Rattle.std.specs.Int.{bit_at}
use Rattle.std.specs.Int.Bits.{bit_or, bit_xor}
use lib.Bits.{bit_and}
use lib.Lanes.{zip2, sel_l, digits_l, number_l, pick_l}
use Rattle.rq_standard.specs.Octets.{octet_mul, octet_times}
use Rattle.rq_standard.specs.OctetProducts.{if_set, mul-one, mul-zero}
use Rattle.rq_standard.specs.Rows.{row_sum, row_multiple}
use Rattle.rq_bytes.specs.BinaryOctetVec.{padding_of, packed_bit, packed_bits}
use Rattle.rq_bytes.specs.declared.products.TheConstants.{MASKS, PLACES}
use Rattle.rq_bytes.proofs.PackedRows.{length-packed_bits}
use Rattle.rq_bytes.proofs.ProductSteps.{end}
use Rattle.rq_bytes.proofs.SameBelow.{same_below}
use Rattle.rq_bytes.proofs.ZipUpto.{zip2-map_right}

-- the packed row of n elements
module _ (words row : List ℕ) (len padding n : ℕ) (view : packed_bits words len ≡ row) (long : length row ≡ n) (before : padding ≡ padding_of (length row)) where
  pub len_is : len ≡ n
  len_is = sym (length-packed_bits words len) ∙ ap length view ∙ long

  pub padding_is : padding ≡ padding_of len
  padding_is = before ∙ ap padding_of (long ∙ sym len_is)

  pub row_is : row ≡ map (λ k. packed_bit words (padding + k)) (range_with_len 0 n)
  unfolding packed_bits
  row_is =
      sym view
      ∙ ap (λ p. map (λ k. packed_bit words (p + k)) (range_with_len 0 len)) (sym padding_is)
      ∙ ap (λ l. map (λ k. packed_bit words (padding + k)) (range_with_len 0 l)) len_is

-- what a word has at a bit when it is moved up
moved_up : (word up i : ℕ) → i < 64 → bit_at (word * 2 ^ up % 2 ^ 64) i ≡ bit_at (word * 2 ^ up + 0) i
moved_up word up i lt =
    let n = word * 2 ^ up in
    let whole : n / 2 ^ 64 * 2 ^ 64 + n % 2 ^ 64 ≡ n + 0 = omega arith in
    sym (bit_at_cat_low (n / 2 ^ 64) 64 (n % 2 ^ 64) i lt) ∙ ap (λ x. bit_at x i) whole

-- 32 bits from a place on, of the words where they begin and end
pub bits_joined : (words : List ℕ) (place i : ℕ) → get_or words (place / 64) 0 < 2 ^ 64 → i < 32
    → bit_at (bit_or (get_or words (place / 64) 0 / 2 ^ (place % 64))
    (get_or words (place / 64 + (place % 64 + 31) / 64) 0 * 2 ^ ((64 - place % 64) % 64) % 2 ^ 64)) i
    ≡ packed_bit words (place + i)
bits_joined words place i small lt =
    let shift = place % 64 in
    let up = (64 - shift) % 64 in
    let first = get_or words (place / 64) 0 in
    let last = get_or words (place / 64 + (shift + 31) / 64) 0 in
    let low : bit_at (first / 2 ^ shift) i ≡ bit_at first (shift + i) = ap (λ x. x % 2) (shr-shr first shift i) in
    let high = moved_up last up i (omega arith) in
    let is = packed_bit words (place + i) in
    let here : shift + i < 64 → bit_at first (shift + i) ≡ is = λ fits.
    let same : place / 64 ≡ (place + i) / 64 = omega arith in
    let there : shift + i ≡ (place + i) % 64 = omega arith in
    ap (λ k. bit_at (get_or words k 0) (shift + i)) same ∙ ap (bit_at (get_or words ((place + i) / 64) 0)) there
    in
    let next : up ≤ i → bit_at (last * 2 ^ up + 0) i ≡ is = λ under.
    let same : place / 64 + (shift + 31) / 64 ≡ (place + i) / 64 = omega arith in
    let there : i - up ≡ (place + i) % 64 = omega arith in
    bit_at_cat_high last up 0 i (pow_pos up) under ∙ ap (λ k. bit_at (get_or words k 0) (i - up)) same ∙ ap (bit_at (get_or words ((place + i) / 64) 0)) there
    in
    let either : max (bit_at first (shift + i)) (bit_at (last * 2 ^ up + 0) i) ≡ is =
    ⊎_elim
    (λ (over : i < up). let none = bit_at_cat_low last up 0 i over ∙ bit_at-zero i in omega (arith, none, here (omega arith)))
    (λ (under : up ≤ i).
    ⊎_elim
    (λ (fits : shift + i < 64). omega (arith, next under, here fits))
    (λ (past : 64 ≤ shift + i). omega (arith, next under, bit_at_above first 64 (shift + i) small past))
    (cases_lt (shift + i) 64))
    (cases_lt i up)
    in
    bit_at_or (first / 2 ^ shift) (last * 2 ^ up % 2 ^ 64) i
    ∙ ap (λ x. max x (bit_at (last * 2 ^ up % 2 ^ 64) i)) low
    ∙ ap (max (bit_at first (shift + i))) high
    ∙ either

-- a multiple of bits, added
pub bits_added : (scalar : ℕ) (bit : ℕ → ℕ) (xs : List ℕ) → zip2 (λ x k. bit_xor x (octet_mul scalar (bit k))) xs (range_with_len 0 (length xs)) ≡ row_sum xs (row_multiple scalar (map bit (range_with_len 0 (length xs))))
bits_added scalar bit xs =
    let places = range_with_len 0 (length xs) in
    sym (zip2-map_right bit_xor (octet_mul scalar) xs (map bit places) ∙ zip2-map_right (λ x y. bit_xor x (octet_mul scalar y)) bit xs places)

-- ---- lanes that have a bit set

-- the two tests of a bit are one
eqb_scaled : (b p : ℕ) → b < 2 → 0 < p → eqb (b * p) p ≡ eqb b 1
eqb_scaled b p hb hp =
    ⊎_elim
    (λ (is : b ≡ 0). ap (λ x. eqb (x * p) p) is ∙ ne_eqb (0 * p) p (λ e. omega arith) ∙ sym (ap (λ x. eqb x 1) is))
    (λ (ne : b ≡ 0 → ⊥).
    let is : b ≡ 1 = omega arith in
    ap (λ x. eqb (x * p) p) is ∙ eq-eqb (1 * p) p (omega arith) ∙ sym (ap (λ x. eqb x 1) is))
    (cases_eq b 0)

bit_tests : (x k : ℕ) → eqb (bit_and x (2 ^ k)) (2 ^ k) ≡ eqb (x / 2 ^ k % 2) 1
bit_tests x k = ap (λ y. eqb y (2 ^ k)) (and_pow x k) ∙ eqb_scaled (x / 2 ^ k % 2) (2 ^ k) (bit_at-lt x k) (pow_pos k)

-- an octet in each lane that has the bit set that its mask has, and 0 in the others
abbrev where_set : ℕ → ℕ → List ℕ → List ℕ → List ℕ
where_set n term masks v = sel_l (zip2 eqb (zip2 bit_and v masks) masks) (replicate n term) (replicate n 0)

module _ (n term : ℕ) (masks v : List ℕ) (long_masks : length masks ≡ n) (long : length v ≡ n) where
  abbrev tests : List Bool
  tests = zip2 eqb (zip2 bit_and v masks) masks

  length-met : length (zip2 bit_and v masks) ≡ n
  length-met = length-zip2 bit_and v masks (long ∙ sym long_masks) ∙ long

  length-tests : length tests ≡ n
  length-tests = length-zip2 eqb (zip2 bit_and v masks) masks (length-met ∙ sym long_masks) ∙ length-met

  zeros : length (replicate {A = ℕ} n 0) ≡ n
  zeros = length-replicate {A = ℕ} n 0

  pub length-where_set : length (where_set n term masks v) ≡ n
  length-where_set =
      length-sel_l tests (replicate n term) (replicate n 0) (length-tests ∙ sym (length-replicate n term)) (length-tests ∙ sym zeros) ∙ length-tests

  pub where_set_at : (i k : ℕ) → i < n → get_or masks i 0 ≡ 2 ^ k → get_or (where_set n term masks v) i 0 ≡ if_set (get_or v i 0 / 2 ^ k) term
  where_set_at i k lt is =
      let terms = length-replicate n term in
      get_or-sel_l tests (replicate n term) (replicate n 0) i 0 (omega (arith, length-tests)) (omega (arith, terms)) (omega (arith, zeros))
      ∙ ap (λ t. cond t (get_or (replicate n term) i 0) (get_or (replicate n 0) i 0))
      (get_or-zip2 eqb (zip2 bit_and v masks) masks i 0 0 false (omega (arith, length-met)) (omega arith)
      ∙ ap (λ x. eqb x (get_or masks i 0)) (get_or-zip2 bit_and v masks i 0 0 0 (omega arith) (omega arith))
      ∙ ap (λ b. eqb (bit_and (get_or v i 0) b) b) is
      ∙ bit_tests (get_or v i 0) k)
      ∙ ap (λ s. cond (eqb (get_or v i 0 / 2 ^ k % 2) 1) s (get_or (replicate n 0) i 0)) (get_or-replicate n i term 0 lt)
      ∙ ap (cond (eqb (get_or v i 0 / 2 ^ k % 2) 1) term) (get_or-replicate n i 0 0 lt)

pub all_planes : (k term s : ℕ) (sum lanes : List ℕ) → 8 ≤ k → length sum ≡ 32 → length lanes ≡ 32
    → ((i : ℕ) → i < 32 → bit_xor (get_or sum i 0) (octet_times (8 - k) term (get_or lanes i 0 / 2 ^ k)) ≡ octet_mul s (get_or lanes i 0))
    → sum ≡ map (λ x. octet_mul s x) lanes
all_planes k term s sum lanes le long_sum long each =
    ext_get_or 0 sum (map (λ x. octet_mul s x) lanes) (long_sum ∙ sym (length-map lanes (λ x. octet_mul s x) ∙ long))
    (λ i under.
    end k (get_or sum i 0) term (get_or lanes i 0 / 2 ^ k) (octet_mul s (get_or lanes i 0)) le (each i (omega arith))
    ∙ sym (get_or-map (λ x. octet_mul s x) lanes i 0 0 (omega arith)))

-- ---- lanes of bits

if_set_is : (scalar x : ℕ) → scalar < 256 → if_set x scalar ≡ octet_mul scalar (x % 2)
if_set_is scalar x small =
    ⊎_elim
    (λ (is : x % 2 ≡ 1). cond-true (eqb (x % 2) 1) scalar 0 (eq-eqb (x % 2) 1 is) ∙ sym (ap (octet_mul scalar) is ∙ mul-one scalar small))
    (λ (ne : x % 2 ≡ 1 → ⊥).
    let none : x % 2 ≡ 0 = omega arith in
    cond-false (eqb (x % 2) 1) scalar 0 (ne_eqb (x % 2) 1 ne) ∙ sym (ap (octet_mul scalar) none ∙ mul-zero scalar))
    (cases_eq (x % 2) 1)

mask_at : (i : ℕ) → i < 32 → get_or MASKS i 0 ≡ 2 ^ (i % 8)
mask_at = same_below (λ k. get_or MASKS k 0) (λ k. 2 ^ (k % 8)) 32 refl

place_at : (i : ℕ) → i < 32 → get_or PLACES i 0 ≡ i / 8
place_at = same_below (λ k. get_or PLACES k 0) (λ k. k / 8) 32 refl

-- ---- the octets of a word

-- the bits of an octet
octet_bits : (word k i : ℕ) → k < 4 → i < 8 → bit_at (word / 256 ^ k % 256) i ≡ bit_at word (8 * k + i)
octet_bits word k i few lt =
    let n = word / 256 ^ k in
    let whole : n / 256 * 2 ^ 8 + n % 256 ≡ n = omega arith in
    sym (bit_at_cat_low (n / 256) 8 (n % 256) i lt)
    ∙ ap (λ x. bit_at x i) whole
    ∙ ap (λ d. bit_at (word / d) i) (same_below (λ k. 256 ^ k) (λ k. 2 ^ (8 * k)) 4 refl k few)
    ∙ ap (λ x. x % 2) (shr-shr word (8 * k) i)

module _ (scalar word : ℕ) (small : scalar < 256) (fits : word < 2 ^ 64) where
  abbrev octets : List ℕ
  octets = digits_l 256 8 (number_l (2 ^ 64) (word ∷ []))

  -- each of the lowest four, in eight lanes
  abbrev repeated : List ℕ
  repeated = pick_l 0 (octets ++ octets) PLACES

  repeated_at : (i : ℕ) → i < 32 → get_or repeated i 0 ≡ word / 256 ^ (i / 8) % 256
  repeated_at i lt =
      let part : i / 8 ≡ 8 * 0 + i / 8 = omega arith in
      get_or-map (λ k. get_or (octets ++ octets) k 0) PLACES i 0 0 lt
      ∙ ap (λ k. get_or (octets ++ octets) k 0) (place_at i lt)
      ∙ get_or_append_left octets octets 0 (i / 8) (omega arith)
      ∙ ap (λ k. get_or octets k 0) part
      ∙ get_or_narrower (2 ^ 64) 8 256 8 (word ∷ []) 0 (i / 8) refl (fits, tt) (omega arith) (omega arith)

  -- the products of an octet and the lowest bits
  pub masked_bits : where_set 32 scalar MASKS repeated ≡ map (λ i. octet_mul scalar (bit_at word i)) (range_with_len 0 32)
  masked_bits =
      let product : ℕ → ℕ = λ i. octet_mul scalar (bit_at word i) in
      let long : length (where_set 32 scalar MASKS repeated) ≡ 32 = length-where_set 32 scalar MASKS repeated refl refl in
      ext_get_or 0 (where_set 32 scalar MASKS repeated) (map product (range_with_len 0 32)) (long ∙ sym (length-map-range_with_len product 0 32)) (λ i under.
      let lt : i < 32 = omega (arith, under, long) in
      let whole : 8 * (i / 8) + i % 8 ≡ i = omega arith in
      where_set_at 32 scalar MASKS repeated refl refl i (i % 8) lt (mask_at i lt)
      ∙ if_set_is scalar (get_or repeated i 0 / 2 ^ (i % 8)) small
      ∙ ap (λ x. octet_mul scalar (bit_at x (i % 8))) (repeated_at i lt)
      ∙ ap (octet_mul scalar) (octet_bits word (i / 8) (i % 8) (omega arith) (omega arith) ∙ ap (bit_at word) whole)
      ∙ sym (get_or-map-range_with_len product 0 32 i i 0 lt (omega arith)))
