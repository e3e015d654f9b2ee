-- Vectors looked up by the halves of their lanes, and the products of an octet and those halves.
use Rattle.std.proofs.Common.{◌≡◌, ℕ, ◌+◌, ◌-◌, ◌*◌, ◌/◌, ◌%◌, ◌^◌, ◌<◌, List, ◌++◌, length, take, drop, get_or}
use Rattle.std.proofs.Common.{map, replicate, bit_and, refl, sym, ap, ◌∙◌, arith, w8, Fits}
use Rattle.std.proofs.lemmas.List.{ext_get_or, get_or-map, get_or_append_left, length-map, take_rest}
use Rattle.std.proofs.lemmas.Nat.{and_mask}
use Rattle.std.proofs.lemmas.Simd.{Each1-get_or, Each1-from_get_or, SwzOk, SwzOk-from_below, swz_l, below_from_Fits, get_or-replicate, get_or-swz_l_below}
use Rattle.std.proofs.lemmas.Simd.{get_or-chunk, get_or-zip2, length-chunk, length-swz_l, length-zip2}
use Rattle.std.specs.Int.Bits.{bit_xor}
use lib.Lanes.{Each1, zip2, chunk, pick_l}
use Rattle.rq_standard.specs.Octets.{octet_double, octet_mul, octet_times}
use Rattle.rq_standard.specs.OctetProducts.{mul-xor_left, mul-xor_right}
use Rattle.rq_bytes.specs.HalfProducts.{AreHalfProducts, AreHalves, half_byte, whole_bytes}
use Rattle.rq_bytes.specs.declared.half_products.TheConstants.{LOWER, UPPER, FIRST_HALF, SECOND_HALF}
use Rattle.rq_bytes.proofs.SameBelow.{same_below}

abbrev down : ℕ → ℕ → ℕ
down a b = a / 2 ^ b

-- the lower and the upper halves of lanes
abbrev lower : List ℕ → List ℕ
lower v = zip2 bit_and v (replicate 32 15)

abbrev upper : List ℕ → List ℕ
upper v = zip2 down v (replicate 32 4)

-- the halves of a byte have no bit in common
halves_xor : (x y : ℕ) → x < 16 → y < 16 → bit_xor x (y * 16) ≡ x + 16 * y
halves_xor x y small_x small_y =
    let lower_is : (x + 16 * y) % 16 ≡ x = omega arith in
    let upper_is : (x + 16 * y) / 16 ≡ y = omega arith in
    rw (lower_is, upper_is) at (same_below (λ a. bit_xor (a % 16) (a / 16 * 16)) (λ a. a) 256 refl (x + 16 * y) (omega arith))

-- ---- lanes, split

module _ (v : List ℕ) (long : length v ≡ 32) (fits : Each1 (Fits w8) v) where
  length-lower : length (lower v) ≡ 32
  length-lower = length-zip2 bit_and v (replicate 32 15) long ∙ long

  length-upper : length (upper v) ≡ 32
  length-upper = length-zip2 down v (replicate 32 4) long ∙ long

  lower_at : (i : ℕ) → i < 32 → get_or (lower v) i 0 ≡ get_or v i 0 % 16
  lower_at i l =
      get_or-zip2 bit_and v (replicate 32 15) i 0 0 0 (omega (arith, long)) l
      ∙ ap (bit_and (get_or v i 0)) (get_or-replicate 32 i 15 0 l) ∙ and_mask (get_or v i 0) 4

  upper_at : (i : ℕ) → i < 32 → get_or (upper v) i 0 ≡ get_or v i 0 / 16
  upper_at i l =
      get_or-zip2 down v (replicate 32 4) i 0 0 0 (omega (arith, long)) l
      ∙ ap (down (get_or v i 0)) (get_or-replicate 32 i 4 0 l)

  lane_small : (i : ℕ) → i < 32 → get_or v i 0 < 256
  lane_small i l = Each1-get_or (λ a. a < 256) v i 0 (omega (arith, long)) (below_from_Fits w8 v fits)

  pub halves_of : AreHalves (lower v) (upper v)
  halves_of = record {
    lower_count = length-lower;
    upper_count = length-upper;
    lower_small = λ i l. omega (arith, lower_at i l);
    upper_small = λ i l. omega (arith, upper_at i l, lane_small i l);
  }

  pub whole_of : whole_bytes (lower v) (upper v) ≡ v
  whole_of =
      let whole = whole_bytes (lower v) (upper v) in
      let all : length whole ≡ 32 = length-zip2 (λ x y. x + 16 * y) (lower v) (upper v) (length-lower ∙ sym length-upper) ∙ length-lower in
      ext_get_or 0 whole v (all ∙ sym long) (λ i n.
      let l : i < 32 = omega (arith, all) in
      get_or-zip2 (λ x y. x + 16 * y) (lower v) (upper v) i 0 0 0 (omega (arith, length-lower)) (omega (arith, length-upper))
      ∙ omega (arith, lower_at i l, upper_at i l))

-- ---- halves, looked up

module _ (left right : List ℕ) (halves : AreHalves left right) where
  pub lower_ok : SwzOk w8 16 32 0 left
  lower_ok =
      let count = halves.lower_count in
      SwzOk-from_below w8 16 2 32 0 left refl (omega arith) (Each1-from_get_or (λ j. j < 16) left 0 (λ i l. halves.lower_small i (omega arith)))

  pub upper_ok : SwzOk w8 16 32 0 right
  upper_ok =
      let count = halves.upper_count in
      SwzOk-from_below w8 16 2 32 0 right refl (omega arith) (Each1-from_get_or (λ j. j < 16) right 0 (λ i l. halves.upper_small i (omega arith)))

  module _ (scalar : ℕ) (low high : List ℕ) (are : AreHalfProducts scalar low high) where
    abbrev lows : List ℕ
    lows = swz_l w8 16 low 0 left

    abbrev highs : List ℕ
    highs = swz_l w8 16 high 0 right

    low_at : (i : ℕ) → i < 32 → get_or lows i 0 ≡ octet_mul scalar (get_or left i 0)
    low_at i l =
        let half = halves.lower_small i l in
        let place : (16 * ((0 + i) / 16) + get_or left i 0) % 16 ≡ get_or left i 0 = omega (arith, half) in
        get_or-swz_l_below w8 16 low 0 left i (omega (arith, halves.lower_count)) half
        ∙ are.of_low (16 * ((0 + i) / 16) + get_or left i 0) (omega (arith, half)) ∙ ap (octet_mul scalar) place

    high_at : (i : ℕ) → i < 32 → get_or highs i 0 ≡ octet_mul scalar (get_or right i 0 * 16)
    high_at i l =
        let half = halves.upper_small i l in
        let place : (16 * ((0 + i) / 16) + get_or right i 0) % 16 * 16 ≡ get_or right i 0 * 16 = omega (arith, half) in
        get_or-swz_l_below w8 16 high 0 right i (omega (arith, halves.upper_count)) half
        ∙ are.of_high (16 * ((0 + i) / 16) + get_or right i 0) (omega (arith, half)) ∙ ap (octet_mul scalar) place

    pub length-looked_up : length (zip2 bit_xor lows highs) ≡ 32
    length-looked_up =
        let long = length-swz_l w8 16 low 0 left ∙ halves.lower_count in
        length-zip2 bit_xor lows highs (long ∙ sym (length-swz_l w8 16 high 0 right ∙ halves.upper_count)) ∙ long

    pub looked_up : zip2 bit_xor lows highs ≡ map (λ x. octet_mul scalar x) (whole_bytes left right)
    looked_up =
        let count = halves.lower_count in
        let same = halves.upper_count in
        let whole = whole_bytes left right in
        let long_whole : length whole ≡ 32 = length-zip2 (λ x y. x + 16 * y) left right (count ∙ sym same) ∙ count in
        ext_get_or 0 (zip2 bit_xor lows highs) (map (λ x. octet_mul scalar x) whole) (length-looked_up ∙ sym (length-map whole (λ x. octet_mul scalar x) ∙ long_whole)) (λ i n.
        let l : i < 32 = omega (arith, length-looked_up) in
        let x = get_or left i 0 in
        let y = get_or right i 0 in
        let small_x = halves.lower_small i l in
        let small_y = halves.upper_small i l in
        get_or-zip2 bit_xor lows highs i 0 0 0 (omega (arith, length-swz_l w8 16 low 0 left)) (omega (arith, length-swz_l w8 16 high 0 right))
        ∙ ap (λ z. bit_xor z (get_or highs i 0)) (low_at i l)
        ∙ ap (bit_xor (octet_mul scalar x)) (high_at i l)
        ∙ sym (mul-xor_right scalar x (y * 16) are.octet (omega arith) (omega arith))
        ∙ ap (octet_mul scalar) (halves_xor x y small_x small_y)
        ∙ ap (octet_mul scalar) (sym (get_or-zip2 (λ a b. a + 16 * b) left right i 0 0 0 (omega arith) (omega arith)))
        ∙ sym (get_or-map (λ a. octet_mul scalar a) whole i 0 0 (omega (arith, long_whole))))

-- ---- tables of the products of a half

lower_products : (n : ℕ) → n < 512 → get_or LOWER n 0 ≡ octet_mul (n / 32) (half_byte (n % 32))
unfolding octet_mul octet_times octet_double
lower_products = same_below (λ n. get_or LOWER n 0) (λ n. octet_mul (n / 32) (half_byte (n % 32))) 512 refl

upper_products : (n : ℕ) → n < 512 → get_or UPPER n 0 ≡ octet_mul (n / 32 * 16) (half_byte (n % 32))
unfolding octet_mul octet_times octet_double
upper_products = same_below (λ n. get_or UPPER n 0) (λ n. octet_mul (n / 32 * 16) (half_byte (n % 32))) 512 refl

entry_is : (table : List ℕ) (f : ℕ → ℕ) → ((n : ℕ) → n < 512 → get_or table n 0 ≡ octet_mul (f (n / 32)) (half_byte (n % 32)))
    → (a i : ℕ) → a < 16 → i < 32 → get_or table (32 * a + i) 0 ≡ octet_mul (f a) (half_byte i)
entry_is table f all a i l n =
    let place : (32 * a + i) / 32 ≡ a = omega arith in
    let rest : (32 * a + i) % 32 ≡ i = omega arith in
    rw (place, rest) at (all (32 * a + i) (omega arith))

module _ (scalar low high : ℕ) (small : scalar < 256) (low_is : low ≡ scalar % 16) (high_is : high ≡ scalar / 16) where
  abbrev of_lower : List ℕ
  of_lower = chunk (32 * low) 32 LOWER

  abbrev of_upper : List ℕ
  of_upper = chunk (32 * high) 32 UPPER

  -- as a vector is read from the rest of a table
  pub as_read : zip2 bit_xor (chunk 0 32 (take (512 - 32 * low) (drop (32 * low) LOWER))) (chunk 0 32 (take (512 - 32 * high) (drop (32 * high) UPPER))) ≡ zip2 bit_xor of_lower of_upper
  as_read =
      ap (λ xs. zip2 bit_xor (chunk 0 32 xs) (chunk 0 32 (take (512 - 32 * high) (drop (32 * high) UPPER)))) (take_rest LOWER (32 * low))
      ∙ ap (λ xs. zip2 bit_xor of_lower (chunk 0 32 xs)) (take_rest UPPER (32 * high))

  lower_long : length of_lower ≡ 32
  lower_long = let n : length LOWER ≡ 512 = refl in length-chunk (32 * low) 32 LOWER (omega (arith, n, low_is))

  upper_long : length of_upper ≡ 32
  upper_long = let n : length UPPER ≡ 512 = refl in length-chunk (32 * high) 32 UPPER (omega (arith, n, small, high_is))

  pub sums_long : length (zip2 bit_xor of_lower of_upper) ≡ 32
  sums_long = length-zip2 bit_xor of_lower of_upper (lower_long ∙ sym upper_long) ∙ lower_long

  pub sums : (i : ℕ) → i < 32 → get_or (zip2 bit_xor of_lower of_upper) i 0 ≡ octet_mul scalar (half_byte i)
  sums i l =
      let first : low < 16 = omega (arith, low_is) in
      let second : high < 16 = omega (arith, small, high_is) in
      let whole : low + 16 * high ≡ scalar = omega (arith, low_is, high_is) in
      get_or-zip2 bit_xor of_lower of_upper i 0 0 0 (omega (arith, lower_long)) (omega (arith, upper_long))
      ∙ ap (λ x. bit_xor x (get_or of_upper i 0)) (get_or-chunk (32 * low) 32 LOWER i 0 l ∙ entry_is LOWER (λ a. a) lower_products low i first l)
      ∙ ap (bit_xor (octet_mul low (half_byte i))) (get_or-chunk (32 * high) 32 UPPER i 0 l ∙ entry_is UPPER (λ a. a * 16) upper_products high i second l)
      ∙ sym (mul-xor_left low (high * 16) (half_byte i) (omega arith) (omega arith))
      ∙ ap (λ a. octet_mul a (half_byte i)) (halves_xor low high first second ∙ whole)

-- ---- both halves twice

module _ (scalar : ℕ) (small : scalar < 256) (products : List ℕ) (long : length products ≡ 32) (each : (i : ℕ) → i < 32 → get_or products i 0 ≡ octet_mul scalar (half_byte i)) where
  picked : (places : List ℕ) (f g : ℕ → ℕ) → length places ≡ 32 → ((i : ℕ) → i < 32 → get_or places i 0 ≡ f i)
      → ((i : ℕ) → i < 32 → half_byte (f i) ≡ g i) → ((i : ℕ) → f i < 32)
      → (i : ℕ) → i < 32 → get_or (pick_l 0 (products ++ products) places) i 0 ≡ octet_mul scalar (g i)
  picked places f g count read halves below i l =
      get_or-map (λ k. get_or (products ++ products) k 0) places i 0 0 (omega (arith, count))
      ∙ ap (λ k. get_or (products ++ products) k 0) (read i l)
      ∙ get_or_append_left products products 0 (f i) (omega (arith, long, below i))
      ∙ each (f i) (below i)
      ∙ ap (octet_mul scalar) (halves i l)

  abbrev low : List ℕ
  low = pick_l 0 (products ++ products) FIRST_HALF

  abbrev high : List ℕ
  high = pick_l 0 (products ++ products) SECOND_HALF

  of_low : (i : ℕ) → i < 32 → get_or low i 0 ≡ octet_mul scalar (i % 16)
  of_low =
      picked FIRST_HALF (λ i. i % 16) (λ i. i % 16) refl (same_below (λ k. get_or FIRST_HALF k 0) (λ k. k % 16) 32 refl)
      (same_below (λ k. half_byte (k % 16)) (λ k. k % 16) 32 refl) (λ i. omega arith)

  of_high : (i : ℕ) → i < 32 → get_or high i 0 ≡ octet_mul scalar (i % 16 * 16)
  of_high =
      picked SECOND_HALF (λ i. 16 + i % 16) (λ i. i % 16 * 16) refl (same_below (λ k. get_or SECOND_HALF k 0) (λ k. 16 + k % 16) 32 refl)
      (same_below (λ k. half_byte (16 + k % 16)) (λ k. k % 16 * 16) 32 refl) (λ i. omega arith)

  pub half_products : AreHalfProducts scalar low high
  half_products = record {
    octet = small;
    low_count = length-map FIRST_HALF (λ k. get_or (products ++ products) k 0);
    high_count = length-map SECOND_HALF (λ k. get_or (products ++ products) k 0);
    of_low = of_low;
    of_high = of_high;
  }
