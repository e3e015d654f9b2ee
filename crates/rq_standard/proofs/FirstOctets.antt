-- Symbols of which only the first octet may be nonzero: that octet stands before the object's padding, in every cutting.
use Rattle.std.proofs.Common.{◌≡◌, ◌≢◌, ℕ, zero, suc, ◌+◌, ◌-◌, ◌*◌, ◌/◌, ◌%◌, ◌<◌, ◌≤◌, ◌⊎◌, cond, ltb, eqb, Bool, true, false, List, ◌∷◌, length, take, get_or, set, replicate, map, refl, sym, ap, ◌∙◌, subst, arith, inl, inr, length-append}
use Rattle.std.specs.Prelude.{◌&&◌}
use Rattle.std.specs.List.{range_with_len}
use Rattle.std.proofs.Math.Nat.{mul-le-mul_right, mul-mod_left}
use Rattle.std.proofs.lemmas.Bool.{cases_lt, cases_eq, lt-ltb, le-ltb, eq-eqb, ne_eqb}
use Rattle.std.proofs.lemmas.Nat.{div-mul-add, div-add-mod', mod-mul-add, mod_below}
use Rattle.std.proofs.lemmas.Grind.{div_ceil_times}
use Rattle.std.proofs.lemmas.List.{ext_get_or, get_or-take, get_or_past, length-take-le, get_or_append_left, get_or-append_right, get_or-set_same, get_or-set_other, length-set, length-replicate}
use Rattle.std.proofs.lemmas.List.FromFn.{length-map-range_with_len, get_or-map-range_with_len}
use Rattle.rq_algebra.proofs.Placewise.{at-zeros}
use Rattle.rq_standard.specs.Configuration.{Configuration, IsAligned, total_symbols}
use Rattle.rq_standard.specs.Cutting.{block_symbols, symbols_before, sub_block_size, sub_block_start, place_in_block, block_bytes, symbol_of_block, source_symbol}
use Rattle.rq_standard.specs.Differences.{first_octets_below, first_octets_block}
use Rattle.rq_standard.specs.Equations.{zero_symbol}
use Rattle.rq_standard.proofs.BlockCuts.{symbols_before-grows, pieces, symbols_before-first, symbols_before-next, symbols_before-all}
use Rattle.rq_standard.proofs.Interleaved.{IsSubBlock, at_byte, place_in, place_below, get_or-symbol_of_block}
use Rattle.rq_standard.proofs.StandingSteps.{length-symbol_of_block}

-- a symbol of which only the first octet may be nonzero
abbrev pub first_octet_symbol : ℕ → ℕ → List ℕ
first_octet_symbol size octet = octet ∷ zero_symbol (size - 1)

module _ (c : Configuration) (k : ℕ) (octet : ℕ → ℕ) (n : ℕ) where
  below_at : (i : ℕ) → i < k * c.symbol_size → get_or (first_octets_below c k octet n) i 0 ≡ cond (eqb (i % sub_block_size c 0) 0 && ltb (i / sub_block_size c 0) n) (octet (i / sub_block_size c 0)) 0
  below_at i below = get_or-map-range_with_len _ 0 (k * c.symbol_size) i i 0 below (omega arith)

  pub length-octets_below : length (first_octets_below c k octet n) ≡ k * c.symbol_size
  length-octets_below = length-map-range_with_len _ 0 (k * c.symbol_size)

-- ---- where first octets stand

module _ (c : Configuration) (pos : 0 < c.symbol_size) (aligned : IsAligned c) where
  -- the first sub-block starts at byte 0
  pub first_sub_block : IsSubBlock c 0 (sub_block_size c 0)
  first_sub_block =
      let h = at_byte c 0 aligned pos in
      let start : sub_block_start c 0 ≡ 0 = omega (arith, h.low) in
      subst (λ o. IsSubBlock c o (sub_block_size c 0)) start h.part

  pub first_place : (k e : ℕ) → place_in_block c k e 0 ≡ sub_block_size c 0 * e
  first_place k e = place_in c k e 0 (sub_block_size c 0) 0 first_sub_block (omega arith) (omega (arith, first_sub_block.positive)) ∙ omega arith

  -- a later byte stands behind it in the first sub-block, or behind all of this
  pub later_place : (k e t : ℕ) → 0 < t → t < c.symbol_size
      → (t < sub_block_size c 0) × (place_in_block c k e t ≡ e * sub_block_size c 0 + t) ⊎ (k * sub_block_size c 0 ≤ place_in_block c k e t)
  later_place k e t some below =
      let z = sub_block_size c 0 in
      elim (cases_lt t z) [
        | inl lt ↦ inl (lt, place_in c k e 0 z t first_sub_block (omega arith) (omega arith) ∙ omega arith)
        | inr past ↦
            let h = at_byte c t aligned below in
            let o = sub_block_start c t in
            let s = sub_block_size c t in
            elim (cases_lt o z) [
              | inl lt ↦
                  let none : o ≡ 0 = sym (h.part.start o (omega arith) (omega (arith, h.part.positive))) ∙ first_sub_block.start o (omega arith) (omega arith) in
                  let same : z ≡ s = sym (first_sub_block.size o (omega arith) (omega arith)) ∙ h.part.size o (omega arith) (omega (arith, h.part.positive)) in
                  absurd (omega (arith, h.high, none, same, past))
              | inr after ↦ inr (omega (arith, place_in c k e o s t h.part h.low h.high, mul-le-mul_right k after))
            ]
      ]

  -- the block's symbols
  module _ (k : ℕ) (octet : ℕ → ℕ) (e : ℕ) (in_block : e < k) where
    place_of_first : sub_block_size c 0 * e < k * c.symbol_size
    place_of_first =
        let b : e + 1 ≤ k = omega arith in
        let room : sub_block_size c 0 ≤ c.symbol_size = omega (arith, first_sub_block.room) in
        omega (arith, mul-le-mul_right c.symbol_size b, mul-le-mul_right e room, first_sub_block.positive)

    at_first : get_or (first_octets_block c k octet) (sub_block_size c 0 * e) 0 ≡ octet e
    unfolding first_octets_block
    at_first =
        let z = sub_block_size c 0 in
        let quotient : z * e / z ≡ e = ap (λ n. n / z) (let s : z * e ≡ e * z + 0 = omega arith in s) ∙ div-mul-add e z 0 first_sub_block.positive in
        let rest : z * e % z ≡ 0 = ap (λ n. n % z) (let s : z * e ≡ e * z = omega arith in s) ∙ mul-mod_left e z in
        below_at c k octet k (z * e) place_of_first ∙ ap (λ n. cond (eqb (z * e % z) 0 && ltb n k) (octet n) 0) quotient ∙ ap (λ b. cond (b && ltb e k) (octet e) 0) (eq-eqb (z * e % z) 0 rest) ∙ ap (λ b. cond b (octet e) 0) (lt-ltb e k in_block)

    at_later : (t : ℕ) → 0 < t → t < c.symbol_size → place_in_block c k e t < k * c.symbol_size → get_or (first_octets_block c k octet) (place_in_block c k e t) 0 ≡ 0
    unfolding first_octets_block
    at_later t some below within =
        let z = sub_block_size c 0 in
        let i = place_in_block c k e t in
        below_at c k octet k i within ∙ elim (later_place k e t some below) [
          | inl near ↦
              let rest : i % z ≡ t = ap (λ n. n % z) near.1 ∙ mod-mul-add e z t near.0 in
              ap (λ b. cond (b && ltb (i / z) k) (octet (i / z)) 0) (ne_eqb (i % z) 0 (λ none. omega (arith, rest, none)))
          | inr far ↦ past_all (i / z) (eqb (i % z) 0) (quotient_from i far)
        ] where
          quotient_from : (i : ℕ) → k * sub_block_size c 0 ≤ i → k ≤ i / sub_block_size c 0
          quotient_from i far =
              let z = sub_block_size c 0 in
              elim (cases_lt (i / z) k) [
                | inr past ↦ past
                | inl lt ↦ let b : i / z + 1 ≤ k = omega arith in absurd (omega (arith, mul-le-mul_right z b, div-add-mod' i z, mod_below i z first_sub_block.positive))
              ]

          past_all : (q : ℕ) (b : Bool) → k ≤ q → cond (b && ltb q k) (octet q) 0 ≡ 0
          past_all q true past = ap (λ b. cond b (octet q) 0) (le-ltb q k past)
          past_all q false past = refl

    pub symbol_of_first_octets : symbol_of_block c k (first_octets_block c k octet) e ≡ first_octet_symbol c.symbol_size (octet e)
    symbol_of_first_octets =
        let size = c.symbol_size in
        ext_get_or 0 (symbol_of_block c k (first_octets_block c k octet) e) (first_octet_symbol size (octet e)) (length-symbol_of_block c k (first_octets_block c k octet) e ∙ omega (arith, length-replicate {A = ℕ} (size - 1) 0))
        (λ t lt. let below : t < size = omega (arith, length-symbol_of_block c k (first_octets_block c k octet) e) in
        get_or-symbol_of_block c k (first_octets_block c k octet) e t below ∙ by_place t below) where
          by_place : (t : ℕ) → t < c.symbol_size → get_or (first_octets_block c k octet) (place_in_block c k e t) 0 ≡ get_or (first_octet_symbol c.symbol_size (octet e)) t 0
          by_place zero below = ap (λ n. get_or (first_octets_block c k octet) n 0) (first_place k e) ∙ at_first
          by_place (suc t) below = at_later (suc t) (omega arith) below (place_below c k e (suc t) aligned in_block below) ∙ sym (at-zeros (c.symbol_size - 1) t)

-- ---- the object that has such blocks

-- the first octets of each block's symbols
abbrev pub first_octets_object : Configuration → (ℕ → ℕ → ℕ) → List ℕ
first_octets_object c octet = take c.transfer_length (pieces (λ b. first_octets_block c (block_symbols c b) (octet b)) c.source_blocks)

module _ (c : Configuration) (octet : ℕ → ℕ → ℕ) where
  abbrev blocks : ℕ → List ℕ
  blocks b = first_octets_block c (block_symbols c b) (octet b)

  length-block : (b : ℕ) → length (blocks b) ≡ block_symbols c b * c.symbol_size
  unfolding first_octets_block
  length-block b = length-octets_below c (block_symbols c b) (octet b) (block_symbols c b)

  length-blocks : (n : ℕ) → n ≤ c.source_blocks → length (pieces blocks n) ≡ symbols_before c n * c.symbol_size
  length-blocks zero h = let none : 0 ≡ 0 * c.symbol_size = omega arith in none ∙ ap (λ n. n * c.symbol_size) (sym (symbols_before-first c))
  length-blocks (suc n) h =
      let next : n + 1 ≡ suc n = omega arith in
      length-append (pieces blocks n) (blocks n) ∙ omega (arith, length-blocks n (omega arith), length-block n, ap (λ m. m * c.symbol_size) (symbols_before-next c n (omega arith))) ∙ ap (λ m. symbols_before c m * c.symbol_size) next

  -- the place of a block's byte
  byte_at : (n b i : ℕ) → n ≤ c.source_blocks → b < n → i < block_symbols c b * c.symbol_size → get_or (pieces blocks n) (symbols_before c b * c.symbol_size + i) 0 ≡ get_or (blocks b) i 0
  byte_at zero b i all below within = absurd (omega arith)
  byte_at (suc n) b i all below within =
      let o = symbols_before c b * c.symbol_size in
      let front = length-blocks n (omega arith) in
      elim (cases_lt b n) [
        | inl lt ↦
            let later = mul-le-mul_right c.symbol_size (symbols_before-grows c (b + 1) n (omega arith) (omega arith)) in
            get_or_append_left (pieces blocks n) (blocks n) 0 (o + i) (omega (arith, front, later, ap (λ m. m * c.symbol_size) (symbols_before-next c b (omega arith)), within)) ∙ byte_at n b i (omega arith) lt within
        | inr past ↦
            let here : n ≡ b = omega arith in
            get_or-append_right (pieces blocks n) (blocks n) (symbols_before c n * c.symbol_size) (o + i) 0 front (omega (arith, ap (λ m. symbols_before c m * c.symbol_size) here))
            ∙ ap (λ m. get_or (blocks n) m 0) (omega (arith, ap (λ m. symbols_before c m * c.symbol_size) here)) ∙ ap (λ m. get_or (blocks m) i 0) here
      ]

  module _ (pos : 0 < c.symbol_size) (some : 0 < c.source_blocks) (aligned : IsAligned c) where
    -- a first octet stands before the object's end
    pub first_is_before_end : (b e : ℕ) → b < c.source_blocks → e < block_symbols c b → symbols_before c b * c.symbol_size + sub_block_size c 0 * e < c.transfer_length
    first_is_before_end b e below in_block =
        let t = c.symbol_size in
        let z = sub_block_size c 0 in
        let room : z ≤ t = omega (arith, (first_sub_block c pos aligned).room) in
        let last : e + 1 ≤ block_symbols c b = omega arith in
        let here : symbols_before c (b + 1) ≤ symbols_before c c.source_blocks = symbols_before-grows c (b + 1) c.source_blocks (omega arith) (omega arith) in
        let all : symbols_before c b + e + 1 ≤ total_symbols c = omega (arith, symbols_before-next c b below, here, symbols_before-all c some) in
        let whole : (symbols_before c b + e + 1) * t < c.transfer_length + t = omega (arith, mul-le-mul_right t all, (div_ceil_times c.transfer_length t pos).1) in
        let start : symbols_before c b * t + z * e ≤ (symbols_before c b + e) * t = omega (arith, mul-le-mul_right e room) in
        omega (arith, whole, start)

    long_enough : c.transfer_length ≤ length (pieces blocks c.source_blocks)
    long_enough = omega (arith, length-blocks c.source_blocks (omega arith), ap (λ m. m * c.symbol_size) (symbols_before-all c some), (div_ceil_times c.transfer_length c.symbol_size pos).0)

    pub length-first_octets_object : length (first_octets_object c octet) ≡ c.transfer_length
    length-first_octets_object = length-take-le c.transfer_length (pieces blocks c.source_blocks) long_enough

    -- its bytes past the end are zeros
    zero_past : (b i : ℕ) → b < c.source_blocks → i < block_symbols c b * c.symbol_size → c.transfer_length ≤ symbols_before c b * c.symbol_size + i → get_or (blocks b) i 0 ≡ 0
    unfolding first_octets_block
    zero_past b i below within past =
        let z = sub_block_size c 0 in
        let k = block_symbols c b in
        below_at c k (octet b) k i within ∙ elim (cases_eq (i % z) 0) [
          | inr ne ↦ ap (λ t. cond (t && ltb (i / z) k) (octet b (i / z)) 0) (ne_eqb (i % z) 0 ne)
          | inl none ↦ ap (λ t. cond (t && ltb (i / z) k) (octet b (i / z)) 0) (eq-eqb (i % z) 0 none) ∙ elim (cases_lt (i / z) k) [
            | inr far ↦ ap (λ t. cond t (octet b (i / z)) 0) (le-ltb (i / z) k far)
            | inl lt ↦ absurd (omega (arith, first_is_before_end b (i / z) below lt, div-add-mod' i z, none))
          ]
        ]

    -- cut again, it has these blocks
    pub block_of_first_octets : (b : ℕ) → b < c.source_blocks → block_bytes c (first_octets_object c octet) b ≡ blocks b
    unfolding block_bytes
    block_of_first_octets b below =
        let o = symbols_before c b * c.symbol_size in
        let n = block_symbols c b * c.symbol_size in
        let object = first_octets_object c octet in
        let long : length (map (λ i. get_or object (o + i) 0) (range_with_len 0 n)) ≡ n = length-map-range_with_len (λ i. get_or object (o + i) 0) 0 n in
        ext_get_or 0 (map (λ i. get_or object (o + i) 0) (range_with_len 0 n)) (blocks b) (long ∙ sym (length-block b))
        (λ i lt. let within : i < n = omega (arith, long) in
        get_or-map-range_with_len (λ i. get_or object (o + i) 0) 0 n i i 0 within (omega arith) ∙ elim (cases_lt (o + i) c.transfer_length) [
          | inl before ↦ get_or-take c.transfer_length (pieces blocks c.source_blocks) (o + i) 0 before ∙ byte_at c.source_blocks b i (omega arith) below within
          | inr past ↦ get_or_past object (o + i) 0 (omega (arith, length-first_octets_object)) ∙ sym (zero_past b i below within past)
        ])

    pub symbol_of_object : (b e : ℕ) → b < c.source_blocks → e < block_symbols c b → source_symbol c (first_octets_object c octet) b e ≡ first_octet_symbol c.symbol_size (octet b e)
    symbol_of_object b e below in_block = ap (λ block. symbol_of_block c (block_symbols c b) block e) (block_of_first_octets b below) ∙ symbol_of_first_octets c pos aligned (block_symbols c b) (octet b) e in_block

    -- and it isn't all zeros where an octet isn't zero
    pub object_at_first : (b e : ℕ) → b < c.source_blocks → e < block_symbols c b → get_or (first_octets_object c octet) (symbols_before c b * c.symbol_size + sub_block_size c 0 * e) 0 ≡ octet b e
    object_at_first b e below in_block =
        let i = sub_block_size c 0 * e in
        get_or-take c.transfer_length (pieces blocks c.source_blocks) (symbols_before c b * c.symbol_size + i) 0 (first_is_before_end b e below in_block)
        ∙ byte_at c.source_blocks b i (omega arith) below (place_of_first c pos aligned (block_symbols c b) (octet b) e in_block) ∙ at_first c pos aligned (block_symbols c b) (octet b) e in_block

-- ---- octets written one after another

pub all_octets : (c : Configuration) (k : ℕ) (octet : ℕ → ℕ) → first_octets_below c k octet k ≡ first_octets_block c k octet
unfolding first_octets_block
all_octets c k octet = refl

module _ (c : Configuration) (k : ℕ) (octet : ℕ → ℕ) where
  pub no_octets : replicate {A = ℕ} (k * c.symbol_size) 0 ≡ first_octets_below c k octet 0
  no_octets =
      let size = k * c.symbol_size in
      let long = length-replicate {A = ℕ} size 0 in
      ext_get_or 0 (replicate size 0) (first_octets_below c k octet 0) (long ∙ sym (length-octets_below c k octet 0))
      (λ i lt. let within : i < size = omega (arith, long) in
      at-zeros size i ∙ sym (below_at c k octet 0 i within ∙ none (eqb (i % sub_block_size c 0) 0) (i / sub_block_size c 0))) where
        neither : (t : Bool) (v : ℕ) → cond (t && false) v 0 ≡ 0
        neither true v = refl
        neither false v = refl

        none : (t : Bool) (q : ℕ) → cond (t && ltb q 0) (octet q) 0 ≡ 0
        none t q = ap (λ b. cond (t && b) (octet q) 0) (le-ltb q 0 (omega arith)) ∙ neither t (octet q)

  -- where all of them are zero, so is the block
  pub zero_octets : ((e : ℕ) → octet e ≡ 0) → first_octets_block c k octet ≡ replicate {A = ℕ} (k * c.symbol_size) 0
  zero_octets zeros =
      let size = k * c.symbol_size in
      sym (all_octets c k octet) ∙ ext_get_or 0 (first_octets_below c k octet k) (replicate {A = ℕ} size 0) (length-octets_below c k octet k ∙ sym (length-replicate {A = ℕ} size 0))
      (λ i lt. below_at c k octet k i (omega (arith, length-octets_below c k octet k)) ∙ picked (eqb (i % sub_block_size c 0) 0 && ltb (i / sub_block_size c 0) k) (octet (i / sub_block_size c 0)) (zeros (i / sub_block_size c 0)) ∙ sym (at-zeros size i)) where
        picked : (t : Bool) (v : ℕ) → v ≡ 0 → cond t v 0 ≡ 0
        picked true v h = h
        picked false v h = refl

  module _ (pos : 0 < c.symbol_size) (aligned : IsAligned c) (n : ℕ) (in_block : n < k) where
    -- where the next one stands
    pub next_index : n * sub_block_size c 0 < k * c.symbol_size
    next_index = omega (arith, place_of_first c pos aligned k octet n in_block)

    pub octet_written : (v : ℕ) → v ≡ octet n → set (first_octets_below c k octet n) (n * sub_block_size c 0) v ≡ first_octets_below c k octet (n + 1)
    octet_written v is =
        let z = sub_block_size c 0 in
        let old = first_octets_below c k octet n in
        let long = length-set old (n * z) v ∙ length-octets_below c k octet n in
        ext_get_or 0 (set old (n * z) v) (first_octets_below c k octet (n + 1)) (long ∙ sym (length-octets_below c k octet (n + 1)))
        (λ i lt. let within : i < k * c.symbol_size = omega (arith, long) in
        elim (cases_eq i (n * z)) [
          | inl e ↦ ap (λ j. get_or (set old (n * z) v) j 0) e ∙ get_or-set_same old (n * z) v 0 (omega (arith, length-octets_below c k octet n, next_index)) ∙ is ∙ sym (here z refl) ∙ sym (below_at c k octet (n + 1) (n * z) next_index) ∙ ap (λ j. get_or (first_octets_below c k octet (n + 1)) j 0) (sym e)
          | inr ne ↦ get_or-set_other old (n * z) i v 0 ne ∙ below_at c k octet n i within ∙ elsewhere z i ne ∙ sym (below_at c k octet (n + 1) i within)
        ]) where
          positive : 0 < sub_block_size c 0
          positive = (first_sub_block c pos aligned).positive

          here : (z : ℕ) → z ≡ sub_block_size c 0 → cond (eqb (n * z % z) 0 && ltb (n * z / z) (n + 1)) (octet (n * z / z)) 0 ≡ octet n
          here z same =
              let quotient : n * z / z ≡ n = ap (λ m. m / z) (let s : n * z ≡ n * z + 0 = omega arith in s) ∙ div-mul-add n z 0 (omega (arith, same, positive)) in
              ap (λ m. cond (eqb (n * z % z) 0 && ltb m (n + 1)) (octet m) 0) quotient ∙ ap (λ b. cond (b && ltb n (n + 1)) (octet n) 0) (eq-eqb (n * z % z) 0 (mul-mod_left n z)) ∙ ap (λ b. cond b (octet n) 0) (lt-ltb n (n + 1) (omega arith))

          elsewhere : (z i : ℕ) → i ≢ n * z → cond (eqb (i % z) 0 && ltb (i / z) n) (octet (i / z)) 0 ≡ cond (eqb (i % z) 0 && ltb (i / z) (n + 1)) (octet (i / z)) 0
          elsewhere z i ne = elim (cases_eq (i % z) 0) [
            | inr d ↦ ap (λ b. cond (b && ltb (i / z) n) (octet (i / z)) 0) (ne_eqb (i % z) 0 d) ∙ sym (ap (λ b. cond (b && ltb (i / z) (n + 1)) (octet (i / z)) 0) (ne_eqb (i % z) 0 d))
            | inl whole ↦
                let other : i / z ≢ n = λ e. ne (omega (arith, div-add-mod' i z, whole, ap (λ m. m * z) e)) in
                ap (λ b. cond (eqb (i % z) 0 && b) (octet (i / z)) 0) (elim (cases_lt (i / z) n) [
                  | inl lt ↦ lt-ltb (i / z) n lt ∙ sym (lt-ltb (i / z) (n + 1) (omega arith))
                  | inr past ↦ le-ltb (i / z) n past ∙ sym (le-ltb (i / z) (n + 1) (omega (arith, other)))
                ])
          ]
