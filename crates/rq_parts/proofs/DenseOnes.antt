-- The ones of a word at hand, and those of the words behind it.
use Rattle.std.proofs.Common.{◌≡◌, ℕ, suc, ◌+◌, ◌-◌, ◌*◌, ◌/◌, ◌%◌, ◌^◌, ◌<◌, ◌≤◌, List, [], ◌∷◌, get_or, drop, min, refl, ap, ◌∙◌, sym, arith, inl, inr, zero-add}
use Rattle.std.specs.Prelude.{bit_and}
use Rattle.std.specs.Int.{bit_at}
use Rattle.std.proofs.lemmas.Bool.{cases_lt}
use Rattle.std.proofs.lemmas.List.{get_or-drop}
use Rattle.std.proofs.lemmas.Nat.Bits.{bit_at-lt, bit_at-zero, bit_at_and, bit_at_mask_inside, bit_at_mask_below, ones_shl}
use Rattle.rq_bytes.specs.BinaryOctetVec.{packed_bit}
use Rattle.rq_parts.specs.BitPairs.{bit_pairs, ones_among, from_word, ones_from}
use Rattle.rq_parts.proofs.BitPairLaws.{packed_bit-at, bit_pairs-none, bit_pairs-next, bit_pairs-same, ones_among-skip, ones_among-first}
use Rattle.rq_parts.proofs.LowestOnes.{ClearsLowest}

module _ (words : List ℕ) (word : ℕ) where
  here : (bits k : ℕ) → k < 64 → packed_bit (from_word words word bits) k ≡ bit_at bits k
  here bits k below = ap (packed_bit (from_word words word bits)) (let e : k ≡ 64 * 0 + k = omega arith in e) ∙ packed_bit-at (from_word words word bits) 0 k below

  behind : (bits k : ℕ) → packed_bit (from_word words word bits) (64 + k) ≡ packed_bit words (64 * (word + 1) + k)
  behind bits k =
      let next : (64 + k) / 64 ≡ suc (k / 64) = omega arith in
      let bit : (64 + k) % 64 ≡ (64 * (word + 1) + k) % 64 = omega arith in
      let place : word + 1 + k / 64 ≡ (64 * (word + 1) + k) / 64 = omega arith in
      ap (λ w. bit_at (get_or (from_word words word bits) w 0) ((64 + k) % 64)) next
      ∙ ap (bit_at (get_or (drop (word + 1) words) (k / 64) 0)) bit
      ∙ ap (λ w. bit_at w ((64 * (word + 1) + k) % 64)) (get_or-drop (word + 1) words (k / 64) 0 ∙ ap (λ w. get_or words w 0) place)

  -- they have the row's bits from where the known word has them
  module _ (bits start : ℕ) (same : (k : ℕ) → start ≤ k → k < 64 → bit_at bits k ≡ bit_at (get_or words word 0) k) where
    pub bits_from : (k : ℕ) → start ≤ k → packed_bit (from_word words word bits) k ≡ packed_bit words (64 * word + k)
    bits_from k from = elim (cases_lt k 64) [
      | inl inside ↦ here bits k inside ∙ same k from inside ∙ sym (packed_bit-at words word k inside)
      | inr past ↦
          let split : k ≡ 64 + (k - 64) = omega arith in
          let joined : 64 * (word + 1) + (k - 64) ≡ 64 * word + k = omega arith in
          ap (packed_bit (from_word words word bits)) split ∙ behind bits (k - 64) ∙ ap (packed_bit words) joined
    ]

  module _ (end : ℕ) where
    -- zeros before a place of the word are passed
    pub pass : (bits count : ℕ) → count ≤ 64 → 64 * word + count ≤ end → ((k : ℕ) → k < count → bit_at bits k ≡ 0)
        → ones_from words end word bits ≡ ones_among (bit_pairs (from_word words word bits) count (64 * word + count) (end - (64 * word + count)))
    pass bits count within room zeros =
        let split : end - 64 * word ≡ count + (end - (64 * word + count)) = omega arith in
        ap (λ n. ones_among (bit_pairs (from_word words word bits) 0 (64 * word) n)) split
        ∙ ones_among-skip (from_word words word bits) count (end - (64 * word + count)) 0 (64 * word) (λ k l. ap (packed_bit (from_word words word bits)) (zero-add k) ∙ here bits k (omega arith) ∙ zeros k l)
        ∙ ap (λ place. ones_among (bit_pairs (from_word words word bits) place (64 * word + count) (end - (64 * word + count)))) (zero-add count)

    -- none is left where the columns end in the word, and it has none before that
    pub none_left : (bits : ℕ) → end ≤ 64 * word + 64 → 64 * word ≤ end → ((k : ℕ) → k < end - 64 * word → bit_at bits k ≡ 0) → ones_from words end word bits ≡ []
    none_left bits last begins zeros =
        let count = end - 64 * word in
        pass bits count (omega arith) (omega arith) zeros
        ∙ ap ones_among (bit_pairs-none (from_word words word bits) count (64 * word + count) (end - (64 * word + count)) (omega arith))

    -- what is behind the lowest one of the word stays
    kept : (bits lowest less : ℕ) → ClearsLowest bits lowest less → (k : ℕ) → lowest < k → packed_bit (from_word words word bits) k ≡ packed_bit (from_word words word less) k
    kept bits lowest less clears k after = elim (cases_lt k 64) [
      | inl low ↦ here bits k low ∙ sym (clears.kept k after) ∙ sym (here less k low)
      | inr past ↦
          let split : k ≡ 64 + (k - 64) = omega arith in
          ap (packed_bit (from_word words word bits)) split ∙ behind bits (k - 64) ∙ sym (behind less (k - 64)) ∙ ap (packed_bit (from_word words word less)) (sym split)
    ]

    -- the lowest one of the word is the next one
    pub lowest_is_next : (bits lowest less : ℕ) → lowest < 64 → 64 * word + lowest < end → ClearsLowest bits lowest less → ones_from words end word bits ≡ (64 * word + lowest, 1) ∷ ones_from words end word less
    lowest_is_next bits lowest less within inside clears =
        let column = 64 * word + lowest in
        let left = end - column in
        let last : left - 1 ≡ end - (64 * word + (lowest + 1)) = omega arith in
        let next : column + 1 ≡ 64 * word + (lowest + 1) = omega arith in
        let one : packed_bit (from_word words word bits) lowest ≡ 1 = here bits lowest within ∙ clears.one in
        pass bits lowest (omega arith) (omega arith) clears.zeros
        ∙ ap ones_among (bit_pairs-next (from_word words word bits) lowest column left (omega arith))
        ∙ ones_among-first (column, packed_bit (from_word words word bits) lowest) (bit_pairs (from_word words word bits) (lowest + 1) (column + 1) (left - 1)) one
        ∙ ap (λ x. (column, x) ∷ ones_among (bit_pairs (from_word words word bits) (lowest + 1) (column + 1) (left - 1))) one
        ∙ ap (λ l. (column, 1) ∷ l)
        (ap ones_among (bit_pairs-same (from_word words word bits) (from_word words word less) (lowest + 1) (lowest + 1) (column + 1) (left - 1) (λ k l. kept bits lowest less clears (lowest + 1 + k) (omega arith)))
        ∙ ap (λ n. ones_among (bit_pairs (from_word words word less) (lowest + 1) n (left - 1))) next
        ∙ ap (λ n. ones_among (bit_pairs (from_word words word less) (lowest + 1) (64 * word + (lowest + 1)) n)) last
        ∙ sym (pass less (lowest + 1) (omega arith) (omega arith) (λ k l. clears.cleared k (omega arith))))

-- a word without ones is passed
pub next_word : (words : List ℕ) (word end : ℕ) → 64 * word + 64 < end → ones_from words end word 0 ≡ ones_from words end (word + 1) (get_or words (word + 1) 0)
next_word words word end more =
    let next : 64 * word + 64 ≡ 64 * (word + 1) = omega arith in
    let following = get_or words (word + 1) 0 in
    pass words word end 0 64 (omega arith) (omega arith) (λ k l. bit_at-zero k)
    ∙ ap (λ n. ones_among (bit_pairs (from_word words word 0) 64 n (end - n))) next
    ∙ ap ones_among (bit_pairs-same (from_word words word 0) (from_word words (word + 1) following) 64 0 (64 * (word + 1)) (end - 64 * (word + 1))
    (λ k l. behind words word 0 k
    ∙ sym (bits_from words (word + 1) following 0 (λ j from below. refl) k (omega arith))
    ∙ ap (packed_bit (from_word words (word + 1) following)) (sym (zero-add k))))

-- ---- the ones of a range

-- the word of the first column, without the bits before it
bits_masked : (bits start k : ℕ) → start ≤ 64 → bit_at (bit_and bits ((2 ^ 64 - 1) * 2 ^ start % 2 ^ 64)) k ≡ min (bit_at bits k) (bit_at (2 ^ 64 - 2 ^ start) k)
bits_masked bits start k within = ap (λ m. bit_at (bit_and bits m) k) (ones_shl 64 start within) ∙ bit_at_and bits (2 ^ 64 - 2 ^ start) k

bits_kept : (bits start k : ℕ) → start ≤ 64 → start ≤ k → k < 64 → bit_at (bit_and bits ((2 ^ 64 - 1) * 2 ^ start % 2 ^ 64)) k ≡ bit_at bits k
bits_kept bits start k within from below = omega (arith, bits_masked bits start k within, bit_at_mask_inside start 64 k from below, bit_at-lt bits k)

bits_cleared : (bits start k : ℕ) → start ≤ 64 → k < start → bit_at (bit_and bits ((2 ^ 64 - 1) * 2 ^ start % 2 ^ 64)) k ≡ 0
bits_cleared bits start k within before = omega (arith, bits_masked bits start k within, bit_at_mask_below start 64 k before)

module _ (words : List ℕ) (start end : ℕ) (range : start ≤ end) where
  pub ones_of_range : ones_from words end (start / 64) (bit_and (get_or words (start / 64) 0) ((2 ^ 64 - 1) * 2 ^ (start % 64) % 2 ^ 64)) ≡ ones_among (bit_pairs words start start (end - start))
  ones_of_range =
      let word = start / 64 in
      let first = start % 64 in
      let bits = bit_and (get_or words word 0) ((2 ^ 64 - 1) * 2 ^ first % 2 ^ 64) in
      let below : first < 64 = omega arith in
      let place : 64 * word + first ≡ start = omega arith in
      pass words word end bits first (omega arith) (omega arith) (λ k l. bits_cleared (get_or words word 0) first k (omega arith) l)
      ∙ ap (λ n. ones_among (bit_pairs (from_word words word bits) first n (end - n))) place
      ∙ ap ones_among (bit_pairs-same (from_word words word bits) words first start start (end - start)
      (λ k l. bits_from words word bits first (λ j from low. bits_kept (get_or words word 0) first j (omega arith) from low) (first + k) (omega arith)
      ∙ ap (packed_bit words) (let e : 64 * word + (first + k) ≡ start + k = omega arith in e)))

  pub none_of_range : end ≤ start → ones_from words end (start / 64) 0 ≡ ones_among (bit_pairs words start start (end - start))
  none_of_range empty =
      none_left words (start / 64) end 0 (omega arith) (omega arith) (λ k l. bit_at-zero k)
      ∙ sym (ap ones_among (bit_pairs-none words start start (end - start) (omega arith)))
