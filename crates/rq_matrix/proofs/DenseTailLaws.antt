-- The bits of dense columns: a row added to another one, one more block, and rows that are marked.
use Rattle.std.proofs.Common.{◌≡◌, ◌≢◌, ℕ, ◌+◌, ◌-◌, ◌*◌, ◌/◌, ◌%◌, ◌<◌, ◌≤◌, ◌⊎◌, List, [], ◌∷◌, ◌++◌, length, map, get_or, take, replicate, refl, sym, ap, subst, ◌∙◌, arith, inl, inr, get_or-set_same, get_or-set_other, length-set}
use Rattle.std.specs.Int.{bit_at}
use Rattle.std.specs.Int.Bits.{bit_xor}
use Rattle.std.proofs.Math.ListN.{get_or-eq_default}
use Rattle.std.proofs.Math.Seq.{get_or-append_right}
use Rattle.std.proofs.lemmas.Bool.{cases_lt, cases_eq}
use Rattle.std.proofs.lemmas.List.{get_or_append_left, get_or-map, length-append, length-map, length-replicate, take_more}
use Rattle.std.proofs.lemmas.List.Elements.{All-append, All-cons, All-map}
use Rattle.std.proofs.lemmas.Nat.Bits.{bit_at_xor, bit_at-lt}
use Rattle.rq_bytes.specs.BinaryOctetVec.{packed_bit}
use Rattle.rq_parts.specs.SparseBinaryVec.{listed_bit}
use Rattle.rq_parts.proofs.BitPairLaws.{packed_bit-at, sum_of_bits}
use Rattle.rq_parts.specs.ListedLaws.{listed-self, listed-other}
use Rattle.rq_parts.proofs.ListedBits.{listed-append}
use Rattle.rq_parts.specs.PackedBits.{HasZerosBetween, IsLastOne}
use Rattle.rq_matrix.specs.DenseTails.{with_word_added, Tail, tail_bit, IsTail, SetsTailBit, SetsTailOnes, AddsTailRow, PushesColumn}
use Rattle.rq_parts.proofs.PackedBits.{packed_bit-zeros}

-- ---- one word added to another one

module _ (words : List ℕ) (dest src bit : ℕ) (below : bit < 64) where
  pub word_sum : dest < length words → packed_bit (with_word_added words dest src) (64 * dest + bit) ≡ bit_xor (packed_bit words (64 * dest + bit)) (packed_bit words (64 * src + bit))
  word_sum within =
      let first = get_or words dest 0 in
      let second = get_or words src 0 in
      packed_bit-at (with_word_added words dest src) dest bit below
      ∙ ap (λ w. bit_at w bit) (get_or-set_same words dest (bit_xor first second) 0 within)
      ∙ bit_at_xor first second bit
      ∙ sum_of_bits (bit_at first bit) (bit_at second bit) (bit_at-lt first bit) (bit_at-lt second bit)
      ∙ ap (λ n. bit_xor n (bit_at second bit)) (sym (packed_bit-at words dest bit below))
      ∙ ap (bit_xor (packed_bit words (64 * dest + bit))) (sym (packed_bit-at words src bit below))

  pub word_other : (row : ℕ) → row ≢ dest → packed_bit (with_word_added words dest src) (64 * row + bit) ≡ packed_bit words (64 * row + bit)
  word_other row other =
      packed_bit-at (with_word_added words dest src) row bit below
      ∙ ap (λ w. bit_at w bit) (get_or-set_other words dest row (bit_xor (get_or words dest 0) (get_or words src 0)) 0 other)
      ∙ sym (packed_bit-at words row bit below)

-- the dense columns with a row added to another one
abbrev pub tail_added : Tail → ℕ → ℕ → Tail
tail_added tail dest src = record { rows = tail.rows; columns = tail.columns; blocks = map (λ block. with_word_added block dest src) tail.blocks }

module _ (tail : Tail) (is : IsTail tail) (dest src : ℕ) (in_dest : dest < tail.rows) (in_src : src < tail.rows) where
  added_block : (n : ℕ) → n < length tail.blocks → get_or (tail_added tail dest src).blocks n [] ≡ with_word_added (get_or tail.blocks n []) dest src
  added_block n within = get_or-map (λ block. with_word_added block dest src) tail.blocks n [] [] within

  added_past : (n : ℕ) → length tail.blocks ≤ n → get_or (tail_added tail dest src).blocks n [] ≡ get_or tail.blocks n []
  added_past n past = get_or-eq_default (tail_added tail dest src).blocks [] (omega (arith, length-map tail.blocks (λ block. with_word_added block dest src))) ∙ sym (get_or-eq_default tail.blocks [] past)

  no_bits : (row column : ℕ) → length tail.blocks ≤ column / 64 → tail_bit tail row column ≡ 0
  no_bits row column past = ap (λ (l : List ℕ). packed_bit l (64 * row + column % 64)) (get_or-eq_default tail.blocks [] past) ∙ packed_bit-zeros 0 (64 * row + column % 64)

  pub tail_sum : (column : ℕ) → tail_bit (tail_added tail dest src) dest column ≡ bit_xor (tail_bit tail dest column) (tail_bit tail src column)
  tail_sum column =
      elim (cases_lt (column / 64) (length tail.blocks)) [
        | inl within ↦
            ap (λ (l : List ℕ). packed_bit l (64 * dest + column % 64)) (added_block (column / 64) within)
            ∙ word_sum (get_or tail.blocks (column / 64) []) dest src (column % 64) (omega arith) (omega (arith, is.full (column / 64) [] within))
        | inr past ↦
            ap (λ (l : List ℕ). packed_bit l (64 * dest + column % 64)) (added_past (column / 64) past)
            ∙ no_bits dest column past
            ∙ sym (ap (λ n. bit_xor n (tail_bit tail src column)) (no_bits dest column past) ∙ ap (bit_xor 0) (no_bits src column past))
      ]

  pub tail_other : (row column : ℕ) → row ≢ dest → tail_bit (tail_added tail dest src) row column ≡ tail_bit tail row column
  tail_other row column other =
      elim (cases_lt (column / 64) (length tail.blocks)) [
        | inl within ↦
            ap (λ (l : List ℕ). packed_bit l (64 * row + column % 64)) (added_block (column / 64) within)
            ∙ word_other (get_or tail.blocks (column / 64) []) dest src (column % 64) (omega arith) row other
        | inr past ↦ ap (λ (l : List ℕ). packed_bit l (64 * row + column % 64)) (added_past (column / 64) past)
      ]

  pub tail_adds : AddsTailRow tail dest src (tail_added tail dest src)
  tail_adds = record { rows = refl; columns = refl; sum = λ k _. tail_sum k; other_rows = tail_other }

  pub tail_added_is : IsTail (tail_added tail dest src)
  tail_added_is = record {
    fits = is.fits;
    full = All-map (λ block. length block ≡ tail.rows) (λ block. with_word_added block dest src) tail.blocks
        (λ n d within. length-set (get_or tail.blocks n d) dest (bit_xor (get_or (get_or tail.blocks n d) dest 0) (get_or (get_or tail.blocks n d) src 0)) ∙ is.full n d within);
    enough = omega (arith, is.enough, length-map tail.blocks (λ block. with_word_added block dest src));
    few = omega (arith, is.few, length-map tail.blocks (λ block. with_word_added block dest src));
    spare = λ row column in_row behind.
        elim (cases_eq row dest) [
          | inl e ↦
              ap (λ r. tail_bit (tail_added tail dest src) r column) e
              ∙ tail_sum column
              ∙ ap (λ n. bit_xor n (tail_bit tail src column)) (is.spare dest column in_dest behind)
              ∙ ap (bit_xor 0) (is.spare src column in_src behind)
          | inr d ↦ tail_other row column d ∙ is.spare row column in_row behind
        ];
  }

-- ---- one more block

-- the dense columns with room for 64 more
abbrev pub tail_widened : Tail → Tail
tail_widened tail = record { rows = tail.rows; columns = tail.columns; blocks = tail.blocks ++ replicate tail.rows 0 ∷ [] }

widened_bit : (tail : Tail) (row column : ℕ) → tail_bit (tail_widened tail) row column ≡ tail_bit tail row column
widened_bit tail row column =
    let blocks = tail.blocks in
    let zeros : List ℕ = replicate tail.rows 0 in
    let n = column / 64 in
    let place = 64 * row + column % 64 in
    elim (cases_lt n (length blocks)) [
      | inl within ↦ ap (λ (l : List ℕ). packed_bit l place) (get_or_append_left blocks (zeros ∷ []) [] n within)
      | inr past ↦
          let old : tail_bit tail row column ≡ 0 = ap (λ (l : List ℕ). packed_bit l place) (get_or-eq_default blocks [] past) ∙ packed_bit-zeros 0 place in
          elim (cases_eq n (length blocks)) [
            | inl e ↦
                let last : get_or (blocks ++ zeros ∷ []) n [] ≡ zeros = get_or-append_right blocks (zeros ∷ []) n [] past ∙ ap (λ k. get_or (zeros ∷ []) k []) {y = 0} (omega arith) in
                ap (λ (l : List ℕ). packed_bit l place) last ∙ packed_bit-zeros tail.rows place ∙ sym old
            | inr d ↦
                let none : get_or (blocks ++ zeros ∷ []) n [] ≡ [] = get_or-eq_default (blocks ++ zeros ∷ []) [] (omega (arith, length-append blocks (zeros ∷ []))) in
                ap (λ (l : List ℕ). packed_bit l place) none ∙ packed_bit-zeros 0 place ∙ sym old
          ]
    ]

-- the dense columns and one more
abbrev pub tail_longer : Tail → Tail
tail_longer tail = record { rows = tail.rows; columns = tail.columns + 1; blocks = tail.blocks }

-- they have room for it, or get some
module _ (old mid : Tail) (is : IsTail old) (room : ((mid ≡ tail_widened old) × (length old.blocks ≤ old.columns / 64)) ⊎ ((mid ≡ old) × (old.columns / 64 < length old.blocks))) where
  pub longer_is : IsTail (tail_longer mid)
  longer_is =
      let zeros : List ℕ = replicate old.rows 0 in
      let long = length-append old.blocks (zeros ∷ []) in
      elim room [
        | inl e ↦
            subst (λ (t : Tail). IsTail (tail_longer t)) (sym e.0) (record {
              fits = is.fits;
              full = All-append (λ block. length block ≡ old.rows) old.blocks (zeros ∷ []) is.full (All-cons (λ block. length block ≡ old.rows) zeros [] (length-replicate old.rows 0) (λ n d l. absurd (omega arith)));
              enough = omega (arith, is.enough, long);
              few = omega (arith, e.1, long);
              spare = λ row column in_row behind. widened_bit old row column ∙ is.spare row column in_row (omega arith);
            })
        | inr e ↦ subst (λ (t : Tail). IsTail (tail_longer t)) (sym e.0) (record { fits = is.fits; full = is.full; enough = omega (arith, e.1); few = omega (arith, is.few); spare = λ row column in_row behind. is.spare row column in_row (omega arith) })
      ]

  same_bits : (row column : ℕ) → tail_bit mid row column ≡ tail_bit old row column
  same_bits row column = elim room [ inl e ↦ ap (λ (t : Tail). tail_bit t row column) e.0 ∙ widened_bit old row column | inr e ↦ ap (λ (t : Tail). tail_bit t row column) e.0 ]

  pub longer_pushes : PushesColumn old (tail_longer mid)
  longer_pushes =
      let rows : mid.rows ≡ old.rows = elim room [ inl e ↦ ap (λ (t : Tail). t.rows) e.0 | inr e ↦ ap (λ (t : Tail). t.rows) e.0 ] in
      let columns : mid.columns ≡ old.columns = elim room [ inl e ↦ ap (λ (t : Tail). t.columns) e.0 | inr e ↦ ap (λ (t : Tail). t.columns) e.0 ] in
      record { rows = rows; columns = ap (λ n. n + 1) columns; zeros = λ r l. same_bits r old.columns ∙ is.spare r old.columns l (omega arith); bits = same_bits }

-- ---- the last one of a row

-- the bits that stand in one word
tail_bit-at : (tail : Tail) (row block bit : ℕ) → bit < 64 → tail_bit tail row (64 * block + bit) ≡ bit_at (get_or (get_or tail.blocks block []) row 0) bit
tail_bit-at tail row block bit below =
    let quotient : (64 * block + bit) / 64 ≡ block = omega arith in
    let remainder : (64 * block + bit) % 64 ≡ bit = omega arith in
    ap (λ n. packed_bit (get_or tail.blocks n []) (64 * row + (64 * block + bit) % 64)) quotient
    ∙ ap (λ n. packed_bit (get_or tail.blocks block []) (64 * row + n)) remainder
    ∙ packed_bit-at (get_or tail.blocks block []) row bit below

-- the last one of the word that holds the column before `next` is the last one before `end`, if there are none between
pub last_one-word : (tail : Tail) (row next end bit word : ℕ) → 0 < next → word ≡ get_or (get_or tail.blocks ((next - 1) / 64) []) row 0 → IsLastOne (bit_at word) (next - 64 * ((next - 1) / 64)) bit → next ≤ end
    → HasZerosBetween (tail_bit tail row) next end → IsLastOne (tail_bit tail row) end (64 * ((next - 1) / 64) + bit)
last_one-word tail row next end bit word some is last on none =
    let block = (next - 1) / 64 in
    let here = λ (k : ℕ) (below : k < 64). tail_bit-at tail row block k below ∙ ap (λ w. bit_at w k) (sym is) in
    record {
      below = omega (arith, last.below);
      one = here bit (omega (arith, last.below)) ∙ last.one;
      after = λ k past lt.
          elim (cases_lt k next) [
            | inl before ↦
                let same : k ≡ 64 * block + (k - 64 * block) = omega arith in
                ap (tail_bit tail row) same ∙ here (k - 64 * block) (omega arith) ∙ last.after (k - 64 * block) (omega arith) (omega arith)
            | inr behind ↦ none k behind lt
          ];
    }

-- ---- rows marked one after another

pub marks_none : (tail : Tail) (column : ℕ) → SetsTailOnes tail [] column tail
marks_none tail column = record { rows = refl; columns = refl; marked = λ r some. absurd (omega arith); unmarked = λ r none. refl; other_columns = λ r k other. refl }

pub marks_more : (old mid new : Tail) (listed : List ℕ) (n row column : ℕ) → n < length listed → row ≡ get_or listed n 0 → SetsTailOnes old (take n listed) column mid → SetsTailBit mid row column 1 new → SetsTailOnes old (take (n + 1) listed) column new
marks_more old mid new listed n row column within is marks sets =
    let more : take (n + 1) listed ≡ take n listed ++ row ∷ [] = take_more listed n 0 within ∙ ap (λ x. take n listed ++ x ∷ []) (sym is) in
    let count : (r : ℕ) → listed_bit (take (n + 1) listed) r ≡ listed_bit (take n listed) r + listed_bit (row ∷ []) r = λ r. ap (λ (l : List ℕ). listed_bit l r) more ∙ listed-append (take n listed) (row ∷ []) r in
    record {
      rows = sets.rows ∙ marks.rows;
      columns = sets.columns ∙ marks.columns;
      marked = λ r some.
          elim (cases_eq r row) [
            | inl e ↦ ap (λ s. tail_bit new s column) e ∙ sets.here
            | inr d ↦ sets.other_rows r column d ∙ marks.marked r (omega (arith, count r, listed-other row [] r d))
          ];
      unmarked = λ r none.
          elim (cases_eq r row) [
            | inl e ↦ absurd (omega (arith, count r, listed-self row [] r e))
            | inr d ↦ sets.other_rows r column d ∙ marks.unmarked r (omega (arith, count r))
          ];
      other_columns = λ r k other. sets.other_columns r k other ∙ marks.other_columns r k other;
    }
