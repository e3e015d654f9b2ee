-- Rows of which some are packed bits, and the others octets.
use Rattle.std.proofs.Common.{◌≡◌, ◌≢◌, ℕ, ◌*◌, ◌<◌, ◌≤◌, ◌^◌, List, [], ◌∷◌, length, set, replicate, get_or, refl, sym, ap, subst, ◌∙◌, arith, inl, inr}
use Rattle.std.proofs.lemmas.Bool.{cases_eq}
use Rattle.std.proofs.lemmas.List.{ext_get_or, get_or-set_same, get_or-set_other, get_or-replicate, set-get_or, set-set, length-replicate, length-set}
use Rattle.std.proofs.lemmas.List.Elements.{All-set, All-from_get_or}
use Rattle.std.specs.Int.Bits.{bit_xor}
use Rattle.std.proofs.lemmas.Simd.{get_or-zip2, length-zip2}
use Rattle.rq_standard.specs.Rows.{row_sum, row_multiple}
use Rattle.rq_bytes.proofs.Multiples.{times_one}
use Rattle.rq_parts.specs.PackedBits.{word_count, IsNextOne}
use Rattle.rq_parts.specs.DenseOctetMatrix.{OctetTable, HasOctets, IsOctetRow, row_at, with_row}
use Rattle.rq_bytes.specs.BinaryOctetVec.{octets_of_bits}
use Rattle.rq_bytes.proofs.PackedRows.{is_unpacked}
use Rattle.rq_elimination.specs.declared.entries.InactiveEntries.TheInside.{Inside}
use Rattle.rq_elimination.specs.InactiveEntries.{AreEntries, IsNextPlace, entry_row, entry_rows}
use Rattle.rq_elimination.proofs.UnpackedBits.{unpacked_row, octets_of_bits-sum, octets_of_bits-zeros}

-- ---- a row

pub row_of_none : (n : ℕ) (bits own : List ℕ) → length own ≡ 0 → entry_row n bits own ≡ octets_of_bits n bits
row_of_none n bits [] none = refl
row_of_none n bits (o ∷ os) none = absurd (omega arith)

pub row_of_own : (n : ℕ) (bits own : List ℕ) → length own ≡ n → entry_row n bits own ≡ own
row_of_own n bits [] long = is_unpacked n bits [] long (λ k l. absurd (omega arith))
row_of_own n bits (o ∷ os) long = refl

-- ---- all rows

module _ (width : ℕ) (bits owns : List (List ℕ)) (same : length owns ≡ length bits) where
  pub length-rows : length (entry_rows width bits owns) ≡ length bits
  length-rows = length-zip2 (entry_row width) bits owns (sym same)

  pub row_at-rows : (i : ℕ) → i < length bits → get_or (entry_rows width bits owns) i [] ≡ entry_row width (get_or bits i []) (get_or owns i [])
  row_at-rows i l = get_or-zip2 (entry_row width) bits owns i [] [] [] l (omega arith)

  module _ (i : ℕ) (inside : i < length bits) where
    in_rows : i < length (entry_rows width bits owns)
    in_rows = omega (arith, length-rows)

    -- other bits and octets of one row, or either alone
    rows_with : (words own : List ℕ) → entry_rows width (set bits i words) (set owns i own) ≡ set (entry_rows width bits owns) i (entry_row width words own)
    rows_with words own =
        let wanted = entry_row width words own in
        let bits' = set bits i words in
        let owns' = set owns i own in
        let long = length-set bits i words in
        let long' = length-set owns i own in
        let len = length-zip2 (entry_row width) bits' owns' (long ∙ sym (long' ∙ same)) in
        ext_get_or [] (entry_rows width bits' owns') (set (entry_rows width bits owns) i wanted) (len ∙ long ∙ sym (length-set (entry_rows width bits owns) i wanted ∙ length-rows)) (λ k l.
        let in_bits : k < length bits = omega arith in
        get_or-zip2 (entry_row width) bits' owns' k [] [] [] (omega arith) (omega arith)
        ∙ elim (cases_eq k i) [
          | inl e ↦ rw (e, get_or-set_same bits i words [] inside, get_or-set_same owns i own [] (omega arith)) (sym (get_or-set_same (entry_rows width bits owns) i wanted [] in_rows))
          | inr d ↦ rw (get_or-set_other bits i k words [] d, get_or-set_other owns i k own [] d) (sym (row_at-rows k in_bits) ∙ sym (get_or-set_other (entry_rows width bits owns) i k wanted [] d))
        ])

    pub rows_with_octets : (own : List ℕ) → entry_rows width bits (set owns i own) ≡ set (entry_rows width bits owns) i (entry_row width (get_or bits i []) own)
    rows_with_octets own = ap (λ (b : List (List ℕ)). entry_rows width b (set owns i own)) (sym (set-get_or bits i [])) ∙ rows_with (get_or bits i []) own

    pub rows_with_bits : (words : List ℕ) → entry_rows width (set bits i words) owns ≡ set (entry_rows width bits owns) i (entry_row width words (get_or owns i []))
    rows_with_bits words = ap (entry_rows width (set bits i words)) (sym (set-get_or owns i [])) ∙ rows_with words (get_or owns i [])

-- ---- entries

-- what callers see
abbrev pub octet_table_of : ℕ → List (List ℕ) → List (List ℕ) → OctetTable
octet_table_of width bits owns = record { width = width; rows = entry_rows width bits owns }

module _ (width : ℕ) (bits owns : List (List ℕ)) (are : AreEntries width bits owns) where
  module _ (i : ℕ) (inside : i < length bits) where
    pub row_is : row_at (octet_table_of width bits owns) i ≡ entry_row width (get_or bits i []) (get_or owns i [])
    row_is = row_at-rows width bits owns are.height i inside

    pub row_octets : IsOctetRow width (entry_row width (get_or bits i []) (get_or owns i []))
    row_octets = subst (IsOctetRow width) row_is (are.rows i [] (omega (arith, length-rows width bits owns are.height)))

    pub words_long : length (get_or bits i []) ≡ word_count width
    words_long = are.words i [] inside

    -- the row gets these words of bits, and these octets or none
    rows_are : (words own : List ℕ) → length words ≡ word_count width → IsOctetRow width (entry_row width words own) → AreEntries width (set bits i words) (set owns i own)
    rows_are words own long row = record {
      narrow = are.narrow;
      height = length-set owns i own ∙ are.height ∙ sym (length-set bits i words);
      words = All-set (λ w. length w ≡ word_count width) bits i words long are.words;
      rows = rw (rows_with width bits owns are.height i inside words own) (All-set (IsOctetRow width) (entry_rows width bits owns) i _ row are.rows);
    }

    -- octets alone
    pub owns_are : (own : List ℕ) → IsOctetRow width (entry_row width (get_or bits i []) own) → AreEntries width bits (set owns i own)
    owns_are own row = subst (λ (b : List (List ℕ)). AreEntries width b (set owns i own)) (set-get_or bits i []) (rows_are (get_or bits i []) own words_long row)

    pub table_with_octets : (own : List ℕ) → octet_table_of width bits (set owns i own) ≡ with_row (octet_table_of width bits owns) i (entry_row width (get_or bits i []) own)
    table_with_octets own = ap (λ (rows : List (List ℕ)). record { width = width; rows = rows }) (rows_with_octets width bits owns are.height i inside own)

    -- bits alone
    module _ (words : List ℕ) (long : length words ≡ word_count width) where
      pub bits_are : IsOctetRow width (entry_row width words (get_or owns i [])) → AreEntries width (set bits i words) owns
      bits_are row = subst (AreEntries width (set bits i words)) (set-get_or owns i []) (rows_are words (get_or owns i []) long row)

      pub table_with_bits : octet_table_of width (set bits i words) owns ≡ with_row (octet_table_of width bits owns) i (entry_row width words (get_or owns i []))
      table_with_bits = ap (λ (rows : List (List ℕ)). record { width = width; rows = rows }) (rows_with_bits width bits owns are.height i inside words)

  -- callers see octets
  pub has_octets : HasOctets (octet_table_of width bits owns)
  has_octets = record {
    widths = λ i d l. (are.rows i d l).0;
    elements = λ i k l m.
        let row = are.rows i [] l in
        row.1 k 0 (omega (arith, row.0, m));
  }

-- ---- rows of zeros

pub zero_rows : (width height size : ℕ) (owns : List (List ℕ)) → owns ≡ replicate height [] → entry_rows width (replicate height (replicate size 0)) owns ≡ replicate height (replicate width 0)
zero_rows width height size owns is =
    let long = length-replicate {A = List ℕ} height (replicate size 0) in
    let same : length owns ≡ height = ap length is ∙ length-replicate {A = List ℕ} height [] in
    let len = length-rows width (replicate height (replicate size 0)) owns (same ∙ sym long) in
    ext_get_or [] (entry_rows width (replicate height (replicate size 0)) owns) (replicate height (replicate width 0)) (len ∙ long ∙ sym (length-replicate {A = List ℕ} height (replicate width 0))) (λ k l.
    let inside : k < height = omega arith in
    row_at-rows width (replicate height (replicate size 0)) owns (same ∙ sym long) k (omega arith)
    ∙ ap (λ b. entry_row width b (get_or owns k [])) (get_or-replicate height k (replicate size 0) [] inside)
    ∙ ap (λ (o : List (List ℕ)). entry_row width (replicate size 0) (get_or o k [])) is
    ∙ ap (entry_row width (replicate size 0)) (get_or-replicate height k [] [] inside)
    ∙ octets_of_bits-zeros width size
    ∙ sym (get_or-replicate height k (replicate width 0) [] inside))

pub zeros_are : (width height : ℕ) → width < 2 ^ 17 → (owns : List (List ℕ)) → owns ≡ replicate height [] → AreEntries width (replicate height (replicate (word_count width) 0)) owns
zeros_are width height narrow owns is =
    let size = word_count width in
    record {
      narrow = narrow;
      height = ap length is ∙ length-replicate {A = List ℕ} height [] ∙ sym (length-replicate {A = List ℕ} height (replicate size 0));
      words = All-from_get_or (λ w. length w ≡ size) (replicate height (replicate size 0)) [] (λ i l.
          let inside : i < height = omega (arith, length-replicate {A = List ℕ} height (replicate size 0)) in
          ap length (get_or-replicate height i (replicate size 0) [] inside) ∙ length-replicate {A = ℕ} size 0);
      rows = rw (zero_rows width height size owns is) (All-from_get_or (IsOctetRow width) (replicate height (replicate width 0)) [] (λ i l.
          let inside : i < height = omega (arith, length-replicate {A = List ℕ} height (replicate width 0)) in
          subst (IsOctetRow width) (octets_of_bits-zeros width size ∙ sym (get_or-replicate height i (replicate width 0) [] inside)) (unpacked_row width (replicate size 0))));
    }

-- ---- a row that is there

module _ (e : Inside) (are : AreEntries e.octets.width e.bits e.octets.rows) {now : OctetTable} (seen : octet_table_of e.octets.width e.bits e.octets.rows ≡ now) where
  pub width_is : e.octets.width ≡ now.width
  width_is = ap (λ (t : OctetTable). t.width) seen

  module _ (row : ℕ) (there : row < length now.rows) where
    -- its place among the rows of bits, and among the rows' own octets
    pub bits_place : row < length e.bits
    bits_place = omega (arith, length-rows e.octets.width e.bits e.octets.rows are.height, ap (λ (t : OctetTable). length t.rows) seen)

    pub own_place : row < length e.octets.rows
    own_place = omega (arith, bits_place, are.height)

    pub bits_room : e.octets.width ≤ 64 * length (get_or e.bits row [])
    bits_room = omega (arith, words_long e.octets.width e.bits e.octets.rows are row bits_place)

    row_now : row_at now row ≡ entry_row e.octets.width (get_or e.bits row []) (get_or e.octets.rows row [])
    row_now = ap (λ (t : OctetTable). row_at t row) (sym seen) ∙ row_is e.octets.width e.bits e.octets.rows are row bits_place

    pub row_long : length (row_at now row) ≡ e.octets.width
    row_long = ap length row_now ∙ (row_octets e.octets.width e.bits e.octets.rows are row bits_place).0

    pub own_octets : length (row_at e.octets row) ≡ e.octets.width → row_at e.octets row ≡ row_at now row
    own_octets own = sym (row_of_own e.octets.width (get_or e.bits row []) (row_at e.octets row) own) ∙ sym row_now

    -- other octets of the row
    pub octets_set : (own : List ℕ) → IsOctetRow now.width own → AreEntries e.octets.width e.bits (set e.octets.rows row own)
    octets_set own is =
        let long : length own ≡ e.octets.width = is.0 ∙ sym width_is in
        owns_are e.octets.width e.bits e.octets.rows are row bits_place own (rw (row_of_own e.octets.width (get_or e.bits row []) own long) (subst (λ n. IsOctetRow n own) (sym width_is) is))

    pub octets_seen : (own : List ℕ) → length own ≡ now.width → octet_table_of e.octets.width e.bits (set e.octets.rows row own) ≡ with_row now row own
    octets_seen own long =
        table_with_octets e.octets.width e.bits e.octets.rows are row bits_place own
        ∙ ap (with_row (octet_table_of e.octets.width e.bits e.octets.rows) row) (row_of_own e.octets.width (get_or e.bits row []) own (long ∙ sym width_is))
        ∙ ap (λ t. with_row t row own) seen

    -- `own` written into a table `before`, whose other rows are those of `e.octets`
    module _ (before after : OctetTable) (own : List ℕ) (after_is : after ≡ with_row before row own) (octets : IsOctetRow before.width (row_at after row)) (over : with_row before row own ≡ with_row e.octets row own) where
      after_is_set : after ≡ with_row e.octets row own
      after_is_set = after_is ∙ over

      own_is : IsOctetRow now.width own
      own_is = subst (λ n. IsOctetRow n own) (ap (λ (t : OctetTable). t.width) over ∙ width_is) (subst (IsOctetRow before.width) (ap (λ (t : OctetTable). row_at t row) after_is_set ∙ get_or-set_same e.octets.rows row own [] own_place) octets)

      pub written : AreEntries after.width e.bits after.rows
      written = rw after_is_set (octets_set own own_is)

      pub written_seen : octet_table_of after.width e.bits after.rows ≡ with_row now row own
      written_seen = ap (λ (t : OctetTable). octet_table_of t.width e.bits t.rows) after_is_set ∙ octets_seen own own_is.0

    -- the row gets octets of its own
    module _ (mid : OctetTable) (mid_is : mid ≡ with_row e.octets row (entry_row e.octets.width (get_or e.bits row []) (row_at e.octets row))) where
      filled : mid ≡ with_row e.octets row (row_at now row)
      filled = mid_is ∙ ap (with_row e.octets row) (sym row_now)

      pub filled_place : (other : ℕ) → other < length e.octets.rows → other < length mid.rows
      filled_place other l = omega (arith, l, ap (λ (t : OctetTable). length t.rows) filled, length-set e.octets.rows row (row_at now row))

      pub filled_read : row_at mid row ≡ row_at now row
      filled_read = ap (λ (t : OctetTable). row_at t row) filled ∙ get_or-set_same e.octets.rows row (row_at now row) [] own_place

      pub filled_width : mid.width ≡ e.octets.width
      filled_width = ap (λ (t : OctetTable). t.width) filled

      pub filled_long : length (row_at mid row) ≡ mid.width
      filled_long = ap length filled_read ∙ row_long ∙ sym filled_width

      pub filled_other : (other : ℕ) → other ≢ row → row_at mid other ≡ row_at e.octets other
      filled_other other d = ap (λ (t : OctetTable). row_at t other) filled ∙ get_or-set_other e.octets.rows row other (row_at now row) [] d

      filled_over : (own : List ℕ) → with_row mid row own ≡ with_row e.octets row own
      filled_over own = ap (λ (t : OctetTable). with_row t row own) filled ∙ ap (λ (rows : List (List ℕ)). record e.octets { rows = rows }) (set-set e.octets.rows row (row_at now row) own)

      module _ (after : OctetTable) (own : List ℕ) (after_is : after ≡ with_row mid row own) (octets : IsOctetRow mid.width (row_at after row)) where
        pub filled_written : AreEntries after.width e.bits after.rows
        filled_written = written mid after own after_is octets (filled_over own)

        pub filled_written_seen : octet_table_of after.width e.bits after.rows ≡ with_row now row own
        filled_written_seen = written_seen mid after own after_is octets (filled_over own)

    -- other bits of the row
    module _ (no_octets : length (row_at e.octets row) ≡ 0) where
      pub row_unpacked : octets_of_bits e.octets.width (get_or e.bits row []) ≡ row_at now row
      row_unpacked = sym (row_of_none e.octets.width (get_or e.bits row []) (get_or e.octets.rows row []) no_octets) ∙ sym row_now

      module _ (words : List ℕ) (long : length words ≡ word_count e.octets.width) (new : List (List ℕ)) (new_is : new ≡ set e.bits row words) where
        pub bits_written : AreEntries e.octets.width new e.octets.rows
        bits_written = rw new_is (bits_are e.octets.width e.bits e.octets.rows are row bits_place words long (rw (row_of_none e.octets.width words (get_or e.octets.rows row []) no_octets) (unpacked_row e.octets.width words)))

        pub bits_written_seen : octet_table_of e.octets.width new e.octets.rows ≡ with_row now row (octets_of_bits e.octets.width words)
        bits_written_seen =
            ap (λ (b : List (List ℕ)). octet_table_of e.octets.width b e.octets.rows) new_is
            ∙ table_with_bits e.octets.width e.bits e.octets.rows are row bits_place words long
            ∙ ap (with_row (octet_table_of e.octets.width e.bits e.octets.rows) row) (row_of_none e.octets.width words (get_or e.octets.rows row []) no_octets)
            ∙ ap (λ t. with_row t row (octets_of_bits e.octets.width words)) seen

    row_elements : (i : ℕ) → i < length (row_at now row) → get_or (row_at now row) i 0 < 256
    row_elements i l = (subst (IsOctetRow e.octets.width) (sym row_now) (row_octets e.octets.width e.bits e.octets.rows are row bits_place)).1 i 0 l

  -- what `unpack_row` requires
  pub can_unpack : (i : ℕ) → i < length now.rows → record { row : i < length e.octets.rows; bits : i < length e.bits; room : e.octets.width ≤ 64 * length (get_or e.bits i []) }
  can_unpack i there = record { row = own_place i there; bits = bits_place i there; room = bits_room i there }

  -- bits to which bits are added
  module _ (dest src : ℕ) (in_dest : dest < length now.rows) (in_src : src < length now.rows) (none : length (row_at e.octets dest) ≡ 0) (none_other : length (row_at e.octets src) ≡ 0)
      (scalar : ℕ) (one : scalar ≡ 1) (new : List (List ℕ)) (new_is : new ≡ set e.bits dest (row_sum (get_or e.bits dest []) (get_or e.bits src []))) where
    long_dest : length (get_or e.bits dest []) ≡ word_count e.octets.width
    long_dest = words_long e.octets.width e.bits e.octets.rows are dest (bits_place dest in_dest)

    same_long : length (get_or e.bits dest []) ≡ length (get_or e.bits src [])
    same_long = long_dest ∙ sym (words_long e.octets.width e.bits e.octets.rows are src (bits_place src in_src))

    long_sum : length (row_sum (get_or e.bits dest []) (get_or e.bits src [])) ≡ word_count e.octets.width
    long_sum = length-zip2 bit_xor (get_or e.bits dest []) (get_or e.bits src []) same_long ∙ long_dest

    pub sum_are : AreEntries e.octets.width new e.octets.rows
    sum_are = bits_written dest in_dest none (row_sum (get_or e.bits dest []) (get_or e.bits src [])) long_sum new new_is

    pub sum_seen : octet_table_of e.octets.width new e.octets.rows ≡ with_row now dest (row_sum (row_at now dest) (row_multiple scalar (row_at now src)))
    sum_seen =
        bits_written_seen dest in_dest none (row_sum (get_or e.bits dest []) (get_or e.bits src [])) long_sum new new_is
        ∙ ap (with_row now dest) (
        octets_of_bits-sum e.octets.width (get_or e.bits dest []) (get_or e.bits src []) same_long (bits_room dest in_dest)
        ∙ ap (λ r. row_sum r (octets_of_bits e.octets.width (get_or e.bits src []))) (row_unpacked dest in_dest none)
        ∙ ap (row_sum (row_at now dest)) (row_unpacked src in_src none_other ∙ sym (times_one (row_at now src) (row_elements src in_src)) ∙ ap (λ c. row_multiple c (row_at now src)) (sym one)))

-- the next place where a row isn't 0, if its entries before the end are bits, of which that is the next one
pub next_place : (bit entry : ℕ → ℕ) (from end place : ℕ) → ((k : ℕ) → k < end → bit k ≡ entry k) → IsNextOne bit from end place → IsNextPlace entry from end place
next_place bit entry from end place same next =
    let below = next.below in (
      next.behind,
      below,
      (λ none. omega (arith, none, next.one, same place below)),
      (λ k l m. sym (same k (omega arith)) ∙ next.zeros k l m),
    )
