-- Rows that are put column by column.
use Rattle.std.proofs.Common.{◌≡◌, ◌≢◌, ℕ, zero, suc, ◌+◌, ◌-◌, ◌<◌, ◌≤◌, ◌==◌, cond, min, List, [], ◌∷◌, ◌++◌, length, take, drop, set, replicate, count_by, refl, sym, ap, ◌∙◌, subst, arith, inl, inr, add-zero}
use Rattle.std.specs.Prelude.{slice_range, slice_index_or}
use Rattle.std.proofs.Math.Seq.{take-append_seam}
use Rattle.std.specs.List.{sum, sum_by}
use Rattle.std.proofs.lemmas.Bool.{cases_eq, cases_lt}
use Rattle.std.proofs.lemmas.Bool.Decides.{eqb_tells}
use Rattle.std.proofs.lemmas.List.{length-append, length-set, length-replicate, get_or-set_same, get_or-set_other, get_or-take, length-drop, get_or-drop, length-take-le, get_or_default, get_or_past, take_all}
use Rattle.std.proofs.lemmas.List.Sums.{sum_by_more, sum_by_more_le, sum_by-take-le}
use Rattle.std.proofs.lemmas.Grind.{same_number_lists}
use Rattle.rq_algebra.specs.Systems.{at}
use Rattle.rq_peeling.specs.SystemRows.{one_in}
use Rattle.rq_peeling.specs.ColumnRows.{HasPlaced, rows_with, rows_of_column}
use Rattle.rq_peeling.proofs.Counting.{sum_next, sum_within, sum_rises_to}

-- ---- counting

-- a number is counted in its own place
pub counted_more : (columns : List ℕ) (t k : ℕ) → t < length columns → count_by (λ column. column == k) (take (t + 1) columns) ≡ count_by (λ column. column == k) (take t columns) + cond (at columns t == k) 1 0
counted_more columns t k l = sum_by_more (λ column. cond (column == k) 1 0) columns t 0 l

-- the number itself comes once more
counted_here : (columns : List ℕ) (t : ℕ) → t < length columns → count_by (λ column. column == at columns t) (take (t + 1) columns) ≡ count_by (λ column. column == at columns t) (take t columns) + 1
counted_here columns t l =
    let k = at columns t in
    let one : ◌≡◌ {A = ℕ} (cond (k == k) 1 0) 1 = elim (eqb_tells k k) [ inl e ↦ ap (λ b. cond b 1 0) e.0 | inr e ↦ absurd (e.1 refl) ] in
    counted_more columns t k l ∙ ap (λ (n : ℕ). count_by (λ column. column == k) (take t columns) + n) one

-- a number that comes is not counted before its place
pub counted_less : (columns : List ℕ) (t : ℕ) → t < length columns → count_by (λ column. column == at columns t) (take t columns) < count_by (λ column. column == at columns t) columns
counted_less columns t l =
    let more = counted_here columns t l in
    let part = sum_by-take-le (λ (column : ℕ). cond (column == at columns t) 1 0) columns (t + 1) in
    omega (arith, more, part)

-- what holds of how often a place came and of its number holds again after the next place, which has a new number
pub counted_set : (P : ℕ → ℕ → Type 0) (places numbers : List ℕ) (t k number : ℕ) → t < length places → at places t < length numbers → ((n : ℕ) → P n (at numbers (at places t)) → P (n + 1) number)
    → P (count_by (λ place. place == k) (take t places)) (at numbers k) → P (count_by (λ place. place == k) (take (t + 1) places)) (at (set numbers (at places t) number) k)
counted_set P places numbers t k number l inside next is =
    let count = count_by (λ place. place == k) (take t places) in
    let more = counted_more places t k l in
    elim (eqb_tells (at places t) k) [
      | inl same ↦
          let often : count_by (λ place. place == k) (take (t + 1) places) ≡ count + 1 = more ∙ ap (λ b. count + cond b 1 0) same.0 in
          let read : at (set numbers (at places t) number) k ≡ number = ap (at (set numbers (at places t) number)) (sym same.1) ∙ get_or-set_same numbers (at places t) number 0 inside in
          rw (often, read) (next count (subst (λ (place : ℕ). P count (at numbers place)) (sym same.1) is))
      | inr other ↦
          let often : count_by (λ place. place == k) (take (t + 1) places) ≡ count = more ∙ ap (λ b. count + cond b 1 0) other.0 ∙ add-zero count in
          let read : at (set numbers (at places t) number) k ≡ at numbers k = get_or-set_other numbers (at places t) k number 0 (λ e. other.1 (sym e)) in
          rw (often, read) is
    ]

-- a row is put once more in the column at hand, and in no other
module _ (columns : List ℕ) (done : ℕ → List ℕ) (t row : ℕ) (in_columns : t < length columns) where
  pub put_here : replicate (count_by (λ column. column == at columns t) (take (t + 1) columns)) row ++ done (at columns t) ≡ row ∷ (replicate (count_by (λ column. column == at columns t) (take t columns)) row ++ done (at columns t))
  put_here =
      let n = count_by (λ column. column == at columns t) (take t columns) in
      let next : n + 1 ≡ suc n = omega arith in
      ap (λ (m : ℕ). replicate m row ++ done (at columns t)) (counted_here columns t in_columns ∙ next)

  pub put_elsewhere : (k : ℕ) → k ≢ at columns t → replicate (count_by (λ column. column == k) (take (t + 1) columns)) row ++ done k ≡ replicate (count_by (λ column. column == k) (take t columns)) row ++ done k
  put_elsewhere k d =
      let n = count_by (λ column. column == k) (take t columns) in
      let none : ◌≡◌ {A = ℕ} (cond (at columns t == k) 1 0) 0 = elim (eqb_tells (at columns t) k) [ inl e ↦ absurd (d (sym e.1)) | inr e ↦ ap (λ b. cond b 1 0) e.0 ] in
      ap (λ (m : ℕ). replicate m row ++ done k) (counted_more columns t k in_columns ∙ ap (λ (m : ℕ). n + m) none ∙ add-zero n)

  -- there is room for it, as there is for all
  pub put_fits : (most : ℕ) → length (done (at columns t)) + count_by (λ column. column == at columns t) columns ≤ most → length (replicate (count_by (λ column. column == at columns t) (take t columns)) row ++ done (at columns t)) < most
  put_fits most room =
      let k = at columns t in
      let long = ap length put_here in
      let with_it = length-append (replicate (count_by (λ column. column == k) (take (t + 1) columns)) row) (done k) in
      let these = length-replicate (count_by (λ column. column == k) (take (t + 1) columns)) row in
      let part = sum_by-take-le (λ (column : ℕ). cond (column == k) 1 0) columns (t + 1) in
      omega (arith, long, with_it, these, part, room)

-- ---- room for a row

module _ (counts : List ℕ) (done : ℕ → List ℕ) (starts rows : List ℕ) (placed : HasPlaced counts done starts rows) (k : ℕ) (l : k < length starts) where
  pub room_left : (more : ℕ) → length (done k) + more ≤ at counts k → more ≤ at starts k
  room_left more room =
      let inside : k < length counts = omega (arith, placed.long, l) in
      let is = placed.start k inside in
      let next = sum_next counts k inside in
      omega (arith, is, next, room)

  pub starts_within : at starts k ≤ length rows
  starts_within =
      let is = placed.start k (omega (arith, placed.long, l)) in
      let end = sum_within counts (k + 1) in
      omega (arith, is, end, placed.wide)

-- ---- one more row is put

module _ (counts : List ℕ) (done next : ℕ → List ℕ) (starts rows : List ℕ) (placed : HasPlaced counts done starts rows) (c row : ℕ) (in_c : c < length counts) (free : length (done c) < at counts c)
    (is_next : next c ≡ row ∷ done c) (others : (k : ℕ) → k ≢ c → next k ≡ done k) where
  before : sum (take c counts) + at counts c ≡ at starts c + length (done c)
  before = sym (sum_next counts c in_c) ∙ sym (placed.start c in_c)

  -- where the row is put
  pub place_free : (at starts c - 1 + 1 ≡ at starts c) × (at starts c - 1 < length rows)
  place_free =
      let end = sum_within counts (c + 1) in
      let is = placed.start c in_c in
      (omega (arith, before, free), omega (arith, before, free, end, is, placed.wide))

  longer : length (next c) ≡ length (done c) + 1
  longer = ap length is_next ∙ omega arith

  place : ℕ
  place = at starts c - 1

  -- no other column's rows are there
  apart : (k j : ℕ) → k < length counts → j < length (done k) → k ≢ c → at starts k + j ≢ at starts c - 1
  apart k j l m other e =
      let is = placed.start k l in
      let here = placed.start c in_c in
      let some = placed.room k l in
      let next_k = sum_next counts k l in
      elim (cases_lt k c) [
        | inl low ↦ let rise = sum_rises_to counts (k + 1) c (omega arith) (omega arith) in omega (arith, is, rise, before, free, m, e, place_free.0)
        | inr high ↦ let rise = sum_rises_to counts (c + 1) k (omega (arith, high, other)) (omega arith) in omega (arith, is, rise, here, some, next_k, e, place_free.0, free, before)
      ]

  pub placed_more : HasPlaced counts next (set starts c (at starts c - 1)) (set rows (at starts c - 1) row)
  placed_more =
      let in_starts : c < length starts = omega (arith, placed.long, in_c) in
      let one = place_free in
      record {
        long = length-set starts c (at starts c - 1) ∙ placed.long;
        wide = length-set rows (at starts c - 1) row ∙ placed.wide;
        start = λ k l. elim (cases_eq k c) [
          | inl e ↦
              let is = placed.start c in_c in
              rw (e, get_or-set_same starts c (at starts c - 1) 0 in_starts) (omega (arith, is, longer, one.0))
          | inr d ↦ rw (get_or-set_other starts c k (at starts c - 1) 0 d, others k d) (placed.start k l)
        ];
        room = λ k l. elim (cases_eq k c) [
          | inl e ↦ rw e (omega (arith, longer, free))
          | inr d ↦ rw (others k d) (placed.room k l)
        ];
        here = λ k j l m. elim (cases_eq k c) [
          | inl e ↦ rw (e, get_or-set_same starts c (at starts c - 1) 0 in_starts, is_next) (own j (omega (arith, longer, ap (λ (i : ℕ). length (next i)) e, m)))
          | inr d ↦
              let inside : j < length (done k) = rw (others k d) at m in
              rw (get_or-set_other starts c k (at starts c - 1) 0 d, others k d) (get_or-set_other rows (at starts c - 1) (at starts k + j) row 0 (apart k j l inside d) ∙ placed.here k j l inside)
        ];
      } where
        own : (j : ℕ) → j < length (done c) + 1 → at (set rows (at starts c - 1) row) (at starts c - 1 + j) ≡ at (row ∷ done c) j
        own zero l = ap (at (set rows (at starts c - 1) row)) (add-zero (at starts c - 1)) ∙ get_or-set_same rows (at starts c - 1) row 0 place_free.1
        own (suc j) l =
            let there : at starts c - 1 + suc j ≡ at starts c + j = omega (arith, place_free.0) in
            get_or-set_other rows (at starts c - 1) (at starts c - 1 + suc j) row 0 (λ e. omega (arith, e))
            ∙ ap (at rows) there ∙ placed.here c j in_c (omega arith)

-- ---- all rows

-- one row more has its ones put before those that are there
pub rows_with-more : (lists : List (List ℕ)) (k n : ℕ) → rows_with lists k (n + 1) ≡ replicate (one_in lists n k) n ++ rows_with lists k n
rows_with-more lists k n = let next : n + 1 ≡ suc n = omega arith in ap (rows_with lists k) next

pub length-rows_with : (lists : List (List ℕ)) (k n : ℕ) → n ≤ length lists → length (rows_with lists k n) ≡ sum_by (count_by (λ column. column == k)) (take n lists)
length-rows_with lists k zero l = refl
length-rows_with lists k (suc n) l =
    let next : n + 1 ≡ suc n = omega arith in
    let here = length-append (replicate (one_in lists n k) n) (rows_with lists k n) in
    let these = length-replicate (one_in lists n k) n in
    let before = length-rows_with lists k n (omega arith) in
    let more = sum_by_more (count_by (λ column. column == k)) lists n [] (omega arith) in
    rw (← next) (rw next (omega (arith, here, these, before, more, ap (λ (m : ℕ). sum_by (count_by (λ column. column == k)) (take m lists)) next)))

-- a column has room for a row's ones
pub room_for : (lists : List (List ℕ)) (k n : ℕ) → n < length lists → length (rows_with lists k n) + one_in lists n k ≤ sum_by (count_by (λ column. column == k)) lists
room_for lists k n l =
    let is = length-rows_with lists k n (omega arith) in
    let most = sum_by_more_le (count_by (λ column. column == k)) lists n [] l in
    omega (arith, is, most)

-- what was put, said otherwise
pub placed_same : (counts : List ℕ) (done next : ℕ → List ℕ) (starts rows : List ℕ) → ((k : ℕ) → next k ≡ done k) → HasPlaced counts done starts rows → HasPlaced counts next starts rows
placed_same counts done next starts rows same placed = record {
  long = placed.long;
  wide = placed.wide;
  start = λ k l. rw (same k) (placed.start k l);
  room = λ k l. rw (same k) (placed.room k l);
  here = λ k j l m. rw (same k) (placed.here k j l (rw (same k) at m));
}

-- a list of which all was written back
pub written_back : (n : ℕ) (old new : List ℕ) → n ≡ length old → length new ≡ length old → take n (new ++ drop (length new) old) ≡ new
written_back n old new all same =
    let m : n ≡ length new = all ∙ sym same in
    ap (λ (k : ℕ). take k (new ++ drop (length new) old)) m ∙ take-append_seam new (drop (length new) old)

-- ---- what is read

module _ (lists : List (List ℕ)) (counts starts rows : List ℕ) (placed : HasPlaced counts (λ k. rows_with lists k (length lists)) starts rows) (full : (k : ℕ) → k < length counts → length (rows_with lists k (length lists)) ≡ at counts k) where
  start_is : (k : ℕ) → k < length counts → at starts k ≡ sum (take k counts)
  start_is k l =
      let is = placed.start k l in
      let more = sum_next counts k l in
      let all = full k l in
      omega (arith, is, more, all)

  end_is : (k : ℕ) → k < length counts → min (slice_index_or starts (k + 1) (length rows)) (length rows) ≡ sum (take (k + 1) counts)
  end_is k l =
      elim (cases_lt (k + 1) (length counts)) [
        | inl inner ↦
            let next = start_is (k + 1) inner in
            let read : slice_index_or starts (k + 1) (length rows) ≡ at starts (k + 1) = get_or_default starts (k + 1) (length rows) 0 (omega (arith, placed.long, inner)) in
            let within = sum_within counts (k + 1) in
            rw read (omega (arith, next, within, placed.wide))
        | inr last ↦
            let read : slice_index_or starts (k + 1) (length rows) ≡ length rows = get_or_past starts (k + 1) (length rows) (omega (arith, placed.long, last)) in
            let all : take (k + 1) counts ≡ counts = take_all (k + 1) counts (omega (arith, last)) in
            rw (read, all) (omega (arith, placed.wide))
      ]

  -- a column's rows are those that were put
  pub rows_of_column-put : (k : ℕ) → k < length counts → rows_of_column starts rows k ≡ rows_with lists k (length lists)
  rows_of_column-put k l =
      let start = sum (take k counts) in
      let end = sum (take (k + 1) counts) in
      let more = sum_next counts k l in
      let within = sum_within counts (k + 1) in
      let first = start_is k l in
      let many = full k l in
      let low : min (at starts k) end ≡ at starts k = omega (arith, first, more) in
      let part : List ℕ = take (end - at starts k) (drop (at starts k) rows) in
      let long : length part ≡ at counts k = length-take-le (end - at starts k) (drop (at starts k) rows) (omega (arith, length-drop (at starts k) rows, within, placed.wide)) ∙ omega (arith, first, more) in
      ap (λ (n : ℕ). slice_range rows (min (at starts k) n) n) (end_is k l)
      ∙ ap (λ (n : ℕ). slice_range rows n end) low
      ∙ same_number_lists part (rows_with lists k (length lists)) (long ∙ sym many) (λ j m.
      get_or-take (end - at starts k) (drop (at starts k) rows) j 0 (omega (arith, long, m, first, more))
      ∙ get_or-drop (at starts k) rows j 0
      ∙ placed.here k j l (omega (arith, long, many, m)))
