-- How many ones rows have in active columns.
use Rattle.std.proofs.Common.{◌≡◌, ℕ, zero, suc, ◌+◌, ◌<◌, ◌≤◌, ◌==◌, cond, true, List, [], ◌∷◌, ◌++◌, All, length, take, get_or, replicate, count_by, refl, sym, ap, ◌∙◌, arith, inl, inr, zero-add}
use Rattle.std.specs.Prelude.{nat_lt, slice_index_or}
use Rattle.std.specs.List.{Contains, sum_by, range_with_len}
use Rattle.std.proofs.lemmas.Bool.{and_from, and_parts, cases_lt, ltb-true, lt-ltb, false_from_ne_true, eqb-true, eq-eqb}
use Rattle.std.proofs.lemmas.Bool.Decides.{eqb_tells, nat_tests}
use Rattle.std.proofs.lemmas.List.{length-append, get_or_push, take_all, take-append-le}
use Rattle.std.proofs.lemmas.List.Elements.{All-contains}
use Rattle.std.proofs.lemmas.List.FromFn.{get_or-range_with_len}
use Rattle.std.proofs.lemmas.List.Sums.{sum_by-append, sum_by_push, get_or-le-sum_by}
use Rattle.std.proofs.Math.Bool.{and-true}
use Rattle.std.proofs.Math.ListN.{get_or-append}
use Rattle.std.specs.Cmp.{both_ways}
use Rattle.rq_algebra.specs.Systems.{at}
use Rattle.rq_peeling.specs.SystemRows.{one_in}
use Rattle.rq_peeling.specs.ColumnRows.{ColumnLists, ListsColumns, rows_with}
use Rattle.rq_peeling.specs.RowDegrees.{is_left, ones_left, is_active, active_ones, CountsActive, CountsBefore, KeepsDegrees, LowersRows, HasFewestLeft, HasLeastDegree, AllHaveNone, TakesColumnsLeft}
use Rattle.rq_peeling.specs.ColumnState.{ColumnState, IsActive, HasNoActive, EndsActive, TakesRow, first_columns}
use Rattle.rq_peeling.specs.RowOnes.{ones_of}
use Rattle.rq_peeling.proofs.Counting.{count-replicate, count_contains, count_same, count_nothing, count_absent, count_split}

-- ---- tests

pub active_true : (state : ColumnState) (k : ℕ) → IsActive state k → is_active state k ≡ true
active_true state k active = let from = active.from in let below = active.below in grind (arith, nat_tests, from, below)

pub true_active : (state : ColumnState) (k : ℕ) → is_active state k ≡ true → IsActive state k
true_active state k e = record { from = grind (arith, nat_tests, e); below = grind (arith, nat_tests, e) }

-- ---- a column's rows

count_rows_none : (lists : List (List ℕ)) (k n r : ℕ) → n ≤ r → count_by (λ x. x == r) (rows_with lists k n) ≡ 0
count_rows_none lists k zero r l = refl
count_rows_none lists k (suc n) r l =
    let parts = sum_by-append (λ (x : ℕ). cond (x == r) 1 0) (replicate (one_in lists n k) n) (rows_with lists k n) in
    let here : count_by (λ x. x == r) (replicate (one_in lists n k) n) ≡ 0 = count-replicate (one_in lists n k) n r ∙ elim (eqb_tells n r) [ inl e ↦ absurd (omega (arith, e.1, l)) | inr e ↦ ap (λ b. cond b (one_in lists n k) 0) e.0 ] in
    let rest = count_rows_none lists k n r (omega (arith, l)) in
    omega (arith, parts, here, rest)

-- a row is there as often as it has ones in the column
pub count_rows : (lists : List (List ℕ)) (k n r : ℕ) → r < n → count_by (λ x. x == r) (rows_with lists k n) ≡ one_in lists r k
count_rows lists k zero r l = absurd (omega arith)
count_rows lists k (suc n) r l =
    let parts = sum_by-append (λ (x : ℕ). cond (x == r) 1 0) (replicate (one_in lists n k) n) (rows_with lists k n) in
    let these = count-replicate (one_in lists n k) n r in
    elim (eqb_tells n r) [
      | inl e ↦
          let here : count_by (λ x. x == r) (replicate (one_in lists n k) n) ≡ one_in lists n k = these ∙ ap (λ b. cond b (one_in lists n k) 0) e.0 in
          let rest = count_rows_none lists k n r (omega (arith, e.1)) in
          let same : one_in lists n k ≡ one_in lists r k = ap (λ (i : ℕ). one_in lists i k) e.1 in
          omega (arith, parts, here, rest, same)
      | inr e ↦
          let here : count_by (λ x. x == r) (replicate (one_in lists n k) n) ≡ 0 = these ∙ ap (λ b. cond b (one_in lists n k) 0) e.0 in
          let rest = count_rows lists k n r (omega (arith, l, e.1)) in
          omega (arith, parts, here, rest)
    ]

-- what holds of each one of each row holds of the ones of a row
pub in_row : (lists : List (List ℕ)) (width r k : ℕ) → All (λ row. All (λ column. column < width) row) lists → r < length lists → Contains (ones_of lists r) k → k < width
in_row lists width r k below l = All-contains (λ (c : ℕ). c < width) (ones_of lists r) k (below r [] l)

-- of a row's ones in active columns those are gone that were in a column that isn't active any more
active_split : (row : List ℕ) (old new : ColumnState) (column : ℕ) → All (λ k. k < length old.order) row → column < length old.order → IsActive old column → EndsActive column old new → active_ones old row ≡ active_ones new row + count_by (λ x. x == column) row
active_split row old new column below inside active ends =
    count_split (is_active old) (is_active new) column row
    (λ k is d.
    let within = All-contains (λ (c : ℕ). c < length old.order) row k below is in
    both_ways (is_active old k) (is_active new k) (λ e. active_true new k (ends.kept k within (true_active old k e) d)) (λ e. active_true old k (ends.left k within (true_active new k e)).0))
    (active_true old column active) (false_from_ne_true (is_active new column) (λ e. (ends.left column inside (true_active new column e)).1 refl))

-- where a column isn't active any more, and its rows' degrees are lowered
pub degrees_lowered :
    (lists : List (List ℕ)) (columns : ColumnLists) → ListsColumns lists columns → length lists ≡ columns.height → All (λ row. All (λ column. column < length columns.lists) row) lists → (old new : ColumnState) (column : ℕ) (was now : List ℕ) → length columns.lists ≡ length old.order → column < length old.order → IsActive old column → EndsActive column old new → columns.height ≡ length was
    → LowersRows (slice_index_or columns.lists column []) was now → KeepsDegrees lists old new was now
degrees_lowered lists columns holds high below old new column was now width inside active ends height lowered counts r l =
    let fell = lowered r (omega (arith, high, height, l)) in
    let listed = holds column (omega (arith, width, inside)) in
    let often : count_by (λ x. x == r) (slice_index_or columns.lists column []) ≡ one_in lists r column = ap (count_by (λ x. x == r)) listed ∙ count_rows lists column (length lists) r l in
    let parts : active_ones old (ones_of lists r) ≡ active_ones new (ones_of lists r) + one_in lists r column = active_split (ones_of lists r) old new column (rw (← width) (below r [] l)) inside active ends in
    omega (arith, fell, often, parts, counts r l)

-- a row's active column that isn't active any more was its only one
pub none_behind :
    (row : List ℕ) (old new : ColumnState) (column : ℕ) → All (λ k. k < length old.order) row → Contains row column → IsActive old column → EndsActive column old new → active_ones old row ≤ 1
    → HasNoActive row new
none_behind row old new column below is active ends few k there still =
    let parts = active_split row old new column below (All-contains (λ (c : ℕ). c < length old.order) row column below is) active ends in
    let some = count_contains row column is in
    let most = get_or-le-sum_by (λ (x : ℕ). cond (is_active new x) 1 0) row there.0 k there.1 in
    let one : ◌≡◌ {A = ℕ} (cond (is_active new (get_or row there.0 k)) 1 0) 1 = ap (λ (x : ℕ). cond (is_active new x) 1 0) there.2 ∙ ap (λ b. cond b 1 0) (active_true new k still) in
    omega (arith, few, parts, some, most, one)

-- ---- columns that are left

-- one more row is taken: what holds of each row beside those before it holds of each again
pub each_taken_more : (P : ℕ → List ℕ → ℕ → Type 0) (taken : List ℕ) (row : ℕ) → ((p : ℕ) → p < length taken → P p (take p taken) (at taken p)) → P (length taken) taken row
    → (p : ℕ) → p < length (taken ++ row ∷ []) → P p (take p (taken ++ row ∷ [])) (at (taken ++ row ∷ []) p)
each_taken_more P taken row each is p l =
    let long = length-append taken (row ∷ []) in
    elim (cases_lt p (length taken)) [
      | inl before ↦ rw (take-append-le p taken (row ∷ []) (omega arith), get_or-append taken (row ∷ []) 0 p before) (each p before)
      | inr after ↦
          let last : length taken ≡ p = omega (arith, long, l) in
          let all : take p (taken ++ row ∷ []) ≡ taken = take-append-le p taken (row ∷ []) (omega (arith, last)) ∙ take_all p taken (omega (arith, last)) in
          rw (all, get_or_push taken row 0 p last, ← last) is
    ]

-- before a row is taken the columns of LT symbols are active
active_first : (width lt_columns k : ℕ) → k < width → is_active (first_columns width lt_columns) k ≡ nat_lt k lt_columns
active_first width lt_columns k l =
    let own : at (range_with_len 0 width) k ≡ k = get_or-range_with_len 0 width k 0 l ∙ zero-add k in
    both_ways (is_active (first_columns width lt_columns) k) (nat_lt k lt_columns)
    (λ e. lt-ltb k lt_columns (rw own at (true_active (first_columns width lt_columns) k e).below))
    (λ e. active_true (first_columns width lt_columns) k (record { from = omega arith; below = rw own (ltb-true k lt_columns e) }))

pub left_first : (lists : List (List ℕ)) (width lt_columns k : ℕ) → k < width → is_left lists lt_columns [] k ≡ is_active (first_columns width lt_columns) k
left_first lists width lt_columns k l = and-true (nat_lt k lt_columns) ∙ sym (active_first width lt_columns k l)

module _ (lists : List (List ℕ)) (lt_columns : ℕ) (rows : List ℕ) (row : ℕ) (old new : ColumnState) (takes : TakesRow (ones_of lists row) old new) (left : (k : ℕ) → k < length old.order → is_left lists lt_columns rows k ≡ is_active old k) where
  pub left_next : (k : ℕ) → k < length old.order → is_left lists lt_columns (rows ++ row ∷ []) k ≡ is_active new k
  left_next k l =
      let before = sum_by (λ r. one_in lists r k) rows in
      let after = sum_by (λ r. one_in lists r k) (rows ++ row ∷ []) in
      let more : after ≡ before + one_in lists row k = sum_by_push (λ r. one_in lists r k) rows row in
      both_ways (is_left lists lt_columns (rows ++ row ∷ []) k) (is_active new k)
      (λ e.
      let both = and_parts (nat_lt k lt_columns) (after == 0) e in
      let none = eqb-true after 0 both.1 in
      let was : is_left lists lt_columns rows k ≡ true = and_from (nat_lt k lt_columns) (before == 0) both.0 (eq-eqb before 0 (omega (arith, none, more))) in
      active_true new k (takes.ends.kept k l (true_active old k (sym (left k l) ∙ was)) (λ is. let some = count_contains (ones_of lists row) k is in omega (arith, none, more, some))))
      (λ e.
      let active = true_active new k e in
      let was : is_left lists lt_columns rows k ≡ true = left k l ∙ active_true old k (takes.ends.left k l active).0 in
      let both = and_parts (nat_lt k lt_columns) (before == 0) was in
      let none = eqb-true before 0 both.1 in
      let absent = count_absent (ones_of lists row) k (λ is. (takes.ends.left k l active).1 is) in
      and_from (nat_lt k lt_columns) (after == 0) both.0 (eq-eqb after 0 (omega (arith, more, none, absent))))

  -- the row's pivot stands in a column that was left
  column_left : All (λ row. All (λ column. column < length old.order) row) lists → row < length lists → is_left lists lt_columns rows (at new.order old.pivots) ≡ true
  column_left below inside = let column = at new.order old.pivots in left column (in_row lists (length old.order) row column below inside takes.own) ∙ active_true old column takes.was

  pub columns_next : All (λ row. All (λ column. column < length old.order) row) lists → row < length lists → length rows ≡ old.pivots → TakesColumnsLeft lists lt_columns rows old.order → TakesColumnsLeft lists lt_columns (rows ++ row ∷ []) new.order
  columns_next below inside count were =
      each_taken_more (λ p taken _. is_left lists lt_columns taken (at new.order p) ≡ true) rows row
      (λ p l. rw (takes.ends.before p (omega (arith, l, count))) (were p l)) (rw count (column_left below inside))

-- ---- rows by their degrees

module _ (lists : List (List ℕ)) (lt_columns width : ℕ) (taken : List ℕ) (state : ColumnState) (below : All (λ row. All (λ column. column < width) row) lists) (left : (k : ℕ) → k < width → is_left lists lt_columns taken k ≡ is_active state k) where
  -- how many ones a row has in the columns that are left
  pub left_active : (r : ℕ) → r < length lists → ones_left lists lt_columns taken r ≡ active_ones state (ones_of lists r)
  left_active r l = count_same (is_left lists lt_columns taken) (is_active state) (ones_of lists r) (λ k is. left k (in_row lists width r k below l is))

  -- where no column is active there are none
  pub none_left : ((k : ℕ) → IsActive state k → ⊥) → (r : ℕ) → r < length lists → ones_left lists lt_columns taken r ≡ 0
  none_left none r l = left_active r l ∙ count_nothing (is_active state) (ones_of lists r) (λ k is. false_from_ne_true (is_active state k) (λ e. none k (true_active state k e)))

  module _ (degrees : List ℕ) (long : length degrees ≡ length lists) (counts : CountsActive lists state degrees) where
    degree_is : (r : ℕ) → r < length lists → at degrees r ≡ ones_left lists lt_columns taken r
    degree_is r l = counts r l ∙ sym (left_active r l)

    pub fewest_left : (row : ℕ) → HasLeastDegree degrees row → HasFewestLeft lists lt_columns taken row
    fewest_left row is =
        let in_lists : row < length lists = omega (arith, is.below, long) in
        let here = degree_is row in_lists in
        let some = is.some in
        record {
          some = omega (arith, here, some);
          least = λ r l more. let there = degree_is r l in let least = is.least r (omega arith) (omega (arith, l, long)) (omega (arith, there, more)) in omega (arith, here, there, least);
        }

    -- no row has any where all degrees are 0
    pub all_done : AllHaveNone degrees → (r : ℕ) → r < length lists → ones_left lists lt_columns taken r ≡ 0
    all_done none r l = let zero = none r (omega (arith, l, long)) in omega (arith, zero, degree_is r l)

-- the degrees at the start are the numbers of ones in the columns that are active then
pub counts_first : (lists : List (List ℕ)) (lt_columns width : ℕ) (degrees : List ℕ) → All (λ row. All (λ column. column < width) row) lists → CountsBefore lt_columns lists degrees → CountsActive lists (first_columns width lt_columns) degrees
counts_first lists lt_columns width degrees below counts r l =
    counts r l ∙ count_same (λ column. nat_lt column lt_columns) (is_active (first_columns width lt_columns)) (ones_of lists r) (λ k is. sym (active_first width lt_columns k (in_row lists width r k below l is)))
