-- Reading the tables place by place.
use Rattle.std.proofs.Common.{◌≡◌, ℕ, suc, ◌+◌, ◌-◌, ◌<◌, ◌≤◌, cond, leb, max, add-one, List, [], ◌∷◌, length, get_or, drop, ◌++◌, append_assoc, append-nil, Option, None, Some, Bor, refl, arith, ap, subst, sym, ◌∙◌, slice_get, drop-cons, length-drop}
use Rattle.std.proofs.Math.ListN.{drop_of_length-le}
use Rattle.std.proofs.lemmas.Bool.{le-leb, lt-leb}
use Rattle.std.proofs.lemmas.Option.{slice_get_read, slice_get_past}
use Rattle.std.specs.Option.{option_copied}
use Rattle.std.specs.Slice.{IsItemAt}
use Rattle.rq_standard.specs.declared.row.TableRow.{TableRow}
use Rattle.rq_standard.specs.declared.systematic_indices.TheConstants.{SYSTEMATIC_INDICES_AND_PARAMETERS}
use Rattle.rq_standard.specs.Parameters.{greatest_within}
use Rattle.rq_standard.specs.TableRows.{RowNumbers, row_of_numbers, rows_from, row_of, greatest_size, first_failing_check, first_failure, first_refused, built_in_rows}

-- what `get` lends, copied, is the item at the place
pub copied-get : {X : Type 0} (xs : List X) (i : ℕ) (lent : Option (Bor X)) → IsItemAt xs i lent → option_copied lent ≡ slice_get xs i
copied-get xs i None is = sym (slice_get_past xs i is.3)
copied-get xs i (Some x) is = sym (slice_get_read xs (length xs) i x.now refl is.3.0 is.1)

-- ---- the first row of a table that holds a block

row_of-drop : (rows : List TableRow) (k i : ℕ) (d : TableRow) → i < length rows → row_of (drop i rows) k ≡ cond (leb k (get_or rows i d).extended_symbols) (get_or rows i d) (row_of (drop (i + 1) rows) k)
unfolding row_of
row_of-drop rows k i d lt = rw (drop-cons rows i d lt, add-one i) refl

pub row_here : (rows : List TableRow) (k i : ℕ) (d : TableRow) → i < length rows → k ≤ (get_or rows i d).extended_symbols → row_of (drop i rows) k ≡ get_or rows i d
row_here rows k i d lt le = row_of-drop rows k i d lt ∙ rw (le-leb k (get_or rows i d).extended_symbols le)

pub row_later : (rows : List TableRow) (k i : ℕ) (d : TableRow) → i < length rows → (get_or rows i d).extended_symbols < k → row_of (drop i rows) k ≡ row_of (drop (i + 1) rows) k
row_later rows k i d lt below = row_of-drop rows k i d lt ∙ rw (lt-leb k (get_or rows i d).extended_symbols below)

greatest_later : (row : TableRow) (rest : List TableRow) (k : ℕ) → row.extended_symbols < k → k ≤ greatest_size (row ∷ rest) → (k ≤ greatest_size rest) × (0 < length rest)
unfolding greatest_size
greatest_later row [] k below le = absurd (omega arith)
greatest_later row (next ∷ rest) k below le = (le, omega arith)

-- where the row at a place does not hold the block, a later one does
pub greatest-drop : (rows : List TableRow) (k i : ℕ) (d : TableRow) → i < length rows → (get_or rows i d).extended_symbols < k → k ≤ greatest_size (drop i rows) → (k ≤ greatest_size (drop (i + 1) rows)) × (i + 1 < length rows)
greatest-drop rows k i d lt below le =
    let later = greatest_later (get_or rows i d) (drop (suc i) rows) k below (rw (drop-cons rows i d lt) at le) in (
      subst (λ (n : ℕ). k ≤ greatest_size (drop n rows)) (let same : suc i ≡ i + 1 = omega arith in same) later.0,
      omega (arith, later.1, length-drop (suc i) rows),
    )

-- the last row of a longer list
last_later : {X : Type 0} (first next : X) (rest : List X) → slice_get (first ∷ next ∷ rest) (length (first ∷ next ∷ rest) - 1) ≡ slice_get (next ∷ rest) (length (next ∷ rest) - 1)
last_later first next rest = ap (slice_get (first ∷ next ∷ rest)) (let same : suc (suc (length rest)) - 1 ≡ suc (suc (length rest) - 1) = omega arith in same)

pub greatest_some : (rows : List TableRow) (row : TableRow) → slice_get rows (length rows - 1) ≡ Some row → row.extended_symbols ≡ greatest_size rows
unfolding greatest_size
greatest_some [] row is = absurd (cc)
greatest_some (only ∷ []) row is = let same : only ≡ row = cc in ap (λ (r : TableRow). r.extended_symbols) (sym same)
greatest_some (first ∷ next ∷ rest) row is = greatest_some (next ∷ rest) row (sym (last_later first next rest) ∙ is)

pub greatest_none : (rows : List TableRow) → slice_get rows (length rows - 1) ≡ None → 0 ≡ greatest_size rows
unfolding greatest_size
greatest_none [] is = refl
greatest_none (only ∷ []) is = absurd (cc)
greatest_none (first ∷ next ∷ rest) is = greatest_none (next ∷ rest) (sym (last_later first next rest) ∙ is)

-- ---- the first refused row

first_refused-drop : (rows : List RowNumbers) (place : ℕ) (d : RowNumbers) → place < length rows →
    first_refused place (drop place rows) ≡ first_failure (first_failing_check (74 + place) (row_of_numbers (74 + place) (get_or rows place d))) place (first_refused (place + 1) (drop (place + 1) rows))
unfolding first_refused
first_refused-drop rows place d lt =
    rw (drop-cons rows place d lt, add-one place) refl

pub first_refused-end : (rows : List RowNumbers) (place : ℕ) → length rows ≤ place → first_refused place (drop place rows) ≡ None
unfolding first_refused
first_refused-end rows place le = rw (drop_of_length-le rows le)

-- a failing check found at a place of the rows that are tested
pub check_step : (rows : List RowNumbers) (place : ℕ) (d : RowNumbers) (row : TableRow) (failing : Option ℕ) → place < length rows → row ≡ row_of_numbers (74 + place) (get_or rows place d) → failing ≡ first_failing_check (74 + place) row →
    first_refused place (drop place rows) ≡ first_failure failing place (first_refused (place + 1) (drop (place + 1) rows))
check_step rows place d row failing lt row_is failing_is =
    first_refused-drop rows place d lt
    ∙ ap (λ (o : Option ℕ). first_failure o place (first_refused (place + 1) (drop (place + 1) rows))) (sym (failing_is ∙ ap (λ (r : TableRow). first_failing_check (74 + place) r) row_is))

-- ---- rows made one by one

-- the rows made and those to come stay the same when one is made
pub rows_from_push : (made : List TableRow) (place : ℕ) (numbers : List RowNumbers) (i : ℕ) (d : RowNumbers) (row : TableRow) → i < length numbers → row ≡ row_of_numbers place (get_or numbers i d) →
    (made ++ row ∷ []) ++ rows_from (place + 1) (drop (i + 1) numbers) ≡ made ++ rows_from place (drop i numbers)
unfolding rows_from
rows_from_push made place numbers i d row lt row_is =
    append_assoc made (row ∷ []) (rows_from (place + 1) (drop (i + 1) numbers))
    ∙ ap (λ (rows : List TableRow). made ++ rows)
    (ap (λ (r : TableRow). r ∷ rows_from (place + 1) (drop (i + 1) numbers)) row_is
    ∙ ap (λ (n : ℕ). row_of_numbers place (get_or numbers i d) ∷ rows_from (place + 1) (drop n numbers)) (let same : i + 1 ≡ suc i = omega arith in same)
    ∙ ap (λ (rest : List RowNumbers). rows_from place rest) (sym (drop-cons numbers i d lt)))

pub rows_from_end : (made : List TableRow) (place : ℕ) (numbers : List RowNumbers) (i : ℕ) → length numbers ≤ i → made ++ rows_from place (drop i numbers) ≡ made
unfolding rows_from
rows_from_end made place numbers i le = rw (drop_of_length-le numbers le) (append-nil made)

pub made_built_in : (start made : List TableRow) (n : ℕ) → start ≡ [] → n ≡ 0 → made ≡ start ++ rows_from n SYSTEMATIC_INDICES_AND_PARAMETERS → made ≡ built_in_rows
unfolding built_in_rows
made_built_in start made n empty none is =
    is ∙ ap (λ (rows : List TableRow). rows ++ rows_from n SYSTEMATIC_INDICES_AND_PARAMETERS) empty ∙ ap (λ (k : ℕ). rows_from k SYSTEMATIC_INDICES_AND_PARAMETERS) none

-- ---- the greatest size within a limit

within-drop : (limit : ℕ) (rows : List TableRow) (i : ℕ) (d : TableRow) → i < length rows →
    greatest_within limit (drop i rows) ≡ cond (leb (get_or rows i d).extended_symbols limit) (max (get_or rows i d).extended_symbols (greatest_within limit (drop (i + 1) rows))) (greatest_within limit (drop (i + 1) rows))
unfolding greatest_within
within-drop limit rows i d lt = rw (drop-cons rows i d lt, add-one i) refl

-- a row within the limit
pub within_taken : (limit greatest now : ℕ) (rows : List TableRow) (i : ℕ) (d : TableRow) → i < length rows → (get_or rows i d).extended_symbols ≤ limit → now ≡ max greatest (get_or rows i d).extended_symbols →
    max now (greatest_within limit (drop (i + 1) rows)) ≡ max greatest (greatest_within limit (drop i rows))
within_taken limit greatest now rows i d lt le is =
    let size = (get_or rows i d).extended_symbols in
    let here : greatest_within limit (drop i rows) ≡ max size (greatest_within limit (drop (i + 1) rows)) = within-drop limit rows i d lt ∙ rw (le-leb size limit le) refl in
    omega (arith, here, is)

-- a row past the limit
pub within_left : (limit greatest : ℕ) (rows : List TableRow) (i : ℕ) (d : TableRow) → i < length rows → limit < (get_or rows i d).extended_symbols →
    max greatest (greatest_within limit (drop (i + 1) rows)) ≡ max greatest (greatest_within limit (drop i rows))
within_left limit greatest rows i d lt below =
    ap (λ (n : ℕ). max greatest n) (sym (within-drop limit rows i d lt ∙ rw (lt-leb (get_or rows i d).extended_symbols limit below) refl))

pub within_end : (limit greatest : ℕ) (rows : List TableRow) (i : ℕ) → length rows ≤ i → max greatest (greatest_within limit (drop i rows)) ≡ greatest
unfolding greatest_within
within_end limit greatest rows i le = rw (drop_of_length-le rows le) (omega arith)
