-- What the checks give: the built-in rows pass them, and a look-up in a checked table answers a checked row.
use Rattle.std.proofs.Common.{◌≡◌, ℕ, zero, suc, ◌+◌, ◌≤◌, ◌<◌, Bool, true, false, cond, not, leb, min, ◌&&◌, List, [], ◌∷◌, ◌++◌, length, take, Option, None, Some, refl, ap, subst, ◌∙◌, arith, ⊎_elim, slice_get, is_none, IsSome, ◌↔◌, lit<}
use Rattle.std.specs.List.{list_all}
use Rattle.std.proofs.lemmas.Bool.{and_parts, not-true, eqb-true, ltb-true, leb-true, le-leb, cases_Bool}
use Rattle.std.proofs.lemmas.List.{length-take, take-append-le}
use Rattle.rq_standard.specs.declared.row.TableRow.{TableRow}
use Rattle.rq_standard.specs.declared.p1_table.TheConstants.{P1_TABLE}
use Rattle.rq_standard.specs.TableRows.{first_failing_check, has_size, is_odd, fits_ldpc, fits_hdpc, fits_pi, fits_columns, fits_index, IsChecked, RowNumbers, row_of_numbers, rows_from, first_failure, first_refused, built_in_rows, IsTable, greatest_size, row_of, first_size, extended_size}
use Rattle.rq_standard.proofs.OptionValues.{none_is}

-- ---- the checks

-- a row that fails no check passes each
record Passes (place : ℕ) (row : TableRow) : Type 0 where
  size : has_size (slice_get P1_TABLE place) row ≡ true
  odd : is_odd row ≡ true
  ldpc : fits_ldpc row ≡ true
  hdpc : fits_hdpc row ≡ true
  pi : fits_pi row ≡ true
  columns : fits_columns row ≡ true
  index : fits_index row ≡ true

-- a chain of tests that ends in no refusal has passed its first test, and the rest of the chain
first_passed : (test : Bool) (check : ℕ) (rest : Option ℕ) → cond (not test) (Some check) rest ≡ None → (test ≡ true) × (rest ≡ None)
first_passed true check rest e = (refl, e)
first_passed false check rest e = absurd (cc)

passes : (place : ℕ) (row : TableRow) → first_failing_check place row ≡ None → Passes place row
unfolding first_failing_check
passes place row e =
    let one = first_passed _ _ _ e in
    let two = first_passed _ _ _ one.1 in
    let three = first_passed _ _ _ two.1 in
    let four = first_passed _ _ _ three.1 in
    let five = first_passed _ _ _ four.1 in
    let six = first_passed _ _ _ five.1 in
    let seven = first_passed _ _ _ six.1 in
    record { size = one.0; odd = two.0; ldpc = three.0; hdpc = four.0; pi = five.0; columns = six.0; index = seven.0 }

passes_checked : (place : ℕ) (row : TableRow) → first_failing_check place row ≡ None → IsChecked row
passes_checked place row e =
    let p = passes place row e in
    let ldpc = and_parts _ _ p.ldpc in
    let hdpc = and_parts _ _ p.hdpc in
    let pi = and_parts _ _ p.pi in
    let below : row.hdpc_symbols ≤ min row.extended_symbols 255 = leb-true _ _ hdpc.1 in
    record {
      odd = eqb-true _ _ p.odd;
      some_b = leb-true _ _ (and_parts _ _ ldpc.0).0;
      few_b = leb-true _ _ (and_parts _ _ ldpc.0).1;
      b_below = leb-true _ _ ldpc.1;
      two_hdpc = leb-true _ _ hdpc.0;
      hdpc_below = omega arith;
      few_hdpc = omega arith;
      three_pi = leb-true _ _ (and_parts _ _ pi.0).0;
      p1_above = leb-true _ _ (and_parts _ _ pi.0).1;
      p1_near = leb-true _ _ pi.1;
      few_columns = ltb-true _ _ p.columns;
      small_index = leb-true _ _ p.index;
    }

-- ---- tables

-- each row passes the checks, from a place of a table on
abbrev all_pass : ℕ → List TableRow → Bool
all_pass place [] = true
all_pass place (row ∷ rows) = is_none (first_failing_check place row) && all_pass (place + 1) rows

all_pass_at : (place : ℕ) (rows : List TableRow) → all_pass place rows ≡ true → (i : ℕ) (row : TableRow) → slice_get rows i ≡ Some row → first_failing_check (place + i) row ≡ None
all_pass_at place [] e i row is = absurd (cc)
all_pass_at place (first ∷ rows) e zero row is =
    let both = and_parts (is_none (first_failing_check place first)) (all_pass (place + 1) rows) e in
    let here : first ≡ row = cc in
    subst (λ (r : TableRow). first_failing_check (place + 0) r ≡ None) here
    (subst (λ (n : ℕ). first_failing_check n first ≡ None) (let same : place ≡ place + 0 = omega arith in same) (none_is _ (not-true _ both.0)))
all_pass_at place (first ∷ rows) e (suc i) row is =
    let both = and_parts (is_none (first_failing_check place first)) (all_pass (place + 1) rows) e in
    subst (λ (n : ℕ). first_failing_check n row ≡ None) (let same : place + 1 + i ≡ place + suc i = omega arith in same)
    (all_pass_at (place + 1) rows both.1 i row is)

pass_each : (rows : List TableRow) → all_pass 0 rows ≡ true → (place : ℕ) (row : TableRow) → slice_get rows place ≡ Some row → first_failing_check place row ≡ None
pass_each rows all place row is =
    subst (λ (n : ℕ). first_failing_check n row ≡ None) (let same : 0 + place ≡ place = omega arith in same) (all_pass_at 0 rows all place row is)

built_in_pass : all_pass 0 built_in_rows ≡ true
unfolding built_in_rows rows_from first_failing_check
built_in_pass = refl

built_in_length : take 74 built_in_rows ≡ built_in_rows
unfolding built_in_rows rows_from
built_in_length = refl

pub built_in_table : IsTable built_in_rows
built_in_table = record { built_in_first = built_in_length; passes = pass_each built_in_rows built_in_pass }

-- ---- look-ups

-- a row of the table whose size is at least k
abbrev Finds : List TableRow → ℕ → TableRow → Type 0
Finds rows k row = (place : ℕ) × (slice_get rows place ≡ Some row) × (k ≤ row.extended_symbols)

finds_here : (first : TableRow) (rest : List TableRow) (k : ℕ) (other : TableRow) → leb k first.extended_symbols ≡ true → Finds (first ∷ rest) k (cond (leb k first.extended_symbols) first other)
finds_here first rest k other e = rw e (zero, refl, leb-true _ _ e)

finds_later : (first : TableRow) (rest : List TableRow) (k : ℕ) (other : TableRow) → leb k first.extended_symbols ≡ false → Finds rest k other → Finds (first ∷ rest) k (cond (leb k first.extended_symbols) first other)
finds_later first rest k other e found = rw e (suc found.0, found.1, found.2)

-- a block that the greatest size holds has a row
row_found : (rows : List TableRow) (k : ℕ) → k ≤ greatest_size rows → 0 < length rows → Finds rows k (row_of rows k)
unfolding greatest_size row_of
row_found [] k le some = absurd (omega arith)
row_found (row ∷ []) k le some = finds_here row [] k _ (le-leb _ _ le)
row_found (row ∷ next ∷ rest) k le some =
    ⊎_elim
    (λ (here : leb k row.extended_symbols ≡ true). finds_here row (next ∷ rest) k _ here)
    (λ (later : leb k row.extended_symbols ≡ false). finds_later row (next ∷ rest) k _ later (row_found (next ∷ rest) k le (omega arith)))
    (cases_Bool (leb k row.extended_symbols))

length-built_in_rows : length built_in_rows ≡ 74
unfolding built_in_rows rows_from
length-built_in_rows = refl

pub table_length : (rows : List TableRow) → IsTable rows → 74 ≤ length rows
table_length rows table = omega (arith, length-take 74 rows, ap length table.built_in_first, length-built_in_rows)

-- the row that a look-up in a checked table answers
pub row_checked : (rows : List TableRow) (k : ℕ) → IsTable rows → k ≤ greatest_size rows → IsChecked (row_of rows k) × (k ≤ (row_of rows k).extended_symbols)
row_checked rows k table le =
    let enough = table_length rows table in
    let found = row_found rows k le (omega arith) in
    (passes_checked found.0 (row_of rows k) (table.passes found.0 (row_of rows k) found.1), found.2)

-- ---- tables of further rows

all_pass-append : (place : ℕ) (xs ys : List TableRow) → all_pass place xs ≡ true → all_pass (place + length xs) ys ≡ true → all_pass place (xs ++ ys) ≡ true
all_pass-append place [] ys hx hy = subst (λ (n : ℕ). all_pass n ys ≡ true) (let same : place + 0 ≡ place = omega arith in same) hy
all_pass-append place (x ∷ xs) ys hx hy =
    let both = and_parts (is_none (first_failing_check place x)) (all_pass (place + 1) xs) hx in
    let rest = all_pass-append (place + 1) xs ys both.1
    (subst (λ (n : ℕ). all_pass n ys ≡ true) (let same : place + suc (length xs) ≡ place + 1 + length xs = omega arith in same) hy) in
    rw both.0 rest

refused_none : (failing : Option ℕ) (place : ℕ) (rest : Option (ℕ × ℕ)) → first_failure failing place rest ≡ None → (failing ≡ None) × (rest ≡ None)
refused_none None place rest e = (refl, e)
refused_none (Some check) place rest e = absurd (cc)

further_pass : (place : ℕ) (numbers : List RowNumbers) → first_refused place numbers ≡ None → all_pass (74 + place) (rows_from (74 + place) numbers) ≡ true
unfolding first_refused rows_from
further_pass place [] e = refl
further_pass place (n ∷ rest) e =
    let both = refused_none (first_failing_check (74 + place) (row_of_numbers (74 + place) n)) place (first_refused (place + 1) rest) e in
    rw both.0 (subst (λ (k : ℕ). all_pass k (rows_from k rest) ≡ true) (let same : 74 + (place + 1) ≡ 74 + place + 1 = omega arith in same) (further_pass (place + 1) rest both.1))

-- the built-in rows and further ones that are not refused
pub further_table : (numbers : List RowNumbers) → first_refused 0 numbers ≡ None → IsTable (built_in_rows ++ rows_from 74 numbers)
further_table numbers e =
    let all : all_pass 0 (built_in_rows ++ rows_from 74 numbers) ≡ true =
    all_pass-append 0 built_in_rows (rows_from 74 numbers) built_in_pass
    (subst (λ (n : ℕ). all_pass n (rows_from 74 numbers) ≡ true) (let same : 74 ≡ 0 + length built_in_rows = omega (arith, length-built_in_rows) in same) (further_pass 0 numbers e)) in
    let enough : 74 ≤ length built_in_rows = omega (arith, length-built_in_rows) in
    record {
      built_in_first = take-append-le 74 built_in_rows (rows_from 74 numbers) enough ∙ built_in_length;
      passes = pass_each (built_in_rows ++ rows_from 74 numbers) all;
    }

-- ---- the list of sizes

-- the last size of a list
abbrev last_size : List (ℕ × ℕ) → ℕ
last_size [] = 0
last_size (size ∷ []) = size.0
last_size (size ∷ sizes) = last_size sizes

first_size_found : (k : ℕ) (sizes : List (ℕ × ℕ)) → k ≤ last_size sizes → 0 < length sizes → IsSome (first_size k sizes)
first_size_found k [] le some = absurd (omega arith)
first_size_found k (size ∷ []) le some = rw (le-leb k size.0 le) refl
first_size_found k (size ∷ next ∷ rest) le some =
    ⊎_elim
    (λ (here : leb k size.0 ≡ true). rw here refl)
    (λ (later : leb k size.0 ≡ false). rw later (first_size_found k (next ∷ rest) le (omega arith)))
    (cases_Bool (leb k size.0))

first_size_below : (k limit : ℕ) (sizes : List (ℕ × ℕ)) → list_all (λ size. leb size.0 limit) sizes ≡ true → IsSome (first_size k sizes) → k ≤ limit
first_size_below k limit [] all some = absurd (cc)
first_size_below k limit (size ∷ sizes) all some =
    let both = and_parts (leb size.0 limit) (list_all (λ s. leb s.0 limit) sizes) all in
    let below = leb-true size.0 limit both.0 in
    ⊎_elim
    (λ (here : leb k size.0 ≡ true). let le = leb-true k size.0 here in omega arith)
    (λ (later : leb k size.0 ≡ false). first_size_below k limit sizes both.1 (rw later at some))
    (cases_Bool (leb k size.0))

sizes_below : list_all (λ size. leb size.0 56403) P1_TABLE ≡ true
sizes_below = refl

-- the sizes reach to 56403
pub extended_size_found : (k : ℕ) → IsSome (extended_size k) ↔ (k ≤ 56403)
unfolding extended_size
extended_size_found k = (λ some. first_size_below k 56403 P1_TABLE sizes_below some, λ le. first_size_found k P1_TABLE le (lit< tt))

-- no block has many symbols
pub greatest_below : (rows : List TableRow) → IsTable rows → greatest_size rows < 65536
greatest_below rows table =
    let h = row_checked rows (greatest_size rows) table (omega arith) in
    omega (arith, h.0.few_columns, h.1)
