-- A column in which entry after entry is set, each of which was 0 before.
use Rattle.std.proofs.Common.{◌≡◌, ◌≢◌, ℕ, ◌+◌, ◌<◌, ◌≤◌, ◌==◌, List, count_by, length, set, refl, sym, ap, ◌∙◌, arith, inl, inr}
use Rattle.std.proofs.lemmas.Bool.{cases_eq}
use Rattle.std.proofs.lemmas.List.{get_or-set_other, get_or-set_same, length-set}
use Rattle.rq_algebra.specs.Operations.{plain}
use Rattle.rq_algebra.specs.Parities.{parity, sum_listed}
use Rattle.rq_algebra.specs.Systems.{at, dot, IsColumn}
use Rattle.rq_algebra.proofs.Parity.{sum_listed_is}
use Rattle.rq_algebra.proofs.Sums.{dot_same}
use Rattle.rq_standard.specs.OctetField.{octets}
use Rattle.rq_parts.specs.DenseOctetMatrix.{OctetTable, entry_of}
use Rattle.rq_elimination.specs.RowSteps.{IsEchelon}
use Rattle.rq_peeling.specs.RowOnes.{ones_of}
use Rattle.rq_peeling.specs.SystemRows.{one_in}
use Rattle.rq_peeling.proofs.Counting.{count_absent}
use Rattle.rq_solver.specs.HomogeneousColumns.{inactive_dot, inactive_entry, HasZerosAtPivots, IsZeroColumn, SolvesLeftRows, SolvesPivotRows}
use Rattle.rq_solver.specs.Peeled.{inactive_count}
use Rattle.rq_solver.specs.PivotAdditions.{PeelsRows}
use Rattle.rq_solver.specs.declared.pi_solver.peeled.Peeled.{Peeled}
use Rattle.rq_solver.proofs.ChangedColumns.{dot_kept, dot_own}
use Rattle.rq_solver.proofs.PivotsTaken.{own_one}

-- what is listed once at most is listed as often as its parity says
parity_once : (indices : List ℕ) (k : ℕ) → count_by (λ index. index == k) indices ≤ 1 → parity indices k ≡ count_by (λ index. index == k) indices
unfolding parity
parity_once indices k once = omega (arith, once)

-- A column of which the inactive entries are found from the last on, as far as place `low`: 1 in the column without a pivot, zeros behind it and
-- still before place `low`, and between them what solves the rows that are left.
pub record SolvesBehind (p : Peeled) (left : List ℕ) (table : OctetTable) (free low : ℕ) (column : List ℕ) : Type 0 where
  pub count : length column ≡ length p.peeling.places
  pub elements : IsColumn octets (length p.peeling.places) (at column)
  pub zeros : HasZerosAtPivots p.peeling 0 column
  pub before : (f : ℕ) → f < low → inactive_entry p.peeling column f ≡ 0
  pub one : inactive_entry p.peeling column free ≡ 1
  pub behind : (f : ℕ) → free < f → f < inactive_count p.peeling → inactive_entry p.peeling column f ≡ 0
  pub solved : (q : ℕ) → low ≤ q → q < free → inactive_dot p.peeling table column (at left q) ≡ 0

module _ (e : Peeled) (peels : PeelsRows e.ones e.peeling) (others : List ℕ) (table : OctetTable) (old : List ℕ) (count : length old ≡ length e.peeling.places) where
  abbrev width : ℕ
  width = length e.peeling.places

  abbrev pivots : ℕ
  pivots = length e.peeling.rows

  -- ---- the entry in the column at a place

  module _ (place value : ℕ) (inside : place < width) where
    abbrev new : List ℕ
    new = set old (at e.peeling.order place) value

    set_count : length new ≡ width
    set_count = length-set old (at e.peeling.order place) value ∙ count

    set_here : at new (at e.peeling.order place) ≡ value
    set_here = get_or-set_same old (at e.peeling.order place) value 0 (omega (arith, count, (peels.peeled.columns.ordered place inside).0))

    set_other : (k : ℕ) → k ≢ at e.peeling.order place → at new k ≡ at old k
    set_other k apart = get_or-set_other old (at e.peeling.order place) k value 0 apart

    set_place : (p : ℕ) → p < width → p ≢ place → at new (at e.peeling.order p) ≡ at old (at e.peeling.order p)
    set_place p l apart =
        let ordered = peels.peeled.columns.ordered in
        set_other (at e.peeling.order p) (λ same. apart (sym (ordered p l).1 ∙ ap (at e.peeling.places) same ∙ (ordered place inside).1))

    pub set_elements : IsColumn octets width (at old) → value < octets.size → IsColumn octets width (at new)
    set_elements elements small k l = elim (cases_eq k (at e.peeling.order place)) [
      | inl same ↦ rw (same, set_here) small
      | inr apart ↦ rw (set_other k apart) (elements k l)
    ]

  -- ---- an inactive entry

  module _ (f value : ℕ) (inside : f < inactive_count e.peeling) where
    abbrev left : List ℕ
    left = set old (at e.peeling.order (pivots + f)) value

    place_within : pivots + f < width
    place_within = omega (arith, inside)

    left_here : inactive_entry e.peeling left f ≡ value
    left_here = set_here (pivots + f) value place_within

    left_other : (g : ℕ) → g < inactive_count e.peeling → g ≢ f → inactive_entry e.peeling left g ≡ inactive_entry e.peeling old g
    left_other g l apart = set_place (pivots + f) value place_within (pivots + g) (omega (arith, l)) (λ same. apart (omega (arith, same)))

    left_zeros : HasZerosAtPivots e.peeling 0 old → HasZerosAtPivots e.peeling 0 left
    left_zeros zeros p from l = set_place (pivots + f) value place_within p (omega (arith, l, inside)) (λ same. omega (arith, same, l)) ∙ zeros p from l

    -- a row in whose own column it is, and one that has 0 there
    left_own : (row : ℕ) → inactive_entry e.peeling old f ≡ 0 → entry_of table row f ≡ 1 → value ≡ inactive_dot e.peeling table old row → inactive_dot e.peeling table left row ≡ 0
    left_own row zero one is = dot_own octets (inactive_count e.peeling) f (inactive_entry e.peeling old) (inactive_entry e.peeling left) inside zero left_other (entry_of table row) one (left_here ∙ is)

    left_kept : (row : ℕ) → inactive_entry e.peeling old f ≡ 0 → entry_of table row f ≡ 0 → inactive_dot e.peeling table left row ≡ inactive_dot e.peeling table old row
    left_kept row zero none = dot_kept octets (inactive_count e.peeling) f (inactive_entry e.peeling old) (inactive_entry e.peeling left) inside zero left_other (entry_of table row) none

  -- the first inactive entry that is set, in a column of zeros
  pub solves_first : (free low : ℕ) → low ≡ free → free < inactive_count e.peeling → IsZeroColumn old
      → SolvesBehind e others table free low (set old (at e.peeling.order (pivots + free)) 1)
  solves_first free low start inside none =
      let within : pivots + free < width = omega (arith, inside) in
      let zero : (p : ℕ) → p < width → at old (at e.peeling.order p) ≡ 0 =
      λ p l. none (at e.peeling.order p) (omega (arith, count, (peels.peeled.columns.ordered p l).0)) in
      record {
        count = set_count (pivots + free) 1 within;
        elements = set_elements (pivots + free) 1 within (λ k l. omega (arith, none k (omega (arith, count, l)))) (omega arith);
        zeros = left_zeros free 1 inside (λ p from l. zero p (omega (arith, l, e.few_pivots)));
        before = λ f l.
            left_other free 1 inside f (omega (arith, start, l, inside)) (λ same. omega (arith, start, same, l))
            ∙ zero (pivots + f) (omega (arith, start, l, within));
        one = left_here free 1 inside;
        behind = λ f l m. left_other free 1 inside f m (λ same. omega (arith, same, l)) ∙ zero (pivots + f) (omega (arith, m));
        solved = λ q from l. absurd (omega (arith, start, from, l));
      }

  -- the one before those that are set, which solves the row at its place
  pub solves_next : (free low place next value : ℕ) → place < free → free < inactive_count e.peeling → low ≡ place + 1 → next ≡ place
      → IsEchelon others free table → value < octets.size
      → SolvesBehind e others table free low old → value ≡ inactive_dot e.peeling table old (at others place)
      → SolvesBehind e others table free next (set old (at e.peeling.order (pivots + place)) value)
  solves_next free low place next value early in_columns was here echelon small v value_is =
      let inside : place < inactive_count e.peeling = omega (arith, early, in_columns) in
      let within : pivots + place < width = omega (arith, inside) in
      let zero : inactive_entry e.peeling old place ≡ 0 = v.before place (omega (arith, was)) in
      record {
        count = set_count (pivots + place) value within;
        elements = set_elements (pivots + place) value within v.elements small;
        zeros = left_zeros place value inside v.zeros;
        before = λ f l.
            left_other place value inside f (omega (arith, here, l, inside)) (λ same. omega (arith, here, same, l)) ∙ v.before f (omega (arith, here, was, l));
        one = left_other place value inside free in_columns (λ same. omega (arith, same, early)) ∙ v.one;
        behind = λ f l m. left_other place value inside f m (λ same. omega (arith, same, l, early)) ∙ v.behind f l m;
        solved = λ q from l. elim (cases_eq q place) [
          | inl same ↦ rw same (left_own place value inside (at others place) zero (echelon.ones place early) value_is)
          | inr apart ↦
              let later : place < q = omega (arith, here, from, apart) in
              left_kept place value inside (at others q) zero (echelon.zeros q place (omega (arith, l, echelon.fits)) later early)
              ∙ v.solved q (omega (arith, was, later)) l
        ];
      }

  -- ---- a pivot's entry

  module _ (p value : ℕ) (inside : p < pivots) where
    abbrev next : List ℕ
    next = set old (at e.peeling.order p) value

    abbrev column : ℕ
    column = at e.peeling.order p

    within : p < width
    within = omega (arith, inside, e.few_pivots)

    column_within : column < width
    column_within = (peels.peeled.columns.ordered p within).0

    -- inactive entries stay
    inactive_same : (f : ℕ) → f < inactive_count e.peeling → inactive_entry e.peeling next f ≡ inactive_entry e.peeling old f
    inactive_same f l = set_place p value within (pivots + f) (omega (arith, l)) (λ same. omega (arith, same, inside))

    pub pivot_left : SolvesLeftRows e.peeling others table old → SolvesLeftRows e.peeling others table next
    pivot_left solves = record {
      count = set_count p value within;
      rows = λ q l. dot_same octets (inactive_count e.peeling) (entry_of table (at (others) q)) (entry_of table (at (others) q)) (inactive_entry e.peeling next) (inactive_entry e.peeling old) (λ f m. refl) inactive_same ∙ solves.rows q l;
      place = solves.place;
      below = solves.below;
      nonzero = λ zero. solves.nonzero (sym (inactive_same solves.place solves.below) ∙ zero);
    }

    pub pivot_zeros : HasZerosAtPivots e.peeling p old → HasZerosAtPivots e.peeling (p + 1) next
    pivot_zeros zeros q from l = set_place p value within q (omega (arith, l, e.few_pivots)) (λ same. omega (arith, same, from)) ∙ zeros q (omega (arith, from)) l

    -- a row of bits has 1 where it has a one, and 0 elsewhere
    row_within : (q : ℕ) → q < pivots → at e.peeling.rows q < length e.ones
    row_within q l = peels.peeled.in_rows.below q l

    none_before : (q : ℕ) → q < p → one_in e.ones (at e.peeling.rows q) column ≡ 0
    none_before q l = count_absent (ones_of e.ones (at e.peeling.rows q)) column (peels.peeled.later q p l inside)

    -- the sum at its ones
    sum_is : IsColumn octets width (at old) → sum_listed (plain octets) (ones_of e.ones (at e.peeling.rows p)) (at old) ≡ dot octets width (one_in e.ones (at e.peeling.rows p)) (at old)
    sum_is elements =
        let ones = ones_of e.ones (at e.peeling.rows p) in
        sum_listed_is octets width ones (at old) (peels.bits.within (at e.peeling.rows p) (row_within p inside)) elements
        ∙ dot_same octets width (parity ones) (one_in e.ones (at e.peeling.rows p)) (at old) (at old) (λ k l. parity_once ones k (peels.bits.once (at e.peeling.rows p) k (row_within p inside) l)) (λ k l. refl)

    pub pivot_solves : IsColumn octets width (at old) → HasZerosAtPivots e.peeling p old → value ≡ sum_listed (plain octets) (ones_of e.ones (at e.peeling.rows p)) (at old) → SolvesPivotRows e p old → SolvesPivotRows e (p + 1) next
    pivot_solves elements zeros is solves q l =
        let zero = zeros p (omega arith) inside in
        elim (cases_eq q p) [
          | inl same ↦ rw same (dot_own octets width column (at old) (at next) column_within zero (λ k m apart. set_other p value within k apart) (one_in e.ones (at e.peeling.rows p)) (own_one peels.bits peels.peeled inside) (set_here p value within ∙ is ∙ sum_is elements))
          | inr apart ↦ dot_kept octets width column (at old) (at next) column_within zero (λ k m d. set_other p value within k d) (one_in e.ones (at e.peeling.rows q)) (none_before q (omega (arith, l, apart))) ∙ solves q (omega (arith, l, apart))
        ]
