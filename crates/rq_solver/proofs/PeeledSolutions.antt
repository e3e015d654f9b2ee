-- What the elimination over peeled rows has found when it ends.
use Rattle.std.proofs.Common.{◌≡◌, ◌≢◌, ◌⊎◌, ℕ, suc, ◌+◌, ◌-◌, ◌<◌, ◌≤◌, ◌==◌, if◌then◌else◌, Bool, false, List, [], ◌∷◌, ◌++◌, Contains, get_or, map, length, refl, sym, ap, ◌∙◌, arith, inl, inr}
use Rattle.std.specs.List.{range_with_len}
use Rattle.std.specs.List.Sorted.{IsPermutation}
use Rattle.std.proofs.lemmas.Bool.{both_ways, cases_eq, cases_lt}
use Rattle.std.proofs.lemmas.List.{get_or-append-add, get_or-map, get_or_append_left, get_or_default, length-map}
use Rattle.std.proofs.lemmas.List.Elements.{All-append, Contains-get_or}
use Rattle.std.proofs.lemmas.List.Sorted.{Contains-permutation, IsPermutation-sym}
use Rattle.rq_algebra.specs.Arrangements.{ArePlaces, IsFewOn}
use Rattle.rq_algebra.specs.PivotColumns.{ReadsPivots, HasFirstPivots}
use Rattle.rq_algebra.specs.Following.{Follows}
use Rattle.rq_algebra.specs.Operations.{Operation, Reorder, FindsColumn}
use Rattle.rq_algebra.specs.Systems.{at, dot, HasElements, HasHomogeneousColumn, IsColumn, IsHomogeneousColumn, Solves}
use Rattle.rq_algebra.proofs.FewEquations.{homogeneous_of_few}
use Rattle.rq_algebra.proofs.FewPlaces.{dot_places}
use Rattle.rq_algebra.proofs.Pivots.{finds_by_pivots, homogeneous_back, zeros_back}
use Rattle.rq_algebra.proofs.Reduction.{pivots_of_first}
use Rattle.rq_algebra.proofs.OperationRuns.{follows_none}
use Rattle.rq_algebra.proofs.Sums.{dot_same, dot_split, dot_zero, zero_mul}
use Rattle.rq_standard.specs.OctetField.{octets}
use Rattle.rq_parts.specs.DenseOctetMatrix.{entry_of}
use Rattle.rq_solver.specs.FirstPhase.{HasPeeledPivots}
use Rattle.rq_solver.specs.FourthPhase.{FinishesAllPivots, IsFinished}
use Rattle.rq_solver.specs.ThirdPhase.{HasMark, HasNoMark, Sparsifies}
use Rattle.rq_solver.specs.LeftRows.{ListsRows}
use Rattle.rq_solver.specs.Peeled.{inactive_count, IsUnderWay}
use Rattle.rq_solver.specs.PivotAdditions.{IsCleared}
use Rattle.rq_solver.specs.SecondPhase.{AreUnits, SubstitutesBack}
use Rattle.rq_matrix.specs.Orders.{IsOrderOf}
use Rattle.rq_elimination.specs.RecordedRows.{ChangesRows}
use Rattle.rq_elimination.specs.declared.recorded.RecordedRows.{RecordedRows}
use Rattle.rq_elimination.specs.RowSteps.{AreStepsBelow, IsEchelon, IsStuck, IsStepAmong, rows_after}
use Rattle.rq_elimination.proofs.Performing.{changes_keep, logs_more, logs_performed, logs_recorded, shows_after, Logs}
use Rattle.rq_algebra.proofs.Choices.{if_same, if_apart}
use Rattle.rq_solver.proofs.PivotsCleared.{left_below, left_apart, pivot_or_left}
use Rattle.rq_elimination.proofs.RowStepLaws.{rows_after-elements, follows_steps}
use Rattle.rq_elimination.proofs.StepColumns.{rows_after-apart, rows_after-next, Contains-range}
use Rattle.rq_solver.specs.declared.pi_solver.peeled.Peeled.{Peeled}
use Rattle.rq_solver.proofs.StepDots.{rows_after-says}
use Rattle.rq_solver.proofs.StepsToRows.{stays}

-- what was recorded for steps among all rows does to values what it did to the rows
module _ (height width : ℕ) (system : ℕ → ℕ → ℕ) (steps : List Operation) (among : AreStepsBelow octets height steps) (small : HasElements octets height width system) where
  pub steps_follow : Follows octets height width system (rows_after octets steps system) steps
  steps_follow = follows_steps octets height width steps system system [] among small (follows_none octets height width system)

  pub steps_elements : HasElements octets height width (rows_after octets steps system)
  steps_elements = rows_after-elements octets height width steps system among small

module _ (p : Peeled) (left : List ℕ) (middle : RecordedRows) (under : IsUnderWay p left middle) (listing : ListsRows (length p.ones) p.peeling.rows left)
    (system : ℕ → ℕ → ℕ) (peeled : HasPeeledPivots (length p.ones) (length p.peeling.places) system p.peeling left middle)
    (last : RecordedRows) (changes : ChangesRows left middle last) (inactive_rows : List ℕ) (permuted : IsPermutation left inactive_rows) where
  abbrev height : ℕ
  height = length p.ones

  abbrev rows : List ℕ
  rows = p.peeling.rows

  abbrev order : List ℕ
  order = p.peeling.order

  abbrev places : List ℕ
  places = p.peeling.places

  abbrev width : ℕ
  width = length places

  abbrev pivots : ℕ
  pivots = length rows

  abbrev inactive : ℕ
  inactive = inactive_count p.peeling

  wide : pivots + inactive ≡ width
  wide = omega (arith, under.pivots.peeled.peeled.few)

  narrow : inactive ≤ middle.table.width
  narrow = omega (arith, under.pivots.wide)

  arranged : IsOrderOf width order places
  arranged = under.pivots.peeled.peeled.columns

  abbrev mid : ℕ → ℕ → ℕ
  mid = rows_after octets middle.operations system

  abbrev steps : List Operation
  steps = middle.operations ++ changes.steps

  abbrev meant : ℕ → ℕ → ℕ
  meant = rows_after octets steps system

  among : AreStepsBelow octets height steps
  among = All-append (IsStepAmong octets (range_with_len 0 height)) middle.operations changes.steps peeled.among (rw peeled.height_is at changes.performs.among)

  -- the pivots' columns stay as they were when the inactive ones get pivots
  kept : (p r : ℕ) → p < pivots → meant r (at order p) ≡ mid r (at order p)
  kept p r l = rows_after-next octets middle.operations changes.steps system r (at order p) ∙ changes_keep left changes.steps changes.within mid (at order p) (λ q c. peeled.others q p c l) r

  inactive_at : (r f : ℕ) → r < height → f < inactive → meant r (at order (pivots + f)) ≡ entry_of last.table r f
  inactive_at r f l n =
      rows_after-next octets middle.operations changes.steps system r (at order (pivots + f))
      ∙ sym (shows_after changes.steps middle last mid (λ g. at order (length rows + g)) inactive narrow changes.performs (λ i g o u. peeled.shows i g (rw peeled.height_is at o) (omega arith)) r f (rw peeled.height_is l) n)

  -- ---- rows in the order of their pivots' columns

  abbrev placed : List ℕ
  placed = rows ++ inactive_rows

  abbrev ordered_row : ℕ → ℕ
  ordered_row = at placed

  of_pivot : (q : ℕ) → q < pivots → ordered_row q ≡ at rows q
  of_pivot q l = get_or_append_left rows inactive_rows 0 q l

  of_left : (q : ℕ) → ordered_row (pivots + q) ≡ at inactive_rows q
  of_left q = get_or-append-add rows inactive_rows q 0

  in_left : (q : ℕ) → q < length inactive_rows → Contains left (at inactive_rows q)
  in_left q l = Contains-permutation inactive_rows left (at inactive_rows q) (IsPermutation-sym left inactive_rows permuted) (Contains-get_or inactive_rows q 0 l)

  reduced_below : (q : ℕ) → q < length inactive_rows → at inactive_rows q < height
  reduced_below q l = left_below height rows left listing (at inactive_rows q) (in_left q l)

  pivot_below : (p : ℕ) → p < pivots → at rows p < height
  pivot_below p l = under.pivots.peeled.peeled.in_rows.below p l

  apart : (p q : ℕ) → p < pivots → q < length inactive_rows → at rows p ≢ at inactive_rows q
  apart p q l n = left_apart height rows left listing (at inactive_rows q) p (in_left q n) l

  pivot_pivot : (i p : ℕ) → i < pivots → p < pivots → meant (at rows i) (at order p) ≡ (if at rows p == at rows i then 1 else 0)
  pivot_pivot i p l n = kept p (at rows i) n ∙ (peeled.pivots i l).entries p n

  left_pivot : (r p : ℕ) → Contains left r → p < pivots → meant r (at order p) ≡ 0
  left_pivot r p c l = kept p r l ∙ peeled.others r p c l

  -- each row is a pivot's, or one of those that are left
  row_found : (i : ℕ) → i < height → ((p : ℕ) × (p < pivots) × (at rows p ≡ i)) ⊎ ((q : ℕ) × (q < length inactive_rows) × (at inactive_rows q ≡ i))
  row_found i l = elim (pivot_or_left height rows left listing i l) [
    | inl p ↦ inl p
    | inr c ↦ let d = Contains-permutation left inactive_rows i permuted c in inr (d.0, d.1, get_or_default inactive_rows d.0 0 i d.1 ∙ d.2)
  ]

  row_below : (p : ℕ) → p < pivots + length inactive_rows → ordered_row p < height
  row_below p l = elim (cases_lt p pivots) [
    | inl early ↦ rw (of_pivot p early) (pivot_below p early)
    | inr late ↦
        let q : ℕ = p - pivots in
        let there : pivots + q ≡ p = omega arith in
        rw (← there, of_left q) (reduced_below q (omega arith))
  ]

  -- columns stand at one place each
  columns_apart : (n : ℕ) → n ≤ width → ArePlaces n width (at order)
  columns_apart n l = record {
    below = λ j o. (arranged.ordered j (omega arith)).0;
    apart = λ i j o u e. sym (arranged.ordered i (omega arith)).1 ∙ ap (at places) e ∙ (arranged.ordered j (omega arith)).1;
  }

  -- ---- an inactive column without a pivot

  module _ (stuck : IsStuck inactive_rows inactive last.table) where
    -- a row that is none of those with pivots stands behind them
    behind : (i : ℕ) → i < height → ((p : ℕ) → p < pivots + stuck.done → ordered_row p ≢ i) → (q : ℕ) × (stuck.done ≤ q) × (q < length inactive_rows) × (at inactive_rows q ≡ i)
    behind i l free = elim (row_found i l) [
      | inl p ↦ absurd (free p.0 (omega (arith, p.1)) (of_pivot p.0 p.1 ∙ p.2))
      | inr q ↦ elim (cases_lt q.0 stuck.done) [
        | inl done ↦ absurd (free (pivots + q.0) (omega arith) (of_left q.0 ∙ q.2))
        | inr undone ↦ (q.0, undone, q.1, q.2)
      ]
    ]

    nothing_behind : (q j : ℕ) → stuck.done ≤ q → q < length inactive_rows → j < suc (pivots + stuck.done) → meant (at inactive_rows q) (at order j) ≡ 0
    nothing_behind q j from l n = elim (cases_lt j pivots) [
      | inl early ↦ left_pivot (at inactive_rows q) j (in_left q l) early
      | inr late ↦
          let f : ℕ = j - pivots in
          let back : pivots + f ≡ j = omega arith in
          let inside : f < inactive = omega (arith, stuck.below) in
          ap (λ (k : ℕ). meant (at inactive_rows q) (at order k)) (sym back) ∙ inactive_at (at inactive_rows q) f (reduced_below q l) inside
          ∙ elim (cases_eq f stuck.done) [
            | inl e ↦ ap (entry_of last.table (at inactive_rows q)) e ∙ stuck.empty q from l
            | inr d ↦ stuck.echelon.zeros q f l (omega arith) (omega arith)
          ]
    ]

    few : IsFewOn height width (pivots + stuck.done) meant ordered_row (at order)
    few = record {
      rows_below = λ p l. row_below p (omega (arith, l, stuck.echelon.fits, stuck.below));
      columns_are = columns_apart (suc (pivots + stuck.done)) (omega (arith, stuck.below));
      zeros = λ i l free j n. let b = behind i l free in rw (← b.3) (nothing_behind b.0 j b.1 b.2 n);
    }

    pub homogeneous_of_peeled : HasHomogeneousColumn octets height width system
    homogeneous_of_peeled = homogeneous_back octets height width system meant steps (steps_follow height width system steps among peeled.elements) (homogeneous_of_few octets height width (pivots + stuck.done) meant ordered_row (at order) (steps_elements height width system steps among peeled.elements) few)

  -- ---- a column that solves the pivots' rows as they were handed in, and those that are left as they are now

  module _ (column : List ℕ) (alone : (m : ℕ → ℕ → ℕ) (k : ℕ) → ((p : ℕ) → p < pivots → m (at rows p) k ≡ 0) → (p : ℕ) → p < pivots → rows_after octets middle.operations m (at rows p) k ≡ m (at rows p) k)
      (handed : (p : ℕ) → p < pivots → dot octets width (system (at rows p)) (at column) ≡ 0)
      (now : (q : ℕ) → q < length inactive_rows → dot octets inactive (entry_of last.table (at inactive_rows q)) (λ f. at column (at order (pivots + f))) ≡ 0) where
    abbrev says : ℕ → ℕ → ℕ
    says i k = dot octets width (system i) (at column)

    -- a pivot's row took no rows but those of pivots
    pivot_says : (p : ℕ) → p < pivots → dot octets width (meant (at rows p)) (at column) ≡ 0
    pivot_says p l =
        let all : List ℕ = range_with_len 0 height in
        sym (rows_after-says octets all width 0 (at column) steps says system among (λ i c. refl)
        (at rows p) (Contains-range height (at rows p) (pivot_below p l)))
        ∙ rows_after-next octets middle.operations changes.steps says (at rows p) 0
        ∙ rows_after-apart octets left changes.steps (rows_after octets middle.operations says) changes.within (at rows p) 0 (λ c. left_apart height rows left listing (at rows p) p c l refl)
        ∙ alone says 0 handed p l ∙ handed p l

    left_says : (q : ℕ) → q < length inactive_rows → dot octets width (meant (at inactive_rows q)) (at column) ≡ 0
    left_says q l =
        let r : ℕ = at inactive_rows q in
        let row : ℕ → ℕ = λ k. meant r (at order k) in
        let entries : ℕ → ℕ = λ k. at column (at order k) in
        let first : dot octets pivots row entries ≡ 0 = dot_zero octets pivots row entries (λ p m. ap (λ (v : ℕ). octets.mul v (entries p)) (left_pivot r p (in_left q l) m) ∙ zero_mul octets (entries p)) in
        let second : dot octets inactive (λ f. row (pivots + f)) (λ f. entries (pivots + f)) ≡ 0 = dot_same octets inactive _ (entry_of last.table r) _ _ (λ f m. inactive_at r f (reduced_below q l) m) (λ f m. refl) ∙ now q l in
        let whole : dot octets (pivots + inactive) row entries ≡ 0 = dot_split octets pivots inactive row entries ∙ cc (first, second, octets.zero_add 0) in
        sym (dot_places octets width (meant r) (at column) (at order) (columns_apart width (omega arith))) ∙ rw wide at whole

    meant_solved : Solves octets height width meant (at column) (λ _. 0)
    meant_solved = record {
      at = λ i l. elim (row_found i l) [ inl p ↦ rw (← p.2) (pivot_says p.0 p.1) | inr q ↦ rw (← q.2) (left_says q.0 q.1) ];
    }

    pub shown_by_peeled : length column ≡ width → IsColumn octets width (at column) → (index : ℕ) → index < width → at column index ≢ 0 → IsHomogeneousColumn octets height width system column
    shown_by_peeled count elements index below nonzero =
        record { count = count; elements = elements; solves = zeros_back octets height width system meant steps (steps_follow height width system steps among peeled.elements) (at column) meant_solved; index = index; below = below; nonzero = nonzero }

  -- ---- all columns with pivots

  module _ (marks : List Bool) (returned reduced_state final : RecordedRows) (echelon : IsEchelon inactive_rows inactive last.table)
      (back : Sparsifies p marks 0 last returned) (reduces : SubstitutesBack inactive_rows inactive 0 returned reduced_state)
      (finishes : FinishesAllPivots p inactive_rows marks reduced_state final) where
    abbrev late_steps : List Operation
    late_steps = back.steps ++ (reduces.steps ++ finishes.steps)

    abbrev all_steps : List Operation
    all_steps = steps ++ late_steps

    abbrev ended : ℕ → ℕ → ℕ
    ended = rows_after octets all_steps system

    -- when pivots' rows have taken back what they took, and when the rows that are left are reduced
    abbrev given : ℕ → ℕ → ℕ
    given = rows_after octets back.steps meant

    abbrev between : ℕ → ℕ → ℕ
    between = rows_after octets reduces.steps given

    late : Logs late_steps last final
    late =
        let more = logs_more _ _ returned reduced_state final (logs_recorded reduces.done) (logs_recorded finishes.done) in
        logs_more _ _ last returned final (logs_performed back.done) more

    all_among : AreStepsBelow octets height all_steps
    all_among = All-append (IsStepAmong octets (range_with_len 0 height)) steps late_steps among (rw (changes.performs.height, peeled.height_is) at late.among)

    all_recorded : final.operations ≡ all_steps
    all_recorded = late.recorded ∙ ap (λ (l : List Operation). l ++ late_steps) changes.performs.recorded

    ended_is : (r k : ℕ) → ended r k ≡ rows_after octets finishes.steps between r k
    ended_is r k = rows_after-next octets steps late_steps system r k ∙ rows_after-next octets back.steps (reduces.steps ++ finishes.steps) meant r k ∙ rows_after-next octets reduces.steps finishes.steps given r k

    fits : (q : ℕ) → q < inactive → q < length inactive_rows
    fits q l = omega (arith, echelon.fits)

    given_at : (r f : ℕ) → r < height → f < inactive → given r (at order (pivots + f)) ≡ entry_of returned.table r f
    given_at r f l n =
        let tall : length last.table.rows ≡ height = changes.performs.height ∙ peeled.height_is in
        sym (shows_after back.steps last returned meant (λ g. at order (length rows + g)) inactive (rw changes.performs.width narrow) back.done (λ i g o u. sym (inactive_at i g (rw tall at o) u)) r f (rw tall l) n)

    -- the rows that are left take no part in that
    given_left : (q k : ℕ) → q < length inactive_rows → given (at inactive_rows q) k ≡ meant (at inactive_rows q) k
    given_left q k l = stays back meant (at inactive_rows q) k (λ c. apart c.0 q c.2 l c.4)

    given_zero : (f p : ℕ) → f < inactive → p < pivots → given (at inactive_rows f) (at order p) ≡ 0
    given_zero f p l n = given_left f (at order p) (fits f l) ∙ left_pivot (at inactive_rows f) p (in_left f (fits f l)) n

    -- the reduced rows stay
    ended_reduced : (q k : ℕ) → q < length inactive_rows → ended (at inactive_rows q) k ≡ between (at inactive_rows q) k
    ended_reduced q k l = ended_is (at inactive_rows q) k ∙ stays finishes between (at inactive_rows q) k (λ c. apart c.0 q c.1 l c.2)

    between_pivot : (r p : ℕ) → p < pivots → between r (at order p) ≡ given r (at order p)
    between_pivot r p l = (reduces.effect given).kept r (at order p) (λ f n. given_zero f p n l)

    units : AreUnits inactive_rows 0 inactive (λ f. at order (length rows + f)) between
    units = (reduces.effect given).units (λ f. at order (length rows + f)) (λ t f l n. given_at (at inactive_rows t) f (reduced_below t (fits t l)) n)

    between_row : (p k : ℕ) → p < pivots → between (at rows p) k ≡ given (at rows p) k
    between_row p k l = stays reduces given (at rows p) k (λ c. apart p c.0 l (fits c.0 c.1) (sym c.2))

    meant_cleared : (p : ℕ) → p < pivots → IsCleared rows order meant (at rows p)
    meant_cleared p l = record { entries = λ i n. pivot_pivot p i l n }

    unmarked_apart : (q s : ℕ) → q < pivots → s < pivots → HasNoMark marks q → HasMark marks s → at rows s ≢ at rows q
    unmarked_apart q s l n unset set e =
        let same = under.pivots.peeled.peeled.in_rows.apart s q n l e in
        both_ways (get_or marks s false) (ap (λ (t : ℕ). get_or marks t false) same ∙ unset) set

    finished : (q : ℕ) → q < pivots → IsFinished p.peeling (λ f. at order (length rows + f)) (rows_after octets finishes.steps between) (at rows q)
    finished i l = finishes.effect between (λ f. at order (length rows + f)) (record {
      units = units;
      zeros = λ f i n o. between_pivot (at inactive_rows f) i o ∙ given_zero f i n o;
      shown = λ q f n o. between_row q (at order (pivots + f)) n ∙ given_at (at rows q) f (pivot_below q n) o
          ∙ ap (λ table. entry_of table (at rows q) f) (sym reduces.done.table);
      plain = λ q n e.
          record { entries = λ i o. between_row q _ n ∙ stays back meant (at rows q) _ (λ c. unmarked_apart q c.0 n c.2 e c.3 c.4) ∙ pivot_pivot q i n o };
      raw = λ q n e. record { entries = λ i o. between_row q (at order i) n ∙ (back.effect meant meant_cleared q (omega arith) n e).entries i o };
    }) i l

    cleared : (p f : ℕ) → p < pivots → f < inactive → ended (at rows p) (at order (pivots + f)) ≡ 0
    cleared p f l n = ended_is (at rows p) (at order (pivots + f)) ∙ (finished p l).zeros f n

    ended_own : (i p : ℕ) → i < pivots → p < pivots → ended (at rows i) (at order p) ≡ (if at rows p == at rows i then 1 else 0)
    ended_own i p l n = ended_is (at rows i) (at order p) ∙ (finished i l).cleared.entries p n

    -- the part of a place among the inactive columns
    inactive_place : (p : ℕ) → p < width → pivots ≤ p → (q : ℕ) × (q < inactive) × (pivots + q ≡ p)
    inactive_place p l late = (p - pivots, (omega arith), (omega arith))

    row_one : (p : ℕ) → p < width → ended (ordered_row p) (at order p) ≡ 1
    row_one p l = elim (cases_lt p pivots) [
      | inl early ↦ ap (λ (r : ℕ). ended r (at order p)) (of_pivot p early) ∙ ended_own p p early early ∙ if_same (at rows p) (at rows p) 1 0 refl
      | inr late ↦
          let f = inactive_place p l late in
          rw (← f.2) (
          ap (λ (r : ℕ). ended r (at order (pivots + f.0))) (of_left f.0)
          ∙ ended_reduced f.0 (at order (pivots + f.0)) (fits f.0 f.1)
          ∙ units f.0 f.0 (omega arith) f.1 f.1
          ∙ if_same f.0 f.0 1 0 refl)
    ]

    row_zero : (i p : ℕ) → i < width → p < width → i ≢ p → ended (ordered_row i) (at order p) ≡ 0
    row_zero i p l n d = elim (cases_lt i pivots) [
      | inl early ↦ ap (λ (r : ℕ). ended r (at order p)) (of_pivot i early) ∙ elim (cases_lt p pivots) [
        | inl first_p ↦ ended_own i p early first_p ∙ if_apart (at rows p) (at rows i) 1 0 (λ e. d (sym (under.pivots.peeled.peeled.in_rows.apart p i first_p early e)))
        | inr late_p ↦ let f = inactive_place p n late_p in rw (← f.2) (cleared i f.0 early f.1)
      ]
      | inr late ↦
          let q = inactive_place i l late in
          rw (← q.2) (
          ap (λ (r : ℕ). ended r (at order p)) (of_left q.0) ∙ ended_reduced q.0 (at order p) (fits q.0 q.1) ∙ elim (cases_lt p pivots) [
            | inl first_p ↦ between_pivot (at inactive_rows q.0) p first_p ∙ given_zero q.0 p q.1 first_p
            | inr late_p ↦
                let f = inactive_place p n late_p in
                let other : q.0 ≢ f.0 = (λ e. d (sym q.2 ∙ ap (λ (g : ℕ). pivots + g) e ∙ f.2)) in
                rw (← f.2) (units q.0 f.0 (omega arith) q.1 f.1 ∙ if_apart q.0 f.0 1 0 other)
          ])
    ]

    -- the rows that are left behind the reduced ones are zeros
    behind_apart : (t q : ℕ) → t < inactive → inactive ≤ q → q < length inactive_rows → at inactive_rows t ≢ at inactive_rows q
    behind_apart t q l late n e =
        let z : 1 ≡ 0 = sym (echelon.ones t l) ∙ ap (λ (r : ℕ). entry_of last.table r t) e ∙ echelon.zeros q t n (omega arith) l in
        absurd (omega (arith, z))

    behind_zero : (q p : ℕ) → inactive ≤ q → q < length inactive_rows → p < width → ended (at inactive_rows q) (at order p) ≡ 0
    behind_zero q p late l n =
        ended_reduced q (at order p) l ∙ stays reduces given (at inactive_rows q) _ (λ c. behind_apart c.0 q c.1 late l c.2) ∙ given_left q (at order p) l
        ∙ elim (cases_lt p pivots) [
          | inl early ↦ left_pivot (at inactive_rows q) p (in_left q l) early
          | inr late_p ↦
              let f = inactive_place p n late_p in
              rw (← f.2) (inactive_at (at inactive_rows q) f.0 (reduced_below q l) f.1 ∙ echelon.zeros q f.0 l (omega (arith, f.1)) f.1)
        ]

    rest_zero : (i p : ℕ) → i < height → ((q : ℕ) → q < width → ordered_row q ≢ i) → p < width → ended i (at order p) ≡ 0
    rest_zero i p l free n = elim (row_found i l) [
      | inl q ↦ absurd (free q.0 (omega (arith, q.1, wide)) (of_pivot q.0 q.1 ∙ q.2))
      | inr q ↦ elim (cases_lt q.0 inactive) [
        | inl taken ↦ absurd (free (pivots + q.0) (omega (arith, wide)) (of_left q.0 ∙ q.2))
        | inr late ↦ rw (← q.2) (behind_zero q.0 p late q.1 n)
      ]
    ]

    -- rows with 1 in different columns, and 0 in the others', are different
    all_rows_are : ArePlaces width height ordered_row
    all_rows_are = record {
      below = λ p l. row_below p (omega (arith, l, wide, echelon.fits));
      apart = λ i p l n e. elim (cases_eq i p) [
        | inl same ↦ same
        | inr d ↦ let z : 0 ≡ 1 = sym (row_zero i p l n d) ∙ ap (λ (r : ℕ). ended r (at order p)) e ∙ row_one p n in absurd (omega (arith, z))
      ];
    }

    reads : ReadsPivots width ordered_row (at order) (map (at placed) places)
    reads = record {
      count = length-map places (at placed) ∙ arranged.place_count;
      reads = λ q l. get_or-map (at placed) places (at order q) 0 0 (omega (arith, arranged.place_count, (arranged.ordered q l).0)) ∙ ap (at placed) (arranged.ordered q l).1;
    }

    pub finds_by_peeled : FindsColumn octets height width system (final.operations ++ Reorder (map (at placed) places) ∷ [])
    finds_by_peeled = rw all_recorded (
        let firsts : HasFirstPivots width width ended ordered_row (at order) = record { ones = row_one; zeros = row_zero } in
        finds_by_pivots octets height width system ended all_steps (steps_follow height width system all_steps all_among peeled.elements) ordered_row (at order) (pivots_of_first octets height width width ended ordered_row (at order) all_rows_are (omega arith) (columns_apart width (omega arith)) firsts rest_zero) (map (at placed) places) reads)
