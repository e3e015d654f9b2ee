-- HDPC rows take one another, factors, and rows of pivots.
use Rattle.std.proofs.Common.{◌≡◌, ◌≢◌, ℕ, ◌+◌, ◌<◌, ◌≤◌, List, [], ◌∷◌, length, refl, sym, ap, ◌∙◌, arith, inl, inr, lit<}
use Rattle.std.proofs.lemmas.Bool.{cases_eq, cases_lt}
use Rattle.rq_algebra.specs.Operations.{MulAssign}
use Rattle.rq_algebra.specs.Steps.{AddsRow, ScalesRow}
use Rattle.rq_algebra.specs.Systems.{at, HasElements}
use Rattle.rq_algebra.proofs.Sums.{mul_zero}
use Rattle.rq_standard.specs.OctetField.{octets}
use Rattle.rq_solver.specs.HdpcOctets.{ClearsOctets, AreOctetsIn, HasPivotsBeside, PivotsAreCleared, ShowHdpcOctets, CombinesOctets, ChangesOctets, HaveZeros, octets_from, with_zeros}
use Rattle.rq_elimination.specs.RecordedRows.{Performs}
use Rattle.rq_elimination.specs.RowSteps.{sum_step}
use Rattle.rq_elimination.specs.declared.recorded.RecordedRows.{RecordedRows}
use Rattle.rq_elimination.proofs.Performing.{scaling-here, performs_none, performs_more}
use Rattle.rq_algebra.proofs.Choices.{if_same, if_apart}
use Rattle.rq_solver.proofs.OctetSums.{plus_zero_times, plus_own}
use Rattle.rq_solver.proofs.PivotsTaken.{cleared_small}
use Rattle.rq_solver.proofs.StepsToRows.{Effects, HasAdded, takes_more, takes_none, takes_one, takes_same, takes_sum}
use Rattle.rq_solver.proofs.Substitution.{sum_keeps}
use Rattle.rq_solver.specs.TakenSteps.{TakesSteps}
use Rattle.rq_solver.proofs.OctetColumns.{before_column, zero_here, same_beside, same_behind, zeros_in_all}

-- ---- steps among the HDPC rows

module _ {first count width : ℕ} where
  pub combines_none : {octet : ℕ → ℕ → ℕ} {state : RecordedRows} → CombinesOctets first count width octet octet state state
  combines_none {state} = takes_none (performs_none state) (λ m. record { shown = λ l k n had. had; kept = λ k zeros. zeros })

  module _ {was now : ℕ → ℕ → ℕ} {old new : RecordedRows} where
    pub combines_more : {after : ℕ → ℕ → ℕ} {last : RecordedRows} → CombinesOctets first count width was now old new
        → CombinesOctets first count width now after new last → CombinesOctets first count width was after old last
    combines_more {last} done next = takes_more done next (performs_more _ _ old new last) (λ r c. c) (λ r c. c) (λ m after w. record {
      shown = λ l k n had. w.second.shown l k n (w.first.shown l k n had);
      kept = λ k zeros. w.second.kept k (w.first.kept k zeros);
    })

    module _ (are : HasElements octets count width was) (dest row scalar : ℕ) (in_dest : dest < count) (row_is : row ≡ first + dest) where
      -- one step that changes this row alone
      combines_step : {E : Effects} → TakesSteps Performs (λ r. r ≡ row) E old new → ((i k : ℕ) → i < count → k < width → i ≢ dest → now i k ≡ was i k)
          → ((m after : ℕ → ℕ → ℕ) → E m after → (l k : ℕ) → k < width → ((i : ℕ) → i < count → m (first + i) l ≡ was i k) → after row l ≡ now dest k)
          → ((m after : ℕ → ℕ → ℕ) → E m after → (k : ℕ) → HaveZeros first count m k → after row k ≡ 0) → CombinesOctets first count width was now old new
      combines_step v others here zero = takes_same v (λ r e. (dest, in_dest, sym (e ∙ row_is))) (λ m after stays e. record {
        shown = λ l k n had i o. elim (cases_eq i dest) [
          | inl f ↦ rw (f, ← row_is) (here m after e l k n had)
          | inr d ↦ stays (first + i) l (λ f. d (omega (arith, f, row_is))) ∙ had i o ∙ sym (others i k o n d)
        ];
        kept = λ k zeros i o. elim (cases_eq i dest) [
          | inl f ↦ rw (f, ← row_is) (zero m after e k zeros)
          | inr d ↦ stays (first + i) k (λ f. d (omega (arith, f, row_is))) ∙ zeros i o
        ];
      })

      pub combines_sum : (src from : ℕ) → src < count → from ≡ first + src → AddsRow octets count width dest src scalar was now
          → Performs (sum_step row from scalar ∷ []) old new → CombinesOctets first count width was now old new
      combines_sum src from in_src from_is adds performs =
          combines_step (takes_sum row from scalar performs) adds.elsewhere
          (λ m after taken l k n had.
          let other : m from l ≡ was src k = ap (λ (r : ℕ). m r l) from_is ∙ had src in_src in
          let own : m row l ≡ was dest k = ap (λ (r : ℕ). m r l) row_is ∙ had dest in_dest in
          taken l (rw other (are src k in_src n)) ∙ cc (own, other, adds.at_dest k n))
          (λ m after taken k zeros.
          let other : m from k ≡ 0 = ap (λ (r : ℕ). m r k) from_is ∙ zeros src in_src in
          taken k (rw other (lit< tt)) ∙ plus_zero_times (m row k) scalar (m from k) other ∙ ap (λ (r : ℕ). m r k) row_is ∙ zeros dest in_dest)

      pub combines_scaling : ScalesRow octets count width dest scalar was now → Performs (MulAssign row scalar ∷ []) old new
          → CombinesOctets first count width was now old new
      combines_scaling scales performs =
          combines_step
          (takes_one {P = λ r. r ≡ row} {E = λ m after. (k : ℕ) → after row k ≡ octets.mul scalar (m row k)} _ refl performs (scaling-here row scalar))
          scales.elsewhere
          (λ m after scaled l k n had. let own : m row l ≡ was dest k = ap (λ r. m r l) row_is ∙ had dest in_dest in scaled l ∙ cc (own, scales.at_dest k n))
          (λ m after scaled k zeros. scaled k ∙ ap (octets.mul scalar) (ap (λ (r : ℕ). m r k) row_is ∙ zeros dest in_dest) ∙ mul_zero octets scalar)

-- ---- steps with the pivots' rows

-- the rows still stand where they stood
pub octets_still : {first count : ℕ} {old new : RecordedRows} → AreOctetsIn first count old → length new.table.rows ≡ length old.table.rows
    → AreOctetsIn first count new
octets_still are heights = record { within = omega (arith, are.within, heights); fits = are.fits }

module _ {rows order : List ℕ} {first count : ℕ} where
  pub changes_no_octets : {octet : ℕ → ℕ → ℕ} {state : RecordedRows} → ChangesOctets rows order first count octet octet state state
  changes_no_octets {state} = takes_none (performs_none state) (λ m. record { shown = λ pivots had. had; kept = λ k none zeros. zeros })

  -- the octets matter in the pivots' columns alone
  pub changes_same : {was now after : ℕ → ℕ → ℕ} {old new : RecordedRows}
      → ((i p : ℕ) → i < count → p < length rows → now i (at order p) ≡ after i (at order p)) → ChangesOctets rows order first count was now old new
      → ChangesOctets rows order first count was after old new
  changes_same same changes = takes_same changes (λ r c. c) (λ m last stays e. record {
    shown = λ pivots had i p l n. e.shown pivots had i p l n ∙ same i p l n;
    kept = e.kept;
  })

module _ {rows order places : List ℕ} {first count width : ℕ} {old : RecordedRows} (beside : HasPivotsBeside rows order places first count width old) where
  pub beside_still : {new : RecordedRows} → length new.table.rows ≡ length old.table.rows → HasPivotsBeside rows order places first count width new
  beside_still heights = record { columns = beside.columns; few = beside.few; pivots = rw heights beside.pivots; apart = beside.apart }

  pub in_width : (p : ℕ) → p < length rows → at order p < width
  in_width p l = (beside.columns.ordered p (omega (arith, beside.few, l))).0

  module _ {was now : ℕ → ℕ → ℕ} {new : RecordedRows} where
    pub changes_combined : CombinesOctets first count width was now old new → ChangesOctets rows order first count was now old new
    changes_combined combines = takes_same combines (λ r c. c) (λ m after stays e. record {
      shown = λ pivots had i p l n. e.shown (at order p) (at order p) (in_width p n) (λ j o. had j p o n) i l;
      kept = λ k none. e.kept k;
    })

    pub changes_more_octets : {after : ℕ → ℕ → ℕ} {last : RecordedRows} → ChangesOctets rows order first count was now old new
        → ChangesOctets rows order first count now after new last → ChangesOctets rows order first count was after old last
    changes_more_octets {last} done next = takes_more done next (performs_more _ _ old new last) (λ r c. c) (λ r c. c) (λ m after w.
        let still = λ (p k : ℕ) (l : p < length rows). w.stays (at rows p) k (λ c. beside.apart c.0 p c.1 l c.2) in
        record {
          shown = λ pivots had. w.second.shown (λ q o. record { entries = λ j u. still q _ o ∙ (pivots q o).entries j u }) (w.first.shown pivots had);
          kept = λ k none zeros. w.second.kept k (λ p l. still p k l ∙ none p l) (w.first.kept k none zeros);
        })

  -- ---- the rows get 0 in a pivot's column, one after another

  module _ (octet : ℕ → ℕ → ℕ) (row place scalar : ℕ) (in_rows : row < count) (is_pivot : place < length rows) where
    abbrev now : ℕ → ℕ → ℕ
    now = with_zeros (at order place) (row + 1) octet

    abbrev was : ℕ → ℕ → ℕ
    was = with_zeros (at order place) row octet

    other_rows : (i k : ℕ) → i ≢ row → now i k ≡ was i k
    other_rows i k d = grind (arith, d)

    -- a row that has 0 there takes nothing
    module _ (zero : octet row (at order place) ≡ 0) where
      pub zeros_skipped : (i p : ℕ) → i < count → p < length rows → with_zeros (at order place) row octet i (at order p) ≡ with_zeros (at order place) (row + 1) octet i (at order p)
      zeros_skipped i p l n = grind (arith, zero)

    -- another takes its octet times the pivot's row
    module _ (small : scalar < 256) (scalar_is : scalar ≡ octet row (at order place)) where
      module _ (m after : ℕ → ℕ → ℕ) (taken : HasAdded (first + row) (at rows place) scalar m after) (pivots : PivotsAreCleared rows order m)
          (had : ShowHdpcOctets rows order first count was m) where
        had_octet : (p : ℕ) → p < length rows → m (first + row) (at order p) ≡ octet row (at order p)
        had_octet p l = had row p in_rows l ∙ same_behind (at order place) row octet row (at order p) (omega arith)

        next_row : (p : ℕ) → p < length rows → after (first + row) (at order p) ≡ octets.add (m (first + row) (at order p)) (octets.mul scalar (m (at rows place) (at order p)))
        next_row p l = taken (at order p) (cleared_small (pivots place is_pivot) l)

        -- in the column of another pivot
        other_column : (p : ℕ) → p < length rows → p ≢ place → after (first + row) (at order p) ≡ now row (at order p)
        other_column p l d =
            let zero : m (at rows place) (at order p) ≡ 0 = (pivots place is_pivot).entries p l ∙ if_apart (at rows p) (at rows place) 1 0 (λ e. d (beside.pivots.apart p place l is_pivot e)) in
            let known = beside.few in
            let other : at order p ≢ at order place = (λ e. d (sym (beside.columns.ordered p (omega arith)).1 ∙ ap (at places) e ∙ (beside.columns.ordered place (omega arith)).1)) in
            next_row p l ∙ plus_zero_times (m (first + row) (at order p)) scalar (m (at rows place) (at order p)) zero ∙ had_octet p l ∙ sym (same_beside (at order place) (row + 1) octet row (at order p) other)

        this_column : after (first + row) (at order place) ≡ now row (at order place)
        this_column =
            let one : m (at rows place) (at order place) ≡ 1 = (pivots place is_pivot).entries place is_pivot ∙ if_same (at rows place) (at rows place) 1 0 refl in
            next_row place is_pivot ∙ plus_own (m (first + row) (at order place)) scalar (m (at rows place) (at order place)) small (had_octet place is_pivot ∙ sym scalar_is) one ∙ sym (zero_here (at order place) (row + 1) octet row (omega arith))

      pub changes_pivot : {new : RecordedRows} → Performs (sum_step (first + row) (at rows place) scalar ∷ []) old new
          → ChangesOctets rows order first count (with_zeros (at order place) row octet) (with_zeros (at order place) (row + 1) octet) old new
      changes_pivot performs = takes_same (takes_sum (first + row) _ scalar performs) (λ r e. (row, in_rows, sym e)) (λ m after stays taken. record {
        shown = λ pivots had i p l n. elim (cases_eq i row) [
          | inl e ↦ rw e (elim (cases_eq p place) [ inl f ↦ rw f (this_column m after taken pivots had) | inr d ↦ other_column m after taken pivots had p n d ])
          | inr d ↦ stays (first + i) (at order p) (λ e. d (omega (arith, e))) ∙ had i p l n ∙ sym (other_rows i (at order p) d)
        ];
        kept = λ k none zeros i o. sum_keeps (first + row) (at rows place) scalar stays taken (first + i) k (none place is_pivot) ∙ zeros i o;
      })

  -- ---- one column after another

  -- there are zeros in the columns of all pivots
  pub clears_octets : (octet last : ℕ → ℕ → ℕ) (end : ℕ) {new : RecordedRows} → ChangesOctets rows order first count octet (octets_from end last) old new
      → ((k : ℕ) → end ≤ k → k < length places → length rows ≤ at places k) → ClearsOctets rows order octet first count old new
  clears_octets octet last end changes none =
      let early : (p : ℕ) → p < length rows → at order p < end = (λ (p : ℕ) (l : p < length rows). elim (cases_lt (at order p) end) [
        | inl before_end ↦ before_end
        | inr late ↦
            let place = (beside.columns.ordered p (omega (arith, beside.few, l))).1 in
            let without = none (at order p) late (rw beside.columns.place_count (in_width p l)) in
            absurd (omega (arith, without, place, l))
      ]) in
      changes_same (λ i p l n. before_column end last i (at order p) (early p n)) changes

module _ {rows order : List ℕ} {first count : ℕ} where
  module _ (octet : ℕ → ℕ → ℕ) {was : ℕ → ℕ → ℕ} {old new : RecordedRows} (column : ℕ) where
    -- all rows have 0 in the column
    pub column_cleared : (done : ℕ) → ((i : ℕ) → done ≤ i → i < count → octet i column ≡ 0)
        → ChangesOctets rows order first count was (with_zeros column done (octets_from column octet)) old new
        → ChangesOctets rows order first count was (octets_from (column + 1) octet) old new
    column_cleared done zeros = changes_same (λ i p l n. zeros_in_all column done count octet zeros i (at order p) l)

    -- the column has no pivot
    pub column_skipped : ((p : ℕ) → p < length rows → at order p ≢ column)
        → ChangesOctets rows order first count was (octets_from column octet) old new
        → ChangesOctets rows order first count was (octets_from (column + 1) octet) old new
    column_skipped none = changes_same (λ i p l n. grind (arith, none p n))

  -- the HDPC rows have zeros in the pivots' columns, or there are none
  pub clears_no_octets : (octet : ℕ → ℕ → ℕ) (state : RecordedRows) → ((p : ℕ) → p < length rows → (i : ℕ) → i < count → octet i (at order p) ≡ 0)
      → ClearsOctets rows order octet first count state state
  clears_no_octets octet state none = changes_same (λ i p l n. none p n i l) changes_no_octets
