-- Steps that were done to rows and recorded: one, several, and what they make of rows that the table shows in part.
use Rattle.std.proofs.Common.{◌≤◌, ◌≡◌, ◌≢◌, ℕ, ◌<◌, List, [], ◌∷◌, ◌++◌, All, Contains, length, get_or, refl, sym, ap, ◌∙◌, subst, arith, inl, inr, append_assoc, append-nil}
use Rattle.std.specs.List.{range_with_len}
use Rattle.std.proofs.lemmas.Bool.{cases_eq}
use Rattle.std.proofs.lemmas.List.Elements.{All-nil, All-cons, All-append, All-contains, Contains-get_or}
use Rattle.std.proofs.lemmas.List.{get_or_default}
use Rattle.rq_algebra.specs.Steps.{AddsRow, ScalesRow}
use Rattle.rq_algebra.specs.Systems.{at}
use Rattle.rq_algebra.proofs.ChangeLaws.{find_place}
use Rattle.rq_algebra.specs.Operations.{Operation, AddAssign, MulAssign, Fma, Reorder}
use Rattle.rq_standard.specs.OctetField.{octets}
use Rattle.rq_parts.specs.DenseOctetMatrix.{OctetTable, entry_of}
use Rattle.rq_elimination.specs.RecordedRows.{Performs, Records, ChangesRows}
use Rattle.rq_elimination.specs.declared.recorded.RecordedRows.{RecordedRows}
use Rattle.rq_elimination.specs.RowSteps.{row_step, rows_after, sum_step, AreStepsBelow, IsStepAmong}
use Rattle.rq_algebra.proofs.Choices.{if_either}
use Rattle.rq_elimination.proofs.StepColumns.{changed_here, changed_other, rows_after-none, rows_after-next, rows_after-column, rows_after-apart, rows_after-zero, Contains-range, below_height}

-- ---- a multiple of a row is added

module _ (dest src scalar : ℕ) (m : ℕ → ℕ → ℕ) where
  pub sum_step-here : (k : ℕ) → m src k < 256 → rows_after octets (sum_step dest src scalar ∷ []) m dest k ≡ octets.add (m dest k) (octets.mul scalar (m src k))
  unfolding rows_after row_step
  sum_step-here k small =
      if_either (λ (step : Operation). rows_after octets (step ∷ []) m dest k ≡ octets.add (m dest k) (octets.mul scalar (m src k))) scalar 1 (AddAssign dest src) (Fma dest src scalar)
      (λ e. changed_here m dest _ dest k refl ∙ ap (octets.add (m dest k)) (sym (octets.one_mul (m src k) small) ∙ ap (λ (s : ℕ). octets.mul s (m src k)) (sym e)))
      (λ d. changed_here m dest _ dest k refl)

  pub sum_step-elsewhere : (i k : ℕ) → i ≢ dest → rows_after octets (sum_step dest src scalar ∷ []) m i k ≡ m i k
  unfolding rows_after row_step
  sum_step-elsewhere i k apart =
      if_either (λ (step : Operation). rows_after octets (step ∷ []) m i k ≡ m i k) scalar 1 (AddAssign dest src) (Fma dest src scalar) (λ e. changed_other m dest _ i k apart) (λ d. changed_other m dest _ i k apart)

pub sum_among : (dest src scalar : ℕ) (rows : List ℕ) → Contains rows dest → Contains rows src → src ≢ dest → IsStepAmong octets rows (sum_step dest src scalar)
sum_among dest src scalar rows has_dest has_src apart = if_either (IsStepAmong octets rows) scalar 1 (AddAssign dest src) (Fma dest src scalar) (λ e. (has_dest, has_src, apart)) (λ d. (has_dest, has_src, apart))

-- a row is multiplied
module _ (dest scalar : ℕ) (m : ℕ → ℕ → ℕ) where
  pub scaling-here : (k : ℕ) → rows_after octets (MulAssign dest scalar ∷ []) m dest k ≡ octets.mul scalar (m dest k)
  unfolding rows_after row_step
  scaling-here k = changed_here m dest _ dest k refl

  pub scaling-elsewhere : (i k : ℕ) → i ≢ dest → rows_after octets (MulAssign dest scalar ∷ []) m i k ≡ m i k
  unfolding rows_after row_step
  scaling-elsewhere i k apart = changed_other m dest _ i k apart

-- ---- one step that was done and recorded

module _ (old new : RecordedRows) where
  pub all_one : (step : Operation) → IsStepAmong octets (range_with_len 0 (length old.table.rows)) step → AreStepsBelow octets (length old.table.rows) (step ∷ [])
  all_one step is = let among = IsStepAmong octets (range_with_len 0 (length old.table.rows)) in All-cons among step [] is (All-nil among)

  pub one_sum : (dest src scalar : ℕ) → src ≢ dest → dest < length old.table.rows → src < length old.table.rows → AreStepsBelow octets (length old.table.rows) (sum_step dest src scalar ∷ [])
  one_sum dest src scalar apart in_dest in_src =
      let rows = range_with_len 0 (length old.table.rows) in
      all_one (sum_step dest src scalar) (sum_among dest src scalar rows (Contains-range (length old.table.rows) dest in_dest) (Contains-range (length old.table.rows) src in_src) apart)

  module _ (width : new.table.width ≡ old.table.width) (height : length new.table.rows ≡ length old.table.rows) where
    pub performs_sum : (dest src scalar : ℕ) → new.operations ≡ old.operations ++ sum_step dest src scalar ∷ [] → src ≢ dest → dest < length old.table.rows → src < length old.table.rows
        → AddsRow octets (length old.table.rows) old.table.width dest src scalar (entry_of old.table) (entry_of new.table)
        → Performs (sum_step dest src scalar ∷ []) old new
    performs_sum dest src scalar recorded apart in_dest in_src adds = record {
      recorded = recorded;
      among = one_sum dest src scalar apart in_dest in_src;
      width = width;
      height = height;
      entries = λ i k l m. elim (cases_eq i dest) [
        | inl e ↦ rw e (adds.at_dest k m ∙ sym (sum_step-here dest src scalar (entry_of old.table) k (old.octets.elements src k in_src m)))
        | inr d ↦ adds.elsewhere i k l m d ∙ sym (sum_step-elsewhere dest src scalar (entry_of old.table) i k d)
      ];
    }

    pub performs_scaling : (dest scalar : ℕ) → new.operations ≡ old.operations ++ MulAssign dest scalar ∷ [] → dest < length old.table.rows → scalar < 256 → scalar ≢ 0
        → ScalesRow octets (length old.table.rows) old.table.width dest scalar (entry_of old.table) (entry_of new.table)
        → Performs (MulAssign dest scalar ∷ []) old new
    performs_scaling dest scalar recorded in_dest small nonzero scales = record {
      recorded = recorded;
      among = all_one (MulAssign dest scalar) (Contains-range (length old.table.rows) dest in_dest, small, nonzero);
      width = width;
      height = height;
      entries = λ i k l m. elim (cases_eq i dest) [
        | inl e ↦ rw e (scales.at_dest k m ∙ sym (scaling-here dest scalar (entry_of old.table) k))
        | inr d ↦ scales.elsewhere i k l m d ∙ sym (scaling-elsewhere dest scalar (entry_of old.table) i k d)
      ];
    }

  -- what such a step does to the table
  pub adds_of_sum : (dest src scalar : ℕ) → dest < length old.table.rows → src < length old.table.rows → Performs (sum_step dest src scalar ∷ []) old new
      → AddsRow octets (length old.table.rows) old.table.width dest src scalar (entry_of old.table) (entry_of new.table)
  adds_of_sum dest src scalar in_dest in_src performs = record {
    at_dest = λ k l. performs.entries dest k in_dest l ∙ sum_step-here dest src scalar (entry_of old.table) k (old.octets.elements src k in_src l);
    elsewhere = λ i k l m d. performs.entries i k l m ∙ sum_step-elsewhere dest src scalar (entry_of old.table) i k d;
  }

  pub scales_of_scaling : (dest scalar : ℕ) → dest < length old.table.rows → Performs (MulAssign dest scalar ∷ []) old new → ScalesRow octets (length old.table.rows) old.table.width dest scalar (entry_of old.table) (entry_of new.table)
  scales_of_scaling dest scalar in_dest performs = record {
    at_dest = λ k l. performs.entries dest k in_dest l ∙ scaling-here dest scalar (entry_of old.table) k;
    elsewhere = λ i k l m d. performs.entries i k l m ∙ scaling-elsewhere dest scalar (entry_of old.table) i k d;
  }

-- ---- nothing, and one after the other

pub performs_none : (rows : RecordedRows) → Performs [] rows rows
performs_none rows = record {
  recorded = sym (append-nil rows.operations);
  among = All-nil (IsStepAmong octets (range_with_len 0 (length rows.table.rows)));
  width = refl;
  height = refl;
  entries = λ i k l m. sym (rows_after-none octets (entry_of rows.table) i k);
}

-- what steps leave in either case, done to the rows or recorded alone
pub record Logs (steps : List Operation) (old new : RecordedRows) : Type 0 where
  pub recorded : new.operations ≡ old.operations ++ steps
  pub among : AreStepsBelow octets (length old.table.rows) steps
  pub width : new.table.width ≡ old.table.width
  pub height : length new.table.rows ≡ length old.table.rows

pub logs_performed : {steps : List Operation} {old new : RecordedRows} → Performs steps old new → Logs steps old new
logs_performed done = record { recorded = done.recorded; among = done.among; width = done.width; height = done.height }

pub logs_recorded : {steps : List Operation} {old new : RecordedRows} → Records steps old new → Logs steps old new
logs_recorded done =
    record { recorded = done.recorded; among = done.among; width = ap (λ t. t.width) done.table; height = ap (λ (t : OctetTable). length t.rows) done.table }

module _ (steps more : List Operation) (first second third : RecordedRows) where
  pub logs_more : Logs steps first second → Logs more second third → Logs (steps ++ more) first third
  logs_more done next = record {
    recorded = next.recorded ∙ ap (λ (l : List Operation). l ++ more) done.recorded ∙ append_assoc first.operations steps more;
    among = All-append (IsStepAmong octets (range_with_len 0 (length first.table.rows))) steps more done.among (rw done.height at next.among);
    width = next.width ∙ done.width;
    height = next.height ∙ done.height;
  }

  pub performs_more : Performs steps first second → Performs more second third → Performs (steps ++ more) first third
  performs_more done next =
      let logs = logs_more (logs_performed done) (logs_performed next) in
      let rows : List ℕ = range_with_len 0 (length first.table.rows) in
      record {
        recorded = logs.recorded;
        among = logs.among;
        width = logs.width;
        height = logs.height;
        entries = λ i k l m.
            next.entries i k (rw done.height l) (rw done.width m)
            ∙ rows_after-column octets rows more (entry_of second.table) (rows_after octets steps (entry_of first.table)) k k (rw done.height at next.among)
            (λ r c. done.entries r k (below_height (length first.table.rows) r c) m) i (Contains-range (length first.table.rows) i l)
            ∙ sym (rows_after-next octets steps more (entry_of first.table) i k);
      }

  pub records_more : Records steps first second → Records more second third → Records (steps ++ more) first third
  records_more done next =
      let logs = logs_more (logs_recorded done) (logs_recorded next) in
      record { recorded = logs.recorded; among = logs.among; table = next.table ∙ done.table }

pub records_none : (rows : RecordedRows) → Records [] rows rows
records_none rows = record {
  recorded = sym (append-nil rows.operations);
  among = All-nil (IsStepAmong octets (range_with_len 0 (length rows.table.rows)));
  table = refl;
}

-- ---- steps among some of the rows

pub one_among : (rows : List ℕ) (i : ℕ) → i < length rows → All (Contains rows) (get_or rows i 0 ∷ [])
one_among rows i l = All-cons (Contains rows) (get_or rows i 0) [] (Contains-get_or rows i 0 l) (All-nil (Contains rows))

pub two_among : (rows : List ℕ) (i j : ℕ) → i < length rows → j < length rows → All (Contains rows) (get_or rows i 0 ∷ get_or rows j 0 ∷ [])
two_among rows i j l m = All-cons (Contains rows) (get_or rows i 0) (get_or rows j 0 ∷ []) (Contains-get_or rows i 0 l) (one_among rows j m)

-- the rows may be listed among others
module _ (few rows : List ℕ) (all : All (Contains rows) few) where
  step_among : (step : Operation) → IsStepAmong octets few step → IsStepAmong octets rows step
  step_among (AddAssign dest src) is = (All-contains (Contains rows) few dest all is.0, All-contains (Contains rows) few src all is.1, is.2)
  step_among (MulAssign dest scalar) is = (All-contains (Contains rows) few dest all is.0, is.1, is.2)
  step_among (Fma dest src scalar) is = (All-contains (Contains rows) few dest all is.0, All-contains (Contains rows) few src all is.1, is.2)
  step_among (Reorder order) is = is

  pub changes_among : (old new : RecordedRows) → ChangesRows few old new → ChangesRows rows old new
  changes_among old new changes = record {
    steps = changes.steps;
    performs = changes.performs;
    within = λ k d l. step_among _ (changes.within k d l);
  }

pub changes_none : (rows : List ℕ) (state : RecordedRows) → ChangesRows rows state state
changes_none rows state = record { steps = []; performs = performs_none state; within = All-nil (IsStepAmong octets rows) }

pub changes_sum : (old new : RecordedRows) (dest src scalar : ℕ) → src ≢ dest → Performs (sum_step dest src scalar ∷ []) old new → ChangesRows (dest ∷ src ∷ []) old new
changes_sum old new dest src scalar apart performs = record {
  steps = sum_step dest src scalar ∷ [];
  performs = performs;
  within = let rows : List ℕ = dest ∷ src ∷ [] in All-cons (IsStepAmong octets rows) (sum_step dest src scalar) [] (sum_among dest src scalar rows (Contains-get_or rows 0 0 (omega arith)) (Contains-get_or rows 1 0 (omega arith)) apart) (All-nil (IsStepAmong octets rows));
}

pub changes_scaling : (old new : RecordedRows) (dest scalar : ℕ) → scalar < 256 → scalar ≢ 0 → Performs (MulAssign dest scalar ∷ []) old new → ChangesRows (dest ∷ []) old new
changes_scaling old new dest scalar small nonzero performs = record {
  steps = MulAssign dest scalar ∷ [];
  performs = performs;
  within = let rows : List ℕ = dest ∷ [] in All-cons (IsStepAmong octets rows) (MulAssign dest scalar) [] (Contains-get_or rows 0 0 (omega arith), small, nonzero) (All-nil (IsStepAmong octets rows));
}

-- one after the other
pub changes_more : (rows : List ℕ) (first second third : RecordedRows) → ChangesRows rows first second → ChangesRows rows second third → ChangesRows rows first third
changes_more rows first second third done next = record {
  steps = done.steps ++ next.steps;
  performs = performs_more done.steps next.steps first second third done.performs next.performs;
  within = All-append (IsStepAmong octets rows) done.steps next.steps done.within next.within;
}

-- where these rows have zeros nothing changes
pub changes_keep : (rows : List ℕ) (steps : List Operation) → All (IsStepAmong octets rows) steps → (m : ℕ → ℕ → ℕ) (k : ℕ) → ((r : ℕ) → Contains rows r → m r k ≡ 0) → (r : ℕ) → rows_after octets steps m r k ≡ m r k
changes_keep rows steps within m k zeros r = elim (find_place (length rows) (at rows) r) [
  | inl q ↦
      let listed : Contains rows r = subst (Contains rows) q.2 (Contains-get_or rows q.0 0 q.1) in
      rows_after-zero octets rows steps m k within zeros r listed ∙ sym (zeros r listed)
  | inr free ↦ rows_after-apart octets rows steps m within r k (λ c. free c.0 c.1 (get_or_default rows c.0 0 r c.1 ∙ c.2))
]

-- ---- a table that shows columns of rows goes on showing them

pub shows_after : (steps : List Operation) (old new : RecordedRows) (m : ℕ → ℕ → ℕ) (column : ℕ → ℕ) (count : ℕ) → count ≤ old.table.width → Performs steps old new
    → ((i f : ℕ) → i < length old.table.rows → f < count → entry_of old.table i f ≡ m i (column f))
    → (i f : ℕ) → i < length old.table.rows → f < count → entry_of new.table i f ≡ rows_after octets steps m i (column f)
shows_after steps old new m column count fits performs shows i f l n =
    let height = length old.table.rows in
    performs.entries i f l (omega arith)
    ∙ rows_after-column octets (range_with_len 0 height) steps (entry_of old.table) m f (column f) performs.among
    (λ r c. shows r f (below_height height r c) n) i (Contains-range height i l)
