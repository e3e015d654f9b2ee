-- Rows of pivots that take again what they took, by the operations that were recorded for it.
use Rattle.std.proofs.Common.{◌≡◌, ◌≢◌, ℕ, ◌+◌, ◌-◌, ◌<◌, ◌≤◌, List, [], ◌∷◌, ◌++◌, All, Option, Some, get_or, length, drop, refl, sym, ap, ◌∙◌, subst, arith, inl, inr, length-append}
use Rattle.std.specs.List.{slice_range}
use Rattle.std.proofs.lemmas.Bool.{cases_eq}
use Rattle.std.proofs.lemmas.List.{get_or_append_left, length-drop, length-take-le}
use Rattle.std.proofs.Math.Seq.{get_or-append_seam}
use Rattle.rq_algebra.specs.Operations.{Operation, AddAssign}
use Rattle.rq_algebra.specs.Systems.{at}
use Rattle.rq_solver.specs.Peeled.{HasTakenPivots}
use Rattle.rq_solver.specs.PivotAdditions.{HaveTaken, IsSumOf, TakesPivots, TakesPivotsBy}
use Rattle.rq_peeling.specs.Peeling.{Pivots}
use Rattle.rq_peeling.specs.RowOnes.{ones_of}
use Rattle.rq_elimination.specs.declared.recorded.RecordedRows.{RecordedRows}
use Rattle.rq_solver.specs.declared.pi_solver.peeled.Peeled.{Peeled}
use Rattle.rq_elimination.proofs.Performing.{logs_performed, Logs}
use Rattle.rq_peeling.proofs.ListParts.{range_appended, range_at, range_kept, range_next}

-- ---- the same steps, done to other rows

-- steps by which a row takes rows do so from any table of as many rows
takes_again : {Done Again : List Operation → RecordedRows → RecordedRows → Type 0} {rows order : List ℕ} {row : ℕ} {columns : List ℕ}
    {old new first last : RecordedRows} (v : TakesPivotsBy Done rows order row columns old new) → length first.table.rows ≡ length old.table.rows
    → Again v.takes.steps first last → TakesPivotsBy Again rows order row columns first last
takes_again v height again = record {
  takes = record { steps = v.takes.steps; done = again; within = v.takes.within; effect = v.takes.effect };
  sums = rw height v.sums;
  idle = v.idle;
}

module _ {lists : List (List ℕ)} {pivots : Pivots} {listed : List ℕ} where
  -- what is recorded later changes nothing
  pub taken_stays : {done : ℕ} {bounds : List ℕ} {old new : RecordedRows} {more : List Operation} → HaveTaken lists pivots listed done bounds old
      → Logs more old new → HaveTaken lists pivots listed done bounds new
  taken_stays {done} {bounds} {old} {new} {more} v logs = record {
    many = v.many;
    ordered = v.ordered;
    within = λ s l.
        let in_old = v.within s l in
        let long : length new.operations ≡ length old.operations + length more = ap length logs.recorded ∙ length-append old.operations more in
        omega (arith, in_old, long);
    taken = λ s l.
        let a : ℕ = at bounds s in
        let b : ℕ = at bounds (s + 1) in
        let w = v.taken s l in
        takes_again w logs.height
        (w.takes.done ∙ sym (range_kept old.operations a more b (v.ordered s l) (v.within s l)) ∙ ap (λ xs. slice_range xs a b) (sym logs.recorded));
  }

  module _ {done : ℕ} {bounds : List ℕ} {state : RecordedRows} (v : HaveTaken lists pivots listed done bounds state) (s : ℕ) (inside : s < done) where
    -- the steps of a row are sums of it
    pub sums_between : All (IsSumOf (at listed s) (length state.table.rows)) (slice_range state.operations (at bounds s) (at bounds (s + 1)))
    sums_between = let w = v.taken s inside in subst (All (IsSumOf (at listed s) (length state.table.rows))) w.takes.done w.sums

    -- and done again the row takes the same again
    pub taken_between : {Again : List Operation → RecordedRows → RecordedRows → Type 0} {new : RecordedRows}
        → Again (slice_range state.operations (at bounds s) (at bounds (s + 1))) state new
        → TakesPivotsBy Again pivots.rows pivots.order (at listed s) (ones_of lists (at listed s)) state new
    taken_between {Again} {new} again =
        let w = v.taken s inside in
        takes_again w refl (subst (λ (steps : List Operation). Again steps state new) (sym w.takes.done) again)

  pub taken_first : {state : RecordedRows} → HaveTaken lists pivots listed 0 (length state.operations ∷ []) state
  taken_first = record {
    many = omega arith;
    ordered = λ s l. absurd (omega arith);
    within = λ s l. absurd (omega arith);
    taken = λ s l. absurd (omega arith);
  }

  -- one row more has taken its own
  pub taken_next : {done : ℕ} (bounds : List ℕ) {old new : RecordedRows} → length bounds ≡ done
      → HaveTaken lists pivots listed done (bounds ++ length old.operations ∷ []) old
      → (turn : TakesPivots pivots.rows pivots.order (at listed done) (ones_of lists (at listed done)) old new)
      → HaveTaken lists pivots listed (done + 1) ((bounds ++ length old.operations ∷ []) ++ length new.operations ∷ []) new
  taken_next {done} bounds {old} {new} long v turn =
      let a : ℕ = length old.operations in
      let b : ℕ = length new.operations in
      let now : List ℕ = bounds ++ a ∷ [] in
      let next : List ℕ = now ++ b ∷ [] in
      let many : length now ≡ done + 1 = length-append bounds (a ∷ []) ∙ ap (λ (n : ℕ). n + 1) long in
      let count : length next ≡ done + 2 = length-append now (b ∷ []) ∙ ap (λ (n : ℕ). n + 1) many ∙ omega arith in
      let more : b ≡ a + length turn.takes.steps = ap length turn.takes.done.recorded ∙ length-append old.operations turn.takes.steps in
      let early : (s : ℕ) → s < done + 1 → at next s ≡ at now s = (λ (s : ℕ) (l : s < done + 1). get_or_append_left now (b ∷ []) 0 s (omega (arith, many))) in
      let first : at next done ≡ a = early done (omega arith) ∙ ap (at now) (sym long) ∙ get_or-append_seam bounds a [] 0 in
      let last : at next (done + 1) ≡ b = ap (at next) (sym many) ∙ get_or-append_seam now b [] 0 in
      let stayed = taken_stays v (logs_performed turn.takes.done) in
      record {
        many = omega (arith, count);
        ordered = λ s l. elim (cases_eq s done) [
          | inl e ↦ rw (e, first, last) (omega (arith, more))
          | inr d ↦ rw (early s (omega (arith, d)), early (s + 1) (omega (arith, d, l))) (stayed.ordered s (omega (arith, d)))
        ];
        within = λ s l. elim (cases_eq s done) [
          | inl e ↦ rw (e, last) (omega arith)
          | inr d ↦ rw (early (s + 1) (omega (arith, d, l))) (stayed.within s (omega (arith, d)))
        ];
        taken = λ s l. elim (cases_eq s done) [
          | inl e ↦
              rw (e, first, last) (takes_again turn turn.takes.done.height
              (sym (ap (λ (xs : List Operation). slice_range xs a (length xs)) turn.takes.done.recorded ∙ range_appended old.operations turn.takes.steps)))
          | inr d ↦ rw (early s (omega (arith, d)), early (s + 1) (omega (arith, d, l))) (stayed.taken s (omega (arith, d)))
        ];
      }

-- and so it is of all that the first phase left
pub pivots_stay : {p : Peeled} {old new : RecordedRows} {steps : List Operation} → HasTakenPivots p old → Logs steps old new → HasTakenPivots p new
pivots_stay has logs = record { peeled = has.peeled; height = logs.height ∙ has.height; wide = rw logs.width has.wide; taken = taken_stays has.taken logs }

-- the pivots' rows come first in the list
pub taken_by_pivots : {lists : List (List ℕ)} {pivots : Pivots} {listed bounds : List ℕ} {state : RecordedRows} → length pivots.rows ≤ length listed
    → ((p : ℕ) → p < length pivots.rows → at listed p ≡ at pivots.rows p) → HaveTaken lists pivots listed (length listed) bounds state
    → HaveTaken lists pivots pivots.rows (length pivots.rows) bounds state
taken_by_pivots few starts v = record {
  many = let n = v.many in omega (arith, n, few);
  ordered = λ s l. v.ordered s (omega (arith, few));
  within = λ s l. v.within s (omega (arith, few));
  taken = λ s l. rw (← starts s l) (v.taken s (omega (arith, few)));
}

-- ---- a row that takes again what it took, one step after another

-- the row that was found is the next that it took
pub record NextSum (row height : ℕ) (operations : List Operation) (start place : ℕ) (found : Option ℕ) : Type 0 where
  pub source : ℕ
  pub is : found ≡ Some source
  pub within : source < height
  pub other : source ≢ row
  pub steps : slice_range operations start (place + 1) ≡ slice_range operations start place ++ AddAssign row source ∷ []

-- it is read where it stands, though more was recorded since
pub next_sum : {row height : ℕ} {operations : List Operation} {start end place : ℕ} → All (IsSumOf row height) (slice_range operations start end)
    → end ≤ length operations → start ≤ place → place < end → (more : List Operation) {now : List Operation} {found : Option ℕ} → now ≡ operations ++ more
    → ((dest src : ℕ) (d : Operation) → get_or now place d ≡ AddAssign dest src → found ≡ Some src) → NextSum row height operations start place found
next_sum {row} {height} {operations} {start} {end} {place} sums within from inside more {now} is reads =
    let none : Operation = AddAssign 0 0 in
    let long : length (slice_range operations start end) ≡ end - start = length-take-le (end - start) (drop start operations) (omega (arith, length-drop start operations)) in
    let next : IsSumOf row height (get_or operations place none) = subst (IsSumOf row height) (range_at operations start end place none from inside) (sums (place - start) none (omega (arith, long))) in
    record {
      source = next.source;
      is = reads row next.source none (ap (λ (xs : List Operation). get_or xs place none) is ∙ get_or_append_left operations more none place (omega arith) ∙ next.is);
      within = next.within;
      other = next.other;
      steps = range_next operations start place none from (omega arith) ∙ ap (λ (step : Operation). slice_range operations start place ++ step ∷ []) next.is;
    }
