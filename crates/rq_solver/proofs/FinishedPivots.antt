-- The pivots' rows: some take back what they took, and all are finished one after another.
use Rattle.std.proofs.Common.{◌≡◌, ◌≢◌, ℕ, ◌+◌, ◌<◌, ◌≤◌, ◌==◌, if◌then◌else◌, Bool, true, false, List, Contains, get_or, length, sym, ap, ◌∙◌, arith, inl, inr}
use Rattle.std.proofs.lemmas.Bool.{cases_eq, cases_lt, both_ways}
use Rattle.rq_algebra.specs.Systems.{at}
use Rattle.rq_standard.specs.OctetField.{octets}
use Rattle.rq_parts.specs.DenseOctetMatrix.{entry_of}
use Rattle.rq_peeling.specs.SystemRows.{one_in}
use Rattle.rq_solver.specs.FourthPhase.{AreUnfinished, FinishesPivots, HasFinished, IsFinished}
use Rattle.rq_solver.specs.ThirdPhase.{IsMarkedFrom, Sparsifies}
use Rattle.rq_solver.specs.Peeled.{inactive_count, IsUnderWay}
use Rattle.rq_solver.specs.PivotAdditions.{HasAddedPivotRows, IsCleared, IsUncleared, PeelsRows, TakesPivots, TakesPivotsBy}
use Rattle.rq_solver.specs.SecondPhase.{ClearsColumns, HasClearedColumns}
use Rattle.rq_solver.specs.TakenSteps.{IsFirstOf}
use Rattle.rq_peeling.specs.Peeling.{Pivots}
use Rattle.rq_peeling.specs.RowOnes.{ones_of}
use Rattle.rq_elimination.specs.RecordedRows.{Records}
use Rattle.rq_elimination.specs.declared.recorded.RecordedRows.{RecordedRows}
use Rattle.rq_elimination.specs.RowSteps.{IsEchelon}
use Rattle.rq_elimination.proofs.Performing.{performs_none, performs_more, records_none, records_more}
use Rattle.rq_elimination.proofs.StepColumns.{StaysBut}
use Rattle.rq_solver.specs.declared.pi_solver.peeled.Peeled.{Peeled}
use Rattle.rq_solver.proofs.PivotsTaken.{own_and_taken, own_is_left}
use Rattle.rq_solver.proofs.StepsToRows.{InTurn, one_more, stays, takes_more, takes_none, takes_same}

-- a row that stays as it was is finished as it was
finished_same : {pivots : Pivots} {column : ℕ → ℕ} (m now : ℕ → ℕ → ℕ) (r : ℕ) → ((k : ℕ) → now r k ≡ m r k)
    → IsFinished pivots column m r → IsFinished pivots column now r
finished_same {pivots} {column} m now r same done =
    record { cleared = record { entries = λ i l. same (at pivots.order i) ∙ done.cleared.entries i l }; zeros = λ f l. same (column f) ∙ done.zeros f l }

module _ (peeled : Peeled) (peels : PeelsRows peeled.ones peeled.peeling) where
  abbrev lists : List (List ℕ)
  lists = peeled.ones

  abbrev rows : List ℕ
  rows = peeled.peeling.rows

  abbrev order : List ℕ
  order = peeled.peeling.order

  rows_apart : (p q : ℕ) → p < length rows → q < length rows → p ≢ q → at rows p ≢ at rows q
  rows_apart p q l n d e = d (peels.peeled.in_rows.apart p q l n e)

  -- a row takes rows of earlier pivots alone
  only_earlier : (p j : ℕ) → p < length rows → j < length rows → Contains (ones_of lists (at rows p)) (at order j) → at rows j ≢ at rows p → j < p
  only_earlier p j l n c d = elim (cases_lt j p) [
    | inl early ↦ early
    | inr late ↦
        let other : j ≢ p = (λ e. d (ap (at rows) e)) in
        absurd (peels.peeled.later p j (omega arith) n c)
  ]

  -- a row that takes the rows of pivots, where the earlier ones are cleared
  module _ (p : ℕ) (in_rows : p < length rows) {m now : ℕ → ℕ → ℕ} (taken : HasAddedPivotRows rows order (at rows p) (ones_of lists (at rows p)) m now)
      (earlier : (j : ℕ) → j < p → j < length rows → IsCleared rows order m (at rows j)) where
    needed : (j : ℕ) → j < length rows → Contains (ones_of lists (at rows p)) (at order j) → at rows j ≢ at rows p → IsCleared rows order m (at rows j)
    needed j n c d = earlier j (only_earlier p j in_rows n c d) n

    -- a cleared row is as it was, and one that is as it was is cleared
    turns_back : IsCleared rows order m (at rows p) → IsUncleared lists rows order now (at rows p)
    turns_back cleared = record {
      entries = λ i l.
          taken.taken needed i l ∙ ap (λ x. octets.add x (if at rows i == at rows p then 0 else one_in lists (at rows p) (at order i))) (cleared.entries i l)
          ∙ own_and_taken peels.bits peels.peeled l (at rows p);
    }

    turns_again : IsUncleared lists rows order m (at rows p) → IsCleared rows order now (at rows p)
    turns_again raw = record {
      entries = λ i l.
          taken.taken needed i l ∙ ap (λ x. octets.add x (if at rows i == at rows p then 0 else one_in lists (at rows p) (at order i))) (raw.entries i l)
          ∙ own_is_left peels.bits peels.peeled l (at rows p);
    }

  -- ---- back

  pub sparsifies_none : (marks : List Bool) {old : RecordedRows} → Sparsifies peeled marks (length rows) old old
  sparsifies_none marks {old} = takes_none (performs_none old) (λ m pivots p late l e. absurd (omega arith))

  module _ (marks now : List Bool) {q : ℕ} (in_rows : q < length rows) {old cur : RecordedRows} (v : Sparsifies peeled marks (q + 1) old cur)
      (same : (p : ℕ) → p ≢ q → get_or now p false ≡ get_or marks p false) where
    wider : (r : ℕ) → IsMarkedFrom peeled.peeling marks (q + 1) r → IsMarkedFrom peeled.peeling now q r
    wider r c = (c.0, omega (arith, c.1), c.2, same c.0 (λ e. omega (arith, e, c.1)) ∙ c.3, c.4)

    pub back_skipped : get_or now q false ≡ false → Sparsifies peeled now q old cur
    back_skipped unset = takes_same v wider (λ m after stays e pivots p late l mark. elim (cases_eq p q) [
      | inl f ↦ absurd (both_ways (get_or now p false) (ap (λ (n : ℕ). get_or now n false) f ∙ unset) mark)
      | inr d ↦ e pivots p (omega arith) l (sym (same p d) ∙ mark)
    ])

    module _ {new : RecordedRows} (taken : TakesPivots rows order (at rows q) (ones_of lists (at rows q)) cur new) (yes : get_or now q false ≡ true) where
      early_cleared : (m mid : ℕ → ℕ → ℕ) → StaysBut (IsMarkedFrom peeled.peeling marks (q + 1)) m mid
          → ((p : ℕ) → p < length rows → IsCleared rows order m (at rows p)) → (j : ℕ) → j < q + 1 → j < length rows → IsCleared rows order mid (at rows j)
      early_cleared m mid stays pivots j l n = record {
        entries = λ i o. stays (at rows j) (at order i) (λ c. rows_apart c.0 j c.2 n (λ e. omega (arith, e, c.1, l)) c.4) ∙ (pivots j n).entries i o;
      }

      pub back_taken : Sparsifies peeled now q old new
      back_taken = takes_more v taken.takes (performs_more _ _ old cur new) wider (λ r e. (q, omega arith, in_rows, yes, sym e)) (λ m x w pivots p late l mark.
          elim (cases_eq p q) [
            | inl f ↦
                let cleared = early_cleared m w.between w.stays pivots in
                rw f (turns_back q in_rows w.second (λ j l n. cleared j (omega arith) n) (cleared q (omega arith) in_rows))
            | inr d ↦ record {
              entries = λ i o. w.rest (at rows p) _ (rows_apart p q l in_rows d) ∙ (w.first pivots p (omega arith) l (sym (same p d) ∙ mark)).entries i o;
            }
          ])

  -- ---- the end

  abbrev count : ℕ
  count = inactive_count peeled.peeling

  module _ {inactive_rows : List ℕ} {marks : List Bool} where
    pub finish_none : {old : RecordedRows} → FinishesPivots peeled inactive_rows marks 0 old old
    finish_none {old} = takes_none (records_none old) (λ m column before p l. absurd (omega arith))

    module _ {t : ℕ} (in_rows : t < length rows) {old cur mid : RecordedRows} (v : FinishesPivots peeled inactive_rows marks t old cur)
        (turn : ClearsColumns inactive_rows (at rows t) 0 count count (entry_of cur.table (at rows t)) cur mid)
        (apart : (p f : ℕ) → p < length rows → f < count → at rows p ≢ at inactive_rows f) where
      abbrev First : (ℕ → ℕ → ℕ) → (ℕ → ℕ → ℕ) → Type 0
      First = InTurn (IsFirstOf rows t) (λ r. r ≡ at rows t) (HasFinished peeled inactive_rows marks t old.table)
          (HasClearedColumns inactive_rows (at rows t) 0 count count (entry_of cur.table (at rows t)))

      module _ (m now : ℕ → ℕ → ℕ) (w : First m now) (column : ℕ → ℕ) (before : AreUnfinished peeled inactive_rows marks old.table column m) where
        reduced_stay : (f k : ℕ) → f < count → w.between (at inactive_rows f) k ≡ m (at inactive_rows f) k
        reduced_stay f k l = w.stays (at inactive_rows f) k (λ c. apart c.0 f (omega (arith, c.1)) l c.2)

        own_stays_yet : (k : ℕ) → w.between (at rows t) k ≡ m (at rows t) k
        own_stays_yet k = w.stays (at rows t) k (λ c. rows_apart c.0 t (omega (arith, c.1)) in_rows (λ e. omega (arith, e, c.1)) c.2)

        first_pivots : (i : ℕ) → i < length rows → now (at rows t) (at order i) ≡ m (at rows t) (at order i)
        first_pivots i l = w.second.kept (at order i) (λ f from n. reduced_stay f (at order i) n ∙ before.zeros f i n l) ∙ own_stays_yet (at order i)

        first_zero : (f : ℕ) → f < count → now (at rows t) (column f) ≡ 0
        first_zero f l =
            w.second.cleared column (λ a g from n o. reduced_stay a (column g) n ∙ before.units a g from n o)
            (λ g from n. own_stays_yet (column g) ∙ before.shown t g in_rows n ∙ ap (λ u. entry_of u (at rows t) g) (sym v.done.table)) f (omega arith) l l

        done_before : (j : ℕ) → j < t → IsFinished peeled.peeling column now (at rows j)
        done_before j l = finished_same _ _ _ (λ k. w.rest (at rows j) k (rows_apart j t (omega arith) in_rows (omega arith))) (w.first column before j l)

      pub finish_plain : get_or marks t false ≡ false → FinishesPivots peeled inactive_rows marks (t + 1) old mid
      finish_plain unset = takes_more v turn (records_more _ _ old cur mid) (one_more _ _) (λ r e. (t, omega arith, sym e)) (λ m now w column before p l.
          elim (cases_eq p t) [
            | inl e ↦ rw e (record {
              cleared = record { entries = λ i n. first_pivots m now w column before i n ∙ (before.plain t in_rows unset).entries i n };
              zeros = first_zero m now w column before;
            })
            | inr d ↦ done_before m now w column before p (omega arith)
          ])

      module _ {new : RecordedRows} (taken : TakesPivotsBy Records rows order (at rows t) (ones_of lists (at rows t)) mid new)
          (yes : get_or marks t false ≡ true) where
        module _ (m now : ℕ → ℕ → ℕ)
            (w : InTurn (IsFirstOf rows (t + 1)) (λ r. r ≡ at rows t) First (HasAddedPivotRows rows order (at rows t) (ones_of lists (at rows t))) m now)
            (column : ℕ → ℕ) (before : AreUnfinished peeled inactive_rows marks old.table column m) where
          own_finished : IsFinished peeled.peeling column now (at rows t)
          own_finished =
              let done = done_before m w.between w.first column before in
              record {
                cleared = turns_again t in_rows w.second (λ j l n. (done j l).cleared)
                    (record { entries = λ i n. first_pivots m w.between w.first column before i n ∙ (before.raw t in_rows yes).entries i n });
                zeros = λ f n.
                    w.second.kept (column f) (λ j o c d. (done j (only_earlier t j in_rows o c d)).zeros f n)
                    ∙ first_zero m w.between w.first column before f n;
              }

        pub finish_again : FinishesPivots peeled inactive_rows marks (t + 1) old new
        finish_again =
            let first = takes_more v turn (records_more _ _ old cur mid) (one_more _ _) (λ r e. (t, omega arith, sym e)) (λ m now w. w) in
            takes_more first taken.takes (records_more _ _ old mid new) (λ r c. c) (λ r e. (t, omega arith, sym e)) (λ m now w column before p l.
            elim (cases_eq p t) [
              | inl e ↦ rw e (own_finished m now w column before)
              | inr d ↦
                  finished_same _ _ _ (λ k. w.rest (at rows p) k (rows_apart p t (omega arith) in_rows d))
                  (done_before m w.between w.first column before p (omega arith))
            ])

-- rows in echelon form that are no pivots' stay so where these take back what they took
pub echelon_stays : {p : Peeled} (marks : List Bool) {left : List ℕ} {count : ℕ} {old new : RecordedRows}
    → Sparsifies p marks 0 old new → IsUnderWay p left old → count ≤ old.table.width → IsEchelon left count old.table → IsEchelon left count new.table
echelon_stays {p} marks {left} {count} {old} {new} back under narrow echelon =
    let same : (i k : ℕ) → i < length left → k < count → entry_of new.table (at left i) k ≡ entry_of old.table (at left i) k =
    (λ (i k : ℕ) (l : i < length left) (n : k < count).
    back.done.entries (at left i) k (under.listed.below i l) (omega arith) ∙ stays back _ (at left i) k (λ c. under.apart c.0 i c.2 l c.4)) in
    record {
      fits = echelon.fits;
      ones = λ p l. same p p (omega (arith, echelon.fits)) l ∙ echelon.ones p l;
      zeros = λ i p l early n. same i p l n ∙ echelon.zeros i p l early n;
    }
