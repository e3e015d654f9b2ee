-- Rows are cleared one after the other, those of the pivots first.
use Rattle.std.proofs.Common.{◌≡◌, ◌≢◌, ℕ, ◌+◌, ◌<◌, List, [], Contains, length, refl, sym, ap, ◌∙◌, subst, arith, inl, inr, if◌then◌else◌, ◌==◌}
use Rattle.std.proofs.lemmas.Bool.{cases_eq, cases_lt}
use Rattle.rq_algebra.specs.Arrangements.{ArePlaces}
use Rattle.rq_algebra.specs.Systems.{at}
use Rattle.rq_standard.specs.OctetField.{octets}
use Rattle.rq_peeling.specs.SystemRows.{AreRowsOfBits, one_in}
use Rattle.rq_solver.specs.PivotAdditions.{HasClearedRows, HasAddedPivotRows, IsCleared, IsUncleared, TakesPivots, ClearsRows}
use Rattle.rq_solver.specs.TakenSteps.{IsFirstOf}
use Rattle.rq_peeling.specs.Peeling.{IsPeeled}
use Rattle.rq_peeling.specs.RowOnes.{ones_of}
use Rattle.rq_elimination.specs.declared.recorded.RecordedRows.{RecordedRows}
use Rattle.rq_elimination.proofs.Performing.{performs_none, performs_more}
use Rattle.rq_solver.proofs.PivotsTaken.{own_is_left}
use Rattle.rq_solver.proofs.StepsToRows.{InTurn, one_more, takes_more, takes_none}

module _ {lists : List (List ℕ)} {rows order listed : List ℕ} where
  pub clears_no_rows : {state : RecordedRows} → ClearsRows lists rows order listed 0 state state
  clears_no_rows {state} = takes_none (performs_none state) (λ m.
      record { idle = λ i k e. refl; kept = λ k none i. refl; cleared = λ pivots s l. absurd (omega arith) })

  module _ {width : ℕ} {places : List ℕ} (bits : AreRowsOfBits width lists)
      (peeled : IsPeeled width lists (record { rows = rows; order = order; places = places }))
      (starts : (p : ℕ) → p < length rows → at listed p ≡ at rows p) (are : ArePlaces (length listed) (length lists) (at listed))
      {t : ℕ} (in_listed : t < length listed) where
    module _ (m now : ℕ → ℕ → ℕ) (w : InTurn (IsFirstOf listed t) (λ r. r ≡ at listed t) (HasClearedRows lists rows order listed t)
        (HasAddedPivotRows rows order (at listed t) (ones_of lists (at listed t))) m now) where
      idle_next : (i k : ℕ) → ones_of lists i ≡ [] → now i k ≡ m i k
      idle_next i k e = elim (cases_eq i (at listed t)) [
        | inl s ↦
            rw s (w.second.kept k (λ j l c d. let none = subst (λ xs. Contains xs (at order j)) (ap (ones_of lists) (sym s) ∙ e) c in omega (arith, none.1)))
            ∙ w.first.idle i k e
        | inr d ↦ w.rest i k d ∙ w.first.idle i k e
      ]

      kept_next : (k : ℕ) → ((p : ℕ) → p < length rows → m (at rows p) k ≡ 0) → (i : ℕ) → now i k ≡ m i k
      kept_next k none i = elim (cases_eq i (at listed t)) [
        | inl s ↦ rw s (w.second.kept k (λ j l c d. w.first.kept k none (at rows j) ∙ none j l) ∙ w.first.kept k none (at listed t))
        | inr d ↦ w.rest i k d ∙ w.first.kept k none i
      ]

      module _ (pivots : (p : ℕ) → p < length rows → IsUncleared lists rows order m (at rows p)) where
        earlier : (j : ℕ) → j < length rows → j < t → IsCleared rows order w.between (at rows j)
        earlier j l before_t = subst (IsCleared rows order w.between) (starts j l) (w.first.cleared pivots j before_t (subst (IsUncleared lists rows order m) (sym (starts j l)) (pivots j l)))

        -- a pivot whose row this one takes stands before it
        needed : (j : ℕ) → j < length rows → Contains (ones_of lists (at listed t)) (at order j) → at rows j ≢ at listed t → IsCleared rows order w.between (at rows j)
        needed j l c d = elim (cases_lt j t) [
          | inl first ↦ earlier j l first
          | inr late ↦
              let in_rows : t < length rows = omega arith in
              let same : at listed t ≡ at rows t = starts t in_rows in
              let apart : j ≢ t = (λ e. d (ap (at rows) e ∙ sym same)) in
              absurd (peeled.later t j (omega arith) l (subst (λ (r : ℕ). Contains (ones_of lists r) (at order j)) same c))
        ]

        cleared_now : IsUncleared lists rows order m (at listed t) → IsCleared rows order now (at listed t)
        cleared_now raw = record {
          entries = λ i l.
              let row = at listed t in
              let out : IsFirstOf listed t row → ⊥ = (λ c. let e = are.apart c.0 t (omega (arith, c.1, in_listed)) in_listed c.2 in omega (arith, e, c.1)) in
              let had = w.stays row (at order i) out ∙ raw.entries i l in
              w.second.taken needed i l ∙ ap (λ (x : ℕ). octets.add x (if at rows i == row then 0 else one_in lists row (at order i))) had
              ∙ own_is_left bits peeled l row;
        }

        cleared_next : (s : ℕ) → s < t + 1 → IsUncleared lists rows order m (at listed s) → IsCleared rows order now (at listed s)
        cleared_next s l raw = elim (cases_eq s t) [
          | inl e ↦ rw e (cleared_now (rw e at raw))
          | inr d ↦ record {
            entries = λ i n. w.rest _ _ (λ e. d (are.apart s t (omega arith) in_listed e)) ∙ (w.first.cleared pivots s (omega arith) raw).entries i n;
          }
        ]

    pub clears_next_row : {old cur new : RecordedRows} → ClearsRows lists rows order listed t old cur
        → TakesPivots rows order (at listed t) (ones_of lists (at listed t)) cur new → ClearsRows lists rows order listed (t + 1) old new
    clears_next_row {old} {cur} {new} v taken =
        takes_more v taken.takes (performs_more _ _ old cur new) (one_more _ _) (λ r e. (t, omega arith, sym e))
        (λ m now w. record { idle = idle_next m now w; kept = kept_next m now w; cleared = cleared_next m now w })
