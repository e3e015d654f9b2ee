-- A row takes the reduced rows for which a word has ones, the lowest first.
use Rattle.std.proofs.Common.{◌≡◌, ◌≢◌, ℕ, ◌+◌, ◌-◌, ◌<◌, ◌≤◌, List, [], ◌∷◌, sym, ap, ◌∙◌, arith, inl, inr, lit<}
use Rattle.std.specs.Int.{bit_at}
use Rattle.std.proofs.lemmas.Nat.Bits.{bit_at-zero}
use Rattle.std.proofs.lemmas.Bool.{cases_lt}
use Rattle.rq_algebra.specs.Systems.{at}
use Rattle.rq_parts.proofs.PackedBits.{low_bits, low-same, low-none}
use Rattle.rq_solver.specs.SecondPhase.{AreUnits, ClearsColumns}
use Rattle.rq_elimination.specs.OperationCounts.{additions}
use Rattle.rq_elimination.specs.RecordedRows.{Records}
use Rattle.rq_elimination.specs.RowSteps.{sum_step}
use Rattle.rq_elimination.specs.declared.recorded.RecordedRows.{RecordedRows}
use Rattle.rq_parts.proofs.LowestOnes.{ClearsLowest, lowest_before, lowest_from}
use Rattle.rq_elimination.proofs.Performing.{records_more}
use Rattle.rq_algebra.proofs.Choices.{if_apart}
use Rattle.rq_solver.proofs.StepsToRows.{takes_more}
use Rattle.rq_solver.proofs.Substitution.{reduced_none, reduced_next, reduced_zeros}

-- Of the columns of a word, which are those from `start` on and as many as `end`, the rows before a place are taken for which the word has ones,
-- and the rest of the word has those from that place on.
pub record TakesOnes (inactive_rows : List ℕ) (row start end word rest : ℕ) (entries : ℕ → ℕ) (old new : RecordedRows) : Type 0 where
  pub place : ℕ
  pub before : place ≤ end
  pub behind : (k : ℕ) → k < place → bit_at rest k ≡ 0
  pub ahead : (k : ℕ) → place ≤ k → k < end → bit_at rest k ≡ bit_at word k
  pub beyond : (k : ℕ) → end ≤ k → bit_at rest k ≡ 0
  pub taken : ClearsColumns inactive_rows row start (start + end) (start + place) entries old new
  pub few : additions new.operations ≤ additions old.operations + place

module _ {inactive_rows : List ℕ} {row start end word : ℕ} {entries : ℕ → ℕ} {old : RecordedRows} where
  pub takes_no_ones : end ≤ 64 → TakesOnes inactive_rows row start end word (low_bits word end) entries old old
  takes_no_ones within =
      let none : start + 0 ≡ start = omega arith in
      record {
        place = 0;
        before = omega arith;
        behind = λ k l. absurd (omega arith);
        ahead = λ k l m. low-same word end within k m;
        beyond = λ k l. low-none word end within k l;
        taken = rw none reduced_none;
        few = omega arith;
      }

  module _ {rest : ℕ} {cur : RecordedRows} (v : TakesOnes inactive_rows row start end word rest entries old cur)
      (is : (f : ℕ) → f < end → entries (start + f) ≡ bit_at word f) where
    entry_is : (k : ℕ) → start + v.place ≤ k → k < start + end → entries k ≡ bit_at rest (k - start)
    entry_is k l m =
        ap entries (let back : k ≡ start + (k - start) = omega (arith, l) in back) ∙ is (k - start) (omega (arith, l, m)) ∙ sym (v.ahead (k - start) (omega (arith, l)) (omega (arith, l, m)))

    module _ {lowest less : ℕ} (clears : ClearsLowest rest lowest less) where
      pub lowest_inside : lowest < end
      lowest_inside = lowest_before rest lowest less clears end v.beyond

      pub takes_lowest : {new : RecordedRows} → row ≢ at inactive_rows (start + lowest)
          → Records (sum_step row (at inactive_rows (start + lowest)) 1 ∷ []) cur new → additions new.operations ≡ additions cur.operations + 1
          → TakesOnes inactive_rows row start end word less entries old new
      takes_lowest apart records counted =
          let late = lowest_from rest lowest less clears v.place v.behind in
          let inside = lowest_inside in
          let one : 1 ≡ entries (start + lowest) = sym (is lowest inside ∙ sym (v.ahead lowest late inside) ∙ clears.one) in
          let next : start + (lowest + 1) ≡ start + lowest + 1 = omega arith in
          record {
            place = lowest + 1;
            before = omega (arith, inside);
            behind = λ k l. clears.cleared k (omega arith);
            ahead = λ k l m. clears.kept k (omega arith) ∙ v.ahead k (omega (arith, late, l)) m;
            beyond = λ k l. clears.kept k (omega (arith, inside, l)) ∙ v.beyond k l;
            taken = rw next (reduced_next (start + lowest) (omega arith) (omega (arith, inside)) apart 1 (lit< tt) one v.taken (omega (arith, late))
                (λ k l m. entry_is k l (omega (arith, m, inside)) ∙ clears.zeros (k - start) (omega (arith, l, m))) records);
            few = let so_far = v.few in omega (arith, counted, so_far, late);
          }

    pub takes_all : rest ≡ 0 → ClearsColumns inactive_rows row start (start + end) (start + end) entries old cur
    takes_all none =
        reduced_zeros (start + end) v.taken (omega (arith, v.before))
        (λ k l m. entry_is k l m ∙ ap (λ n. bit_at n (k - start)) none ∙ bit_at-zero (k - start))

-- ---- words of rows one after another

module _ {inactive_rows : List ℕ} {row start count : ℕ} {entries : ℕ → ℕ} where
  -- the row takes those before one place, and then those up to another one
  pub reduced_join : (t next : ℕ) → start ≤ t → t ≤ next → next ≤ count → ((f : ℕ) → t ≤ f → f < next → row ≢ at inactive_rows f) → {old cur new : RecordedRows}
      → ClearsColumns inactive_rows row start count t entries old cur → ClearsColumns inactive_rows row t next next entries cur new
      → ClearsColumns inactive_rows row start count next entries old new
  reduced_join t next from forward within apart {old} {cur} {new} v w = takes_more v w (records_more _ _ old cur new) (λ r e. e) (λ r e. e) (λ m now u.
      let source = λ (s k : ℕ) (l : t ≤ s) (n : s < next). u.stays (at inactive_rows s) k (λ e. apart s l n (sym e)) in
      let unit = λ (column : ℕ → ℕ) (units : AreUnits inactive_rows start count column m) (s f : ℕ) (l : t ≤ s) (n : s < next) (inside : f < count).
      source s (column f) l n ∙ units s f (omega arith) (omega arith) inside in
      record {
        kept = λ k zeros. u.second.kept k (λ s l n. source s k l n ∙ zeros s (omega arith) (omega arith)) ∙ u.first.kept k zeros;
        cleared = λ column units shown f first l n. elim (cases_lt f t) [
          | inl early ↦
              u.second.kept (column f) (λ s o p. unit column units s f o p n ∙ if_apart s f 1 0 (λ e. omega (arith, e, o, early)))
              ∙ u.first.cleared column units shown f first early n
          | inr late ↦
              u.second.cleared column (λ s g o p q. unit column units s g o p (omega arith))
              (λ g o p. u.first.rest column units g o (omega arith) ∙ shown g (omega arith) (omega arith)) f late l l
        ];
        rest = λ column units f l n.
            u.second.kept (column f) (λ s o p. unit column units s f o p n ∙ if_apart s f 1 0 (λ e. omega (arith, e, p, l)))
            ∙ u.first.rest column units f (omega arith) n;
      })
