-- Rows take multiples of reduced rows, which is recorded alone.
use Rattle.std.proofs.Common.{◌≡◌, ◌≢◌, ℕ, ◌+◌, ◌<◌, ◌≤◌, ◌==◌, if◌then◌else◌, List, [], ◌∷◌, length, refl, sym, ap, ◌∙◌, arith, inl, inr, lit<}
use Rattle.std.proofs.lemmas.Bool.{cases_eq, cases_lt}
use Rattle.rq_algebra.specs.Systems.{at}
use Rattle.rq_parts.specs.DenseOctetMatrix.{entry_of}
use Rattle.rq_solver.specs.SecondPhase.{AreUnits, ClearsColumns, GivesMultiples, SubstitutesBack, one_of}
use Rattle.rq_solver.specs.SecondPhase.{HasClearedColumns, HasGivenMultiples, HasSubstituted, ShowInactive}
use Rattle.rq_solver.specs.TakenSteps.{IsFirstOf}
use Rattle.rq_elimination.specs.RecordedRows.{Records}
use Rattle.rq_elimination.specs.RowSteps.{sum_step, AreRows, IsEchelon}
use Rattle.rq_elimination.specs.declared.recorded.RecordedRows.{RecordedRows}
use Rattle.rq_elimination.proofs.Performing.{records_more, records_none}
use Rattle.rq_elimination.proofs.StepColumns.{StaysBut}
use Rattle.rq_solver.proofs.OctetSums.{plus_zero_times, plus_own}
use Rattle.rq_solver.proofs.StepsToRows.{HasAdded, InTurn, one_more, takes_more, takes_none, takes_same, takes_sum}
use Rattle.rq_algebra.proofs.Choices.{if_same, if_apart}

-- ---- one multiple more

module _ (dest src scalar : ℕ) {m now : ℕ → ℕ → ℕ} (stays : StaysBut (λ r. r ≡ dest) m now) (taken : HasAdded dest src scalar m now) where
  -- where the row that is taken has 0, no row changes
  pub sum_keeps : (r k : ℕ) → m src k ≡ 0 → now r k ≡ m r k
  sum_keeps r k zero = elim (cases_eq r dest) [
    | inl e ↦ rw e (taken k (rw zero (lit< tt)) ∙ plus_zero_times (m dest k) scalar (m src k) zero)
    | inr d ↦ stays r k d
  ]

  -- and where it has 1, the row that has the scalar there gets 0
  sum_cancels : (k : ℕ) → scalar < 256 → m src k ≡ 1 → m dest k ≡ scalar → now dest k ≡ 0
  sum_cancels k small one here = taken k (rw one (lit< tt)) ∙ plus_own (m dest k) scalar (m src k) small here one

-- ---- a row that takes multiples

module _ {inactive_rows : List ℕ} {row start count : ℕ} {entries : ℕ → ℕ} where
  pub reduced_none : {old : RecordedRows} → ClearsColumns inactive_rows row start count start entries old old
  reduced_none {old} = takes_none (records_none old) (λ m. record {
    kept = λ k zeros. refl;
    cleared = λ column units shown f from l n. absurd (omega arith);
    rest = λ column units f l n. refl;
  })

  -- the row has 0 in the next columns
  pub reduced_zeros : {t : ℕ} (next : ℕ) {old cur : RecordedRows} → ClearsColumns inactive_rows row start count t entries old cur → t ≤ next
      → ((k : ℕ) → t ≤ k → k < next → entries k ≡ 0) → ClearsColumns inactive_rows row start count next entries old cur
  reduced_zeros {t} next v forward none = takes_same v (λ r c. c) (λ m now stays e. record {
    kept = e.kept;
    cleared = λ column units shown f first l n. elim (cases_lt f t) [
      | inl early ↦ e.cleared column units shown f first early n
      | inr late ↦ e.rest column units f late n ∙ shown f first n ∙ none f late l
    ];
    rest = λ column units f l n. e.rest column units f (omega arith) n;
  })

  module _ (t : ℕ) (from : start ≤ t) (inside : t < count) (apart : row ≢ at inactive_rows t) (scalar : ℕ) (small : scalar < 256)
      (scalar_is : scalar ≡ entries t) where
    module _ (m now : ℕ → ℕ → ℕ) (v : InTurn (λ r. r ≡ row) (λ r. r ≡ row) (HasClearedColumns inactive_rows row start count t entries)
        (HasAdded row (at inactive_rows t) scalar) m now) where
      source_kept : (k : ℕ) → v.between (at inactive_rows t) k ≡ m (at inactive_rows t) k
      source_kept k = v.stays (at inactive_rows t) k (λ e. apart (sym e))

      next_zero : (k : ℕ) → m (at inactive_rows t) k ≡ 0 → now row k ≡ v.between row k
      next_zero k zero = sum_keeps row (at inactive_rows t) scalar v.rest v.second row k (source_kept k ∙ zero)

      module _ (column : ℕ → ℕ) (units : AreUnits inactive_rows start count column m) where
        other_zero : (f : ℕ) → f < count → f ≢ t → m (at inactive_rows t) (column f) ≡ 0
        other_zero f l d = units t f from inside l ∙ if_apart t f 1 0 (λ e. d (sym e))

        this_entry : m row (column t) ≡ entries t → now row (column t) ≡ 0
        this_entry shown =
            let one = units t t from inside inside ∙ if_same t t 1 0 refl in
            sum_cancels row (at inactive_rows t) scalar v.rest v.second (column t) small (source_kept (column t) ∙ one)
            (v.first.rest column units t (omega arith) inside ∙ shown ∙ sym scalar_is)

      next_cleared : HasClearedColumns inactive_rows row start count (t + 1) entries m now
      next_cleared = record {
        kept = λ k zeros. next_zero k (zeros t from inside) ∙ v.first.kept k zeros;
        cleared = λ column units shown f first l n. elim (cases_eq f t) [
          | inl e ↦ rw e (this_entry column units (shown t from inside))
          | inr d ↦ next_zero (column f) (other_zero column units f n d) ∙ v.first.cleared column units shown f first (omega arith) n
        ];
        rest = λ column units f l n. next_zero (column f) (other_zero column units f n (omega arith)) ∙ v.first.rest column units f (omega arith) n;
      }

    -- the next column where the row isn't 0 gets its multiple
    pub reduced_next : {before : ℕ} {old cur new : RecordedRows} → ClearsColumns inactive_rows row start count before entries old cur → before ≤ t
        → ((k : ℕ) → before ≤ k → k < t → entries k ≡ 0) → Records (sum_step row (at inactive_rows t) scalar ∷ []) cur new
        → ClearsColumns inactive_rows row start count (t + 1) entries old new
    reduced_next {old} {cur} {new} v forward none records =
        takes_more (reduced_zeros t v forward none) (takes_sum row _ scalar records) (records_more _ _ old cur new) (λ r e. e) (λ r e. e) next_cleared

-- ---- the multiples of a row in echelon form

pub one_of-one : (entry : ℕ) → entry ≡ 1 → one_of entry ≡ 1
one_of-one entry e = if_same entry 1 1 0 e

pub one_of-other : (entry : ℕ) → entry ≢ 1 → one_of entry ≡ 0
one_of-other entry d = if_apart entry 1 1 0 d

one_of-same : (entry : ℕ) → entry < 2 → one_of entry ≡ entry
one_of-same entry l = elim (cases_eq entry 1) [ inl e ↦ one_of-one entry e ∙ sym e | inr d ↦ one_of-other entry d ∙ omega arith ]

module _ {inactive_rows : List ℕ} {place : ℕ} where
  pub given_none : {old : RecordedRows} → GivesMultiples inactive_rows place 0 old old
  given_none {old} = takes_none (records_none old) (λ m. record { kept = λ r k zero. refl; given = λ k q one l shown. absurd (omega arith) })

  module _ {t : ℕ} (early : t < place) (in_rows : place < length inactive_rows) {old cur : RecordedRows} (are : AreRows inactive_rows old.table)
      (v : GivesMultiples inactive_rows place t old cur) where
    none_before : (q : ℕ) → q < length inactive_rows → t ≤ q → IsFirstOf inactive_rows t (at inactive_rows q) → ⊥
    none_before q l late first = let same = are.apart first.0 q (omega (arith, first.1)) l first.2 in omega (arith, same, first.1)

    apart_before : (q : ℕ) → q < place → q ≢ t → at inactive_rows q ≢ at inactive_rows t
    apart_before q l d e = d (are.apart q t (omega arith) (omega arith) e)

    abbrev entry : ℕ
    entry = entry_of old.table (at inactive_rows t) place

    -- a row with 0 or 1 there takes nothing
    pub given_nothing : entry_of old.table (at inactive_rows t) place < 2 → GivesMultiples inactive_rows place (t + 1) old cur
    given_nothing small = takes_same v (one_more _ _) (λ m now stays e. record {
      kept = e.kept;
      given = λ k q one l shown. elim (cases_eq q t) [
        | inl f ↦ rw f (stays (at inactive_rows t) k (none_before t (omega arith) (omega arith)) ∙ (rw f at shown) ∙ sym (one_of-same entry small))
        | inr d ↦ e.given k q one (omega arith) shown
      ];
    })

    module _ (scalar : ℕ) (small : scalar < 256) (other : scalar ≢ 1) (scalar_is : scalar ≡ entry_of old.table (at inactive_rows t) place) where
      next_given : (m now : ℕ → ℕ → ℕ) → InTurn (IsFirstOf inactive_rows t) (λ r. r ≡ at inactive_rows t) (HasGivenMultiples inactive_rows place t old.table)
          (HasAdded (at inactive_rows t) (at inactive_rows place) scalar) m now → HasGivenMultiples inactive_rows place (t + 1) old.table m now
      next_given m now w =
          let source = λ (k : ℕ). w.stays (at inactive_rows place) k (none_before place in_rows (omega arith)) in
          record {
            kept = λ r k zero. sum_keeps (at inactive_rows t) (at inactive_rows place) scalar w.rest w.second r k (source k ∙ zero) ∙ w.first.kept r k zero;
            given = λ k q one l shown. elim (cases_eq q t) [
              | inl e ↦
                  let own = w.stays (at inactive_rows t) k (none_before t (omega arith) (omega arith)) ∙ (rw e at shown) ∙ sym scalar_is in
                  rw e (sum_cancels (at inactive_rows t) (at inactive_rows place) scalar w.rest w.second k small (source k ∙ one) own
                  ∙ sym (one_of-other entry (λ f. other (scalar_is ∙ f))))
              | inr d ↦ w.rest (at inactive_rows q) k (apart_before q (omega arith) d) ∙ w.first.given k q one (omega arith) shown
            ];
          }

      pub given_more : {new : RecordedRows} → Records (sum_step (at inactive_rows t) (at inactive_rows place) scalar ∷ []) cur new
          → GivesMultiples inactive_rows place (t + 1) old new
      given_more {new} records =
          takes_more v (takes_sum (at inactive_rows t) (at inactive_rows place) scalar records) (records_more _ _ old cur new) (one_more _ _)
          (λ r e. (t, omega arith, sym e)) next_given

-- ---- rows in echelon form, the last first

module _ {inactive_rows : List ℕ} {count : ℕ} where
  pub back_none : {old : RecordedRows} → SubstitutesBack inactive_rows count count old old
  back_none {old} = takes_none (records_none old) (λ m. record {
    kept = λ r k zeros. refl;
    units = λ column shown t f late l n. absurd (omega arith);
    before = λ column shown. shown;
    left = λ column shown t f l late n. absurd (omega arith);
  })

  module _ (q : ℕ) (inside : q < count) {old cur mid new : RecordedRows} (are : AreRows inactive_rows old.table)
      (echelon : IsEchelon inactive_rows count old.table) (v : SubstitutesBack inactive_rows count (q + 1) old cur)
      (turn : ClearsColumns inactive_rows (at inactive_rows q) (q + 1) count count (λ f. one_of (entry_of cur.table (at inactive_rows q) f)) cur mid)
      (gives : GivesMultiples inactive_rows q q mid new) where
    fits : (t : ℕ) → t < count → t < length inactive_rows
    fits t l = omega (arith, echelon.fits)

    apart : (t s : ℕ) → t < count → s < count → t ≢ s → at inactive_rows t ≢ at inactive_rows s
    apart t s l n d e = d (are.apart t s (fits t l) (fits s n) e)

    abbrev Turned : (ℕ → ℕ → ℕ) → (ℕ → ℕ → ℕ) → Type 0
    Turned = InTurn (IsFirstOf inactive_rows count) (λ r. r ≡ at inactive_rows q) (HasSubstituted inactive_rows count (q + 1) old.table)
        (HasClearedColumns inactive_rows (at inactive_rows q) (q + 1) count count (λ f. one_of (entry_of cur.table (at inactive_rows q) f)))

    module _ (m now : ℕ → ℕ → ℕ)
        (w : InTurn (IsFirstOf inactive_rows count) (IsFirstOf inactive_rows q) Turned (HasGivenMultiples inactive_rows q q mid.table) m now) where
      abbrev was : HasSubstituted inactive_rows count (q + 1) old.table m w.first.between
      was = w.first.first

      zero_after : (k : ℕ) → ((f : ℕ) → f < count → m (at inactive_rows f) k ≡ 0) → (r : ℕ) → w.between r k ≡ m r k
      zero_after k zeros r = elim (cases_eq r (at inactive_rows q)) [
        | inl e ↦ rw e (w.first.second.kept k (λ f from l. was.kept (at inactive_rows f) k zeros ∙ zeros f l) ∙ was.kept (at inactive_rows q) k zeros)
        | inr d ↦ w.first.rest r k d ∙ was.kept r k zeros
      ]

      module _ (column : ℕ → ℕ) (shown : ShowInactive inactive_rows count column m old.table) where
        -- columns up to the row's own aren't touched as it takes ones
        early : (f : ℕ) → f < q + 1 → w.between (at inactive_rows q) (column f) ≡ entry_of old.table (at inactive_rows q) f
        early f l =
            w.first.second.kept (column f) (λ t from n. was.units column shown t f from n (omega arith) ∙ if_apart t f 1 0 (λ e. omega (arith, e, from, l)))
            ∙ was.before column shown q f (omega arith) l

        own_unit : (f : ℕ) → f < count → w.between (at inactive_rows q) (column f) ≡ (if q == f then 1 else 0)
        own_unit f l = elim (cases_lt f (q + 1)) [
          | inl first ↦ early f first ∙ elim (cases_eq q f) [
            | inl e ↦ rw (← e) (echelon.ones q inside ∙ sym (if_same q q 1 0 refl))
            | inr d ↦ echelon.zeros q f (fits q inside) (omega arith) l ∙ sym (if_apart q f 1 0 d)
          ]
          | inr late ↦
              w.first.second.cleared column (was.units column shown)
              (λ g from n. was.left column shown q g (omega arith) from n ∙ ap (λ u. one_of (entry_of u (at inactive_rows q) g)) (sym v.done.table)) f late l l
              ∙ sym (if_apart q f 1 0 (λ e. omega (arith, e, late)))
        ]

        units_next : AreUnits inactive_rows q count column now
        units_next t f from l n =
            w.rest (at inactive_rows t) (column f) (λ p. apart p.0 t (omega (arith, p.1)) l (omega (arith, p.1)) p.2)
            ∙ elim (cases_eq t q) [
              | inl e ↦ rw e (own_unit f n)
              | inr d ↦ w.first.rest (at inactive_rows t) (column f) (apart t q l inside d) ∙ was.units column shown t f (omega arith) l n
            ]

        -- a row before this one, where this one has 0, and where it has 1
        stays : (t f : ℕ) → t < q → f < count → f ≢ q → now (at inactive_rows t) (column f) ≡ w.first.between (at inactive_rows t) (column f)
        stays t f l n d =
            w.second.kept (at inactive_rows t) (column f) (own_unit f n ∙ if_apart q f 1 0 (λ e. d (sym e)))
            ∙ w.first.rest (at inactive_rows t) (column f) (apart t q (omega arith) inside (omega arith))

        tables : mid.table ≡ old.table
        tables = turn.done.table ∙ v.done.table

        loses : (t : ℕ) → t < q → now (at inactive_rows t) (column q) ≡ one_of (entry_of old.table (at inactive_rows t) q)
        loses t l =
            w.second.given (column q) t (own_unit q inside ∙ if_same q q 1 0 refl) l
            (w.first.rest (at inactive_rows t) _ (apart t q (omega arith) inside (omega arith)) ∙ was.before column shown t q (omega arith) (omega arith)
            ∙ ap (λ table. entry_of table (at inactive_rows t) q) (sym tables))
            ∙ ap (λ table. one_of (entry_of table (at inactive_rows t) q)) tables

      next_substituted : HasSubstituted inactive_rows count q old.table m now
      next_substituted = record {
        kept = λ r k zeros. w.second.kept r k (zero_after k zeros (at inactive_rows q) ∙ zeros q inside) ∙ zero_after k zeros r;
        units = λ column shown t f from l n. units_next column shown t f from l n;
        before = λ column shown t f l n. stays column shown t f l (omega arith) (omega arith) ∙ was.before column shown t f (omega arith) (omega arith);
        left = λ column shown t f l late n. elim (cases_eq f q) [
          | inl e ↦ rw e (loses column shown t l)
          | inr d ↦ stays column shown t f l n d ∙ was.left column shown t f (omega arith) (omega arith) n
        ];
      }

    pub back_more : SubstitutesBack inactive_rows count q old new
    back_more =
        let both = takes_more v turn (records_more _ _ old cur mid) (λ r c. c) (λ r e. (q, inside, sym e)) (λ m now w. w) in
        takes_more both gives (records_more _ _ old mid new) (λ r c. c) (λ r c. (c.0, omega (arith, c.1), c.2)) next_substituted
