-- Rows whose entries in the inactive columns are filled in: first those of the rows of bits, column by column, and then the rows of octets.
use Rattle.std.proofs.Common.{◌≡◌, ◌≢◌, ℕ, ◌+◌, ◌<◌, List, length, min, take, refl, sym, ap, ◌∙◌, arith, inl, inr}
use Rattle.std.proofs.lemmas.Bool.{cases_eq}
use Rattle.rq_algebra.specs.Systems.{at}
use Rattle.rq_parts.specs.DenseOctetMatrix.{OctetTable, entry_of, HasOctets}
use Rattle.rq_standard.specs.ConstraintMatrix.{with_octet_rows}
use Rattle.rq_elimination.specs.LeadingRows.{HasLeading, WritesRow}
use Rattle.rq_solver.specs.InactiveColumns.{FillsColumn}
use Rattle.rq_peeling.specs.SystemRows.{one_in}
use Rattle.rq_solver.proofs.OctetRows.{octet_row}
use Rattle.rq_peeling.proofs.Counting.{count_next, count_skipped}
use Rattle.rq_elimination.proofs.Writes.{SetsEntry}

-- ---- a column

pub column_first : (rows : List ℕ) (column : ℕ) (table : OctetTable) → HasOctets table → ((i : ℕ) → i < length table.rows → entry_of table i column ≡ 0) → FillsColumn (take 0 rows) column table table
column_first rows column table are zeros = record { width = refl; height = refl; octets = are; here = zeros; beside = λ i k d. refl }

-- one row more has 1 there
pub column_next : (rows : List ℕ) (t column : ℕ) (old table new : OctetTable) → t < length rows → FillsColumn (take t rows) column old table → SetsEntry (at rows t) column 1 table new → FillsColumn (take (t + 1) rows) column old new
column_next rows t column old table new l v sets = record {
  width = sets.width ∙ v.width;
  height = sets.height ∙ v.height;
  octets = sets.octets;
  here = λ i m. elim (cases_eq i (at rows t)) [
    | inl e ↦ rw e (sets.here ∙ sym (ap (min 1) (count_next rows t (at rows t) l refl) ∙ omega arith))
    | inr d ↦ sets.elsewhere i column d ∙ v.here i m ∙ sym (ap (min 1) (count_skipped rows t i l (λ e. d (sym e))))
  ];
  beside = λ i k d. elim (cases_eq i (at rows t)) [
    | inl e ↦ rw e (sets.beside k d ∙ v.beside (at rows t) k d)
    | inr apart ↦ sets.elsewhere i k apart ∙ v.beside i k d
  ];
}

-- ---- the rows of octets

module _ (lists : List (List ℕ)) (first : ℕ) (hdpc : OctetTable) (order : List ℕ) (pivots : ℕ) where
  -- what rows have in an inactive column while of the rows of octets the first ones alone stand there
  abbrev pub rows_so_far : ℕ → ℕ → ℕ → ℕ
  rows_so_far done r f = with_octet_rows first done (one_in lists) (entry_of hdpc) r (at order (pivots + f))

  -- a row of octets changes no other row
  apart : (done i f : ℕ) → first + done ≢ i → rows_so_far done i f ≡ rows_so_far (done + 1) i f
  apart done i f d = grind (arith, d)

  pub leading_next : (inactive done : ℕ) (old new : OctetTable) → HasLeading (length lists) inactive (length lists) (rows_so_far done) old → WritesRow (first + done) 0 inactive (λ f. entry_of hdpc done (at order (pivots + f))) old new
      → HasLeading (length lists) inactive (length lists) (rows_so_far (done + 1)) new
  leading_next inactive done old new v fills = record {
    height_is = fills.height ∙ v.height_is;
    wide = rw fills.width v.wide;
    octets = fills.octets;
    written = λ i k l m. elim (cases_eq i (first + done)) [
      | inl e ↦ rw e (fills.here k (omega arith) m ∙ sym (octet_row first (done + 1) (entry_of hdpc) (one_in lists) done (at order (pivots + k)) (omega arith)))
      | inr d ↦ fills.elsewhere i k d ∙ v.written i k l m ∙ apart done i k (λ e. d (sym e))
    ];
    left = λ i k l m. absurd (omega (arith, l, m));
  }
