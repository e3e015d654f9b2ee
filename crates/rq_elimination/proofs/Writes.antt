-- Entries of a matrix of octets that are written: one, and those of a row one by one, or as another one has them in columns.
use Rattle.std.proofs.Common.{◌≡◌, ◌≢◌, ℕ, ◌<◌, ◌≤◌, List, [], length, set, refl, sym, ap, ◌∙◌, arith, inl, inr}
use Rattle.std.proofs.lemmas.Bool.{cases_eq}
use Rattle.std.proofs.lemmas.List.{get_or-set_same, get_or-set_other, length-set}
use Rattle.std.proofs.lemmas.List.Elements.{All-set}
use Rattle.rq_parts.specs.DenseOctetMatrix.{OctetTable, row_at, with_row, entry_of, HasOctets}
use Rattle.rq_algebra.specs.Systems.{at}
use Rattle.rq_elimination.specs.InactiveEntries.{with_column_octets}
use Rattle.rq_elimination.specs.LeadingRows.{WritesRow}
use Rattle.rq_elimination.proofs.WithOctets.{octet_first, octet_behind}
use Rattle.rq_elimination.proofs.ChangedEntries.{entry_of-with_row_same, entry_of-with_row_other}

-- one entry is written
pub record SetsEntry (row column octet : ℕ) (old new : OctetTable) : Type 0 where
  pub width : new.width ≡ old.width
  pub height : length new.rows ≡ length old.rows
  pub octets : HasOctets new
  pub here : entry_of new row column ≡ octet
  pub beside : (k : ℕ) → k ≢ column → entry_of new row k ≡ entry_of old row k
  pub elsewhere : (i k : ℕ) → i ≢ row → entry_of new i k ≡ entry_of old i k

module _ (table : OctetTable) (are : HasOctets table) (row column octet : ℕ) (in_rows : row < length table.rows) (in_columns : column < table.width) (small : octet < 256) where
  written : OctetTable
  written = with_row table row (set (row_at table row) column octet)

  long : column < length (row_at table row)
  long = omega (arith, are.widths row [] in_rows)

  at_here : entry_of written row column ≡ octet
  unfolding written
  at_here = entry_of-with_row_same table row _ column in_rows ∙ get_or-set_same (row_at table row) column octet 0 long

  at_other : (k : ℕ) → k ≢ column → entry_of written row k ≡ entry_of table row k
  unfolding written
  at_other k d = entry_of-with_row_same table row _ k in_rows ∙ get_or-set_other (row_at table row) column k octet 0 d

  in_other_row : (i k : ℕ) → i ≢ row → entry_of written i k ≡ entry_of table i k
  unfolding written
  in_other_row i k d = entry_of-with_row_other table row _ i k d

  sets : SetsEntry row column octet table written
  unfolding written
  sets = record {
    width = refl;
    height = length-set table.rows row _;
    octets = record {
      widths = All-set (λ r. length r ≡ table.width) table.rows row _ (length-set (row_at table row) column octet ∙ are.widths row [] in_rows) are.widths;
      elements = λ i k l m.
          let inside : i < length table.rows = omega (arith, length-set table.rows row (set (row_at table row) column octet)) in
          elim (cases_eq i row) [
            | inr d ↦ rw (in_other_row i k d) (are.elements i k inside m)
            | inl e ↦ rw e (elim (cases_eq k column) [ inl f ↦ rw (f, at_here) small | inr d ↦ rw (at_other k d) (are.elements row k in_rows m) ])
          ];
    };
    here = at_here;
    beside = at_other;
    elsewhere = in_other_row;
  }

  pub sets_entry : (new : OctetTable) → new ≡ with_row table row (set (row_at table row) column octet) → SetsEntry row column octet table new
  unfolding written
  sets_entry new e = rw e sets

-- ---- a range of a row

module _ (row start : ℕ) (old table new : OctetTable) where
  -- one entry of the range is written anew
  pub writes_again : (end column octet : ℕ) (before after : ℕ → ℕ) → start ≤ column → column < end → WritesRow row start end before old table → SetsEntry row column octet table new → octet ≡ after column
      → ((k : ℕ) → k ≢ column → after k ≡ before k) → WritesRow row start end after old new
  writes_again end column octet before after from below writes sets is others = record {
    width = sets.width ∙ writes.width;
    height = sets.height ∙ writes.height;
    octets = sets.octets;
    here = λ k l m. elim (cases_eq k column) [ inl e ↦ rw e (sets.here ∙ is) | inr d ↦ sets.beside k d ∙ writes.here k l m ∙ sym (others k d) ];
    beside = λ k out. elim out [
      | inl l ↦ sets.beside k (omega arith) ∙ writes.beside k (inl l)
      | inr l ↦ sets.beside k (omega arith) ∙ writes.beside k (inr l)
    ];
    elsewhere = λ i k d. sets.elsewhere i k d ∙ writes.elsewhere i k d;
  }

-- the first entries of a row are those that another one has in columns
pub writes_columns : (row count : ℕ) (octets columns : List ℕ) (wanted : ℕ → ℕ) (old new : OctetTable) → row < length old.rows → length columns ≡ count → ((f : ℕ) → f < count → at octets (at columns f) ≡ wanted f) → HasOctets new
    → new ≡ with_row old row (with_column_octets octets columns (row_at old row)) → WritesRow row 0 count wanted old new
writes_columns row count octets columns wanted old new inside many same are is = record {
  width = ap (λ (t : OctetTable). t.width) is;
  height = ap (λ (t : OctetTable). length t.rows) is ∙ length-set old.rows row _;
  octets = are;
  here = λ f from l. ap (λ (t : OctetTable). entry_of t row f) is ∙ entry_of-with_row_same old row _ f inside ∙ octet_first octets columns (row_at old row) f (omega arith) ∙ same f l;
  beside = λ f out. ap (λ (t : OctetTable). entry_of t row f) is ∙ entry_of-with_row_same old row _ f inside ∙ octet_behind octets columns (row_at old row) f (elim out [ inl l ↦ absurd (omega arith) | inr l ↦ omega arith ]);
  elsewhere = λ i k d. ap (λ (t : OctetTable). entry_of t i k) is ∙ entry_of-with_row_other old row _ i k d;
}
