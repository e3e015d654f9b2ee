-- A matrix of octets in which one octet is set.
use Rattle.std.proofs.Common.{◌≡◌, ◌≢◌, ℕ, ◌<◌, [], length, set, get_or, sym, ap, ◌∙◌, subst, arith, inl, inr}
use Rattle.std.proofs.lemmas.Bool.{cases_eq}
use Rattle.std.proofs.lemmas.List.{get_or-set_same, get_or-set_other, length-set}
use Rattle.rq_parts.specs.DenseOctetMatrix.{OctetTable, row_at, with_row, entry_of}
use Rattle.rq_base.specs.HdpcPart.{HasShape}

pub record Sets (height width : ℕ) (old new : OctetTable) (i j value : ℕ) : Type 0 where
  pub shape : HasShape height width new
  pub here : entry_of new i j ≡ value
  pub other_row : (i' k : ℕ) → i' ≢ i → entry_of new i' k ≡ entry_of old i' k
  pub other_column : (i' k : ℕ) → k ≢ j → entry_of new i' k ≡ entry_of old i' k

module _ {height width : ℕ} {old : OctetTable} (shape : HasShape height width old) (i j value : ℕ) (row : i < height) (column : j < width) where
  abbrev written : OctetTable
  written = with_row old i (set (row_at old i) j value)

  row_here : row_at written i ≡ set (row_at old i) j value
  row_here = get_or-set_same old.rows i (set (row_at old i) j value) [] (omega (arith, shape.tall))

  row_there : (i' : ℕ) → i' ≢ i → row_at written i' ≡ row_at old i'
  row_there i' d = get_or-set_other old.rows i i' (set (row_at old i) j value) [] d

  written_shape : HasShape height width written
  written_shape = record {
    tall = length-set old.rows i (set (row_at old i) j value) ∙ shape.tall;
    wide = shape.wide;
    full = λ i' lt. elim (cases_eq i' i) [
      | inl e ↦ ap (λ n. length (row_at written n)) e ∙ ap length row_here ∙ length-set (row_at old i) j value ∙ shape.full i row
      | inr d ↦ ap length (row_there i' d) ∙ shape.full i' lt
    ];
  }

  written_column : (i' k : ℕ) → k ≢ j → entry_of written i' k ≡ entry_of old i' k
  written_column i' k d =
      elim (cases_eq i' i) [
        | inl e ↦
            ap (λ n. entry_of written n k) e ∙ ap (λ r. get_or r k 0) row_here ∙ get_or-set_other (row_at old i) j k value 0 d ∙ ap (λ n. entry_of old n k) (sym e)
        | inr e ↦ ap (λ r. get_or r k 0) (row_there i' e)
      ]

  pub sets : (new : OctetTable) → new ≡ with_row old i (set (row_at old i) j value) → Sets height width old new i j value
  sets new e =
      subst (λ (t : OctetTable). Sets height width old t i j value) (sym e) (record {
        shape = written_shape;
        here = ap (λ r. get_or r j 0) row_here ∙ get_or-set_same (row_at old i) j value 0 (omega (arith, shape.full i row));
        other_row = λ i' k d. ap (λ r. get_or r k 0) (row_there i' d);
        other_column = written_column;
      })
