-- What callers see of a dense matrix of bits.
use Rattle.std.specs.Prelude.{◌≡◌, ℕ, ◌/◌, ◌%◌, List, [], length, slice_index, slice_index_or}
use Rattle.std.proofs.Common.{ap}
use Rattle.std.proofs.lemmas.Nat.Bits.{bit_at-lt}
use Rattle.rq_standard.specs.BitTable.{BitTable, IsBitTable}
use Rattle.rq_standard.specs.BitTableSteps.{IsUnchanged}
use Rattle.rq_matrix.specs.DenseRows.{bit_in}
use Rattle.rq_matrix.specs.declared.matrix.DenseBinaryMatrix.{DenseBinaryMatrix}

-- its rows, its columns and what it keeps beside them
abbrev pub dense_content : DenseBinaryMatrix → BitTable
dense_content m = record { height = length m.rows; width = m.width; boundary = m.boundary; indexed = m.indexed; bit = bit_in m.rows }

pub is_dense_table : (m : DenseBinaryMatrix) → IsBitTable (dense_content m)
is_dense_table m = record {
  height_fits = m.height_fits;
  width_fits = m.width_fits;
  within = m.within;
  bits = λ i k _ _. bit_at-lt (slice_index (slice_index_or m.rows i []) (k / 64)) (k % 64);
}

-- a matrix each of whose parts is equal to that of another one
pub record IsDenseCopy (old new : DenseBinaryMatrix) : Type 0 where
  pub width : new.width ≡ old.width
  pub boundary : new.boundary ≡ old.boundary
  pub indexed : new.indexed ≡ old.indexed
  pub rows : new.rows ≡ old.rows

pub dense_copy_is_same : (old new : DenseBinaryMatrix) → IsDenseCopy old new → IsUnchanged (dense_content old) (dense_content new)
dense_copy_is_same old new copy = record {
  shape = record { height = ap length copy.rows; width = copy.width; boundary = copy.boundary; indexed = copy.indexed };
  bits = λ i k _ _. ap (λ (rows : List (List ℕ)). bit_in rows i k) copy.rows;
}
