-- One turn of an elimination that gives columns pivots from the left on.
use Rattle.std.proofs.Common.{◌≢◌, ℕ, ◌+◌, ◌<◌, ◌≤◌, List, length, arith}
use Rattle.rq_algebra.specs.Steps.{ScalesRow}
use Rattle.rq_algebra.specs.Systems.{at}
use Rattle.rq_algebra.specs.PivotColumns.{ClearsColumn}
use Rattle.rq_algebra.proofs.Reduction.{first_pivots_rows, first_pivots_more}
use Rattle.rq_standard.specs.OctetField.{octets}
use Rattle.rq_parts.specs.DenseOctetMatrix.{OctetTable, entry_of, HasOctets}
use Rattle.rq_elimination.specs.RowSteps.{AreRows}
use Rattle.rq_null_vector.specs.Reduced.{IsReduced}
use Rattle.rq_elimination.proofs.SwappedRows.{Exchanges, at-swapped}

pub swapped_reduced : {rows swapped : List ℕ} {p q : ℕ} → Exchanges rows swapped p q → (first done : ℕ) (table : OctetTable) → done ≤ p → done ≤ q → IsReduced rows first done table → IsReduced swapped first done table
swapped_reduced {rows} {swapped} {p} {q} exchanges first done table left_p left_q reduced = record {
  fits = rw exchanges.len reduced.fits;
  pivots = rw exchanges.len (first_pivots_rows (length rows) done (entry_of table) (at rows) (λ k. first + k) reduced.pivots p q left_p left_q (at swapped) exchanges.left exchanges.right reduced.fits (λ i l. at-swapped exchanges i));
}

-- the row that stands at `done` is scaled, and clears the column in the others
pub reduced_more : (rows : List ℕ) (first done : ℕ) (a b c : OctetTable) → AreRows rows a → done < length rows → first + done < a.width → HasOctets a → entry_of a (at rows done) (first + done) ≢ 0
    → ScalesRow octets (length a.rows) a.width (at rows done) (octets.inverse (entry_of a (at rows done) (first + done))) (entry_of a) (entry_of b)
    → ClearsColumn octets (length rows) a.width done (first + done) (length rows) (at rows) (entry_of b) (entry_of c)
    → IsReduced rows first done a → IsReduced rows first (done + 1) c
reduced_more rows first done a b c are in_rows in_columns octets_in nonzero scales clears reduced = record {
  fits = omega arith;
  pivots = first_pivots_more octets (length a.rows) a.width (length rows) done (entry_of a) (entry_of b) (entry_of c) (at rows) (λ p. first + p) are (λ k l. omega arith) in_rows octets_in.elements nonzero scales clears reduced.pivots;
}
