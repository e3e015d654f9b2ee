-- A column that solves rows with zeros as values, while an inactive column has no pivot.
use Rattle.std.specs.Prelude.{◌≡◌, ◌≢◌, ℕ, ◌+◌, ◌<◌, ◌≤◌, List, length}
use Rattle.rq_algebra.specs.Systems.{at, dot}
use Rattle.rq_standard.specs.OctetField.{octets}
use Rattle.rq_parts.specs.DenseOctetMatrix.{OctetTable, entry_of}
use Rattle.rq_peeling.specs.Peeling.{Pivots}
use Rattle.rq_peeling.specs.SystemRows.{one_in}
use Rattle.rq_solver.specs.Peeled.{inactive_count}
use Rattle.rq_solver.specs.declared.pi_solver.peeled.Peeled.{Peeled}

abbrev pub IsZeroColumn : List ℕ → Type 0
IsZeroColumn column = (k : ℕ) → k < length column → at column k ≡ 0

-- what a column has in an inactive column
abbrev pub inactive_entry : Pivots → List ℕ → ℕ → ℕ
inactive_entry pivots column f = at column (at pivots.order (length pivots.rows + f))

-- what a row of the table says of it there
abbrev pub inactive_dot : Pivots → OctetTable → List ℕ → ℕ → ℕ
inactive_dot pivots table column row = dot octets (inactive_count pivots) (entry_of table row) (inactive_entry pivots column)

-- In the inactive columns it isn't all zeros, and solves the rows that are left.
pub record SolvesLeftRows (pivots : Pivots) (left : List ℕ) (table : OctetTable) (column : List ℕ) : Type 0 where
  pub count : length column ≡ length pivots.places
  pub rows : (q : ℕ) → q < length left → inactive_dot pivots table column (at left q) ≡ 0
  pub place : ℕ
  pub below : place < inactive_count pivots
  pub nonzero : inactive_entry pivots column place ≢ 0

-- a column has zeros at the pivots from the one numbered `start` on
abbrev pub HasZerosAtPivots : Pivots → ℕ → List ℕ → Type 0
HasZerosAtPivots pivots start column = (p : ℕ) → start ≤ p → p < length pivots.rows → at column (at pivots.order p) ≡ 0

-- a column solves the rows of the first pivots, as they were handed in
abbrev pub SolvesPivotRows : Peeled → ℕ → List ℕ → Type 0
SolvesPivotRows p done column = (q : ℕ) → q < done → dot octets (length p.peeling.places) (one_in p.ones (at p.peeling.rows q)) (at column) ≡ 0
