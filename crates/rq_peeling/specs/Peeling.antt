-- Columns that have pivots among rows of bits while no row is changed.
use Rattle.std.specs.Prelude.{ℕ, ◌<◌, ◌≤◌, List, Contains, length}
use Rattle.rq_algebra.specs.Arrangements.{ArePlaces}
use Rattle.rq_algebra.specs.Systems.{at}
use Rattle.rq_matrix.specs.Orders.{IsOrderOf}
use Rattle.rq_peeling.specs.RowOnes.{ones_of}

-- The rows that have pivots, in the order in which they were chosen; the columns in an order, those with pivots first and in the same
-- order; and the place of each column in it.
pub record Pivots : Type 0 where
  pub rows : List ℕ
  pub order : List ℕ
  pub places : List ℕ

-- Pivot p's row has a one in the column at place p of the order, and none in those of later pivots. The columns after the pivots' are inactive.
pub record IsPeeled (width : ℕ) (lists : List (List ℕ)) (pivots : Pivots) : Type 0 where
  pub few : length pivots.rows ≤ width
  pub in_rows : ArePlaces (length pivots.rows) (length lists) (at pivots.rows)
  pub columns : IsOrderOf width pivots.order pivots.places
  pub own : (p : ℕ) → p < length pivots.rows → Contains (ones_of lists (at pivots.rows p)) (at pivots.order p)
  pub later : (p q : ℕ) → p < q → q < length pivots.rows → Contains (ones_of lists (at pivots.rows p)) (at pivots.order q) → ⊥
