-- The pivots that columns have so far.
use Rattle.std.specs.Prelude.{◌≡◌, ℕ, ◌<◌, ◌≤◌, List, Contains, length}
use Rattle.rq_algebra.specs.Arrangements.{ArePlaces}
use Rattle.rq_algebra.specs.Systems.{at}
use Rattle.rq_peeling.specs.RowDegrees.{CountsActive, TakesColumnsLeft, TakesFewestLeft, is_active, is_left}
use Rattle.rq_peeling.specs.ColumnState.{ColumnState, IsActive}
use Rattle.rq_peeling.specs.RowOnes.{ones_of}

-- the pivots so far: none of their rows has an active column any more
pub record IsPeeledSo (lists : List (List ℕ)) (rows : List ℕ) (state : ColumnState) : Type 0 where
  pub count : length rows ≡ state.pivots
  pub in_rows : ArePlaces (length rows) (length lists) (at rows)
  pub own : (p : ℕ) → p < length rows → Contains (ones_of lists (at rows p)) (at state.order p)
  pub later : (p q : ℕ) → p < q → q < length rows → Contains (ones_of lists (at rows p)) (at state.order q) → ⊥
  pub ended : (p k : ℕ) → p < length rows → Contains (ones_of lists (at rows p)) k → IsActive state k → ⊥

-- these rows were taken, each with the fewest ones in the columns that were left, and the degrees tell how many ones of each row stand in active columns
pub record HasChosen (width lt_columns : ℕ) (lists : List (List ℕ)) (rows : List ℕ) (state : ColumnState) (degrees : List ℕ) : Type 0 where
  pub so : IsPeeledSo lists rows state
  pub end : state.end ≤ lt_columns
  pub left : (k : ℕ) → k < width → is_left lists lt_columns rows k ≡ is_active state k
  pub counts : CountsActive lists state degrees
  pub fewest : TakesFewestLeft lists lt_columns rows
  pub columns : TakesColumnsLeft lists lt_columns rows state.order
