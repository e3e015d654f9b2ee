-- Columns in an order: those that have pivots, those that are active and those that are inactive.
use Rattle.std.specs.Prelude.{◌≡◌, ℕ, ◌+◌, ◌<◌, ◌≤◌, List, Contains, length}
use Rattle.std.specs.List.{range_with_len}
use Rattle.rq_algebra.specs.Arrangements.{exchange}
use Rattle.rq_algebra.specs.Systems.{at}
use Rattle.rq_matrix.specs.Orders.{IsOrderOf}

-- columns in an order, and the place of each: first those that have pivots, from place `end` on those that are inactive, and between them the active ones
pub record ColumnState : Type 0 where
  pub order : List ℕ
  pub places : List ℕ
  pub pivots : ℕ
  pub end : ℕ

-- what holds of each such state
pub record IsColumnState (state : ColumnState) : Type 0 where
  pub columns : IsOrderOf (length state.order) state.order state.places
  pub few : state.pivots ≤ state.end
  pub within : state.end ≤ length state.order

-- a column that has no pivot and isn't inactive
pub record IsActive (state : ColumnState) (column : ℕ) : Type 0 where
  pub from : state.pivots ≤ at state.places column
  pub below : at state.places column < state.end

-- none of a row's columns is active
abbrev pub HasNoActive : List ℕ → ColumnState → Type 0
HasNoActive row state = (k : ℕ) → Contains row k → IsActive state k → ⊥

-- columns in their own order, as many as this, those from `end` on inactive
abbrev pub first_columns : ℕ → ℕ → ColumnState
first_columns width end = record { order = range_with_len 0 width; places = range_with_len 0 width; pivots = 0; end = end }

-- the columns at places p and q are exchanged
pub record ExchangesColumns (p q : ℕ) (old new : ColumnState) : Type 0 where
  pub width : length new.order ≡ length old.order
  pub order : (j : ℕ) → j < length old.order → at new.order j ≡ at old.order (exchange p q j)
  pub places : (k : ℕ) → k < length old.order → at new.places k ≡ exchange p q (at old.places k)
  pub pivots : new.pivots ≡ old.pivots
  pub end : new.end ≡ old.end

-- the columns that are meant aren't active any more, others are as they were, and the pivots stay
pub record EndsThese (these : ℕ → Type 0) (old new : ColumnState) : Type 0 where
  pub width : length new.order ≡ length old.order
  pub before : (p : ℕ) → p < old.pivots → at new.order p ≡ at old.order p
  pub left : (k : ℕ) → k < length old.order → IsActive new k → IsActive old k × (these k → ⊥)
  pub kept : (k : ℕ) → k < length old.order → IsActive old k → (these k → ⊥) → IsActive new k
  pub fewer : new.end ≤ old.end

-- one column isn't active any more, others are as they were, and the pivots stay
abbrev pub EndsActive : ℕ → ColumnState → ColumnState → Type 0
EndsActive column old new = EndsThese (λ k. k ≡ column) old new

-- none of a row's columns is active any more, and no column has another pivot
pub record InactivatesRow (row : List ℕ) (old new : ColumnState) : Type 0 where
  pub pivots : new.pivots ≡ old.pivots
  pub ends : EndsThese (Contains row) old new

-- none of a row's columns is active any more, and the row has the next pivot, in one of its columns that were active
pub record TakesRow (row : List ℕ) (old new : ColumnState) : Type 0 where
  pub pivots : new.pivots ≡ old.pivots + 1
  pub own : Contains row (at new.order old.pivots)
  pub was : IsActive old (at new.order old.pivots)
  pub ends : EndsThese (Contains row) old new
