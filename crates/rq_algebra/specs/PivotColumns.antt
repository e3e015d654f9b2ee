-- Rows that have pivots, and the steps to them.
use Rattle.std.specs.Prelude.{◌≡◌, ◌≢◌, ℕ, ◌<◌, ◌≤◌, List, length, slice_index}
use Rattle.rq_algebra.specs.Field.{Field}
use Rattle.rq_algebra.specs.Arrangements.{ArePlaces}

-- row `rows p` has its only entry, a 1, in column `columns p`, for as many p as there are columns, and the other rows are zeros
pub record HasPivots (F : Field) (height width : ℕ) (a : ℕ → ℕ → ℕ) (rows columns : ℕ → ℕ) : Type 0 where
  pub in_rows : ArePlaces width height rows
  pub in_columns : ArePlaces width width columns
  pub ones : (p : ℕ) → p < width → a (rows p) (columns p) ≡ 1
  pub zeros : (p k : ℕ) → p < width → k < width → k ≢ columns p → a (rows p) k ≡ 0
  pub rest : (i k : ℕ) → i < height → ((p : ℕ) → p < width → rows p ≢ i) → k < width → a i k ≡ 0

-- the order maps each column to the row of its pivot
pub record ReadsPivots (width : ℕ) (rows columns : ℕ → ℕ) (order : List ℕ) : Type 0 where
  pub count : length order ≡ width
  pub reads : (p : ℕ) → p < width → slice_index order (columns p) ≡ rows p

-- Of the rows `rows 0` to `rows (count - 1)`, row `rows p` has a 1 in column `columns p`, for p < done, and the others have 0 there.
pub record HasFirstPivots (count done : ℕ) (a : ℕ → ℕ → ℕ) (rows columns : ℕ → ℕ) : Type 0 where
  pub ones : (p : ℕ) → p < done → a (rows p) (columns p) ≡ 1
  pub zeros : (i p : ℕ) → i < count → p < done → i ≢ p → a (rows i) (columns p) ≡ 0

-- Of rows `rows 0` to `rows (count - 1)` the first n, but for row `rows pivot`, have had a multiple of it added: what they had in the column times the row.
pub record ClearsColumn (F : Field) (count width pivot column n : ℕ) (rows : ℕ → ℕ) (old new : ℕ → ℕ → ℕ) : Type 0 where
  pub kept : (k : ℕ) → k < width → new (rows pivot) k ≡ old (rows pivot) k
  pub cleared : (i k : ℕ) → i < n → k < width → i ≢ pivot → new (rows i) k ≡ F.add (old (rows i) k) (F.mul (old (rows i) column) (old (rows pivot) k))
  pub rest : (i k : ℕ) → n ≤ i → i < count → k < width → new (rows i) k ≡ old (rows i) k
