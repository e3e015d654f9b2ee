-- Operations done to the rows of a matrix, as they are recorded for the values.
use Rattle.std.specs.Prelude.{◌≡◌, ◌≢◌, ℕ, ◌<◌, ◌≤◌, ◌==◌, if◌then◌else◌, List, [], ◌∷◌, All, Contains, length}
use Rattle.std.specs.List.{range_with_len}
use Rattle.rq_algebra.specs.Field.{Field}
use Rattle.rq_algebra.specs.Arrangements.{ArePlaces}
use Rattle.rq_algebra.specs.Steps.{AddsRow, ScalesRow}
use Rattle.rq_algebra.specs.Systems.{at}
use Rattle.rq_algebra.specs.Operations.{Operation, AddAssign, MulAssign, Fma, Reorder}
use Rattle.rq_algebra.specs.Changes.{with_at}
use Rattle.rq_standard.specs.OctetField.{octets}
use Rattle.rq_parts.specs.DenseOctetMatrix.{OctetTable, entry_of}

-- rows of a table, each at most once
abbrev pub AreRows : List ℕ → OctetTable → Type 0
AreRows rows table = ArePlaces (length rows) (length table.rows) (at rows)

-- a row of a table can take these other ones of it
pub record CanTake (row : ℕ) (others : List ℕ) (table : OctetTable) : Type 0 where
  pub taker : row < length table.rows
  pub rows : AreRows others table
  pub apart : (f : ℕ) → f < length others → row ≢ at others f

-- a multiple of a row is added
abbrev pub sum_step : ℕ → ℕ → ℕ → Operation
sum_step dest src scalar = if scalar == 1 then AddAssign dest src else Fma dest src scalar

-- the rows after an operation, which does to them what it does to the values
unfoldable pub row_step : Field → Operation → (ℕ → ℕ → ℕ) → ℕ → ℕ → ℕ
row_step F (AddAssign dest src) a = with_at a dest (λ k. F.add (a dest k) (a src k))
row_step F (MulAssign dest scalar) a = with_at a dest (λ k. F.mul scalar (a dest k))
row_step F (Fma dest src scalar) a = with_at a dest (λ k. F.add (a dest k) (F.mul scalar (a src k)))
row_step F (Reorder order) a = a

-- the rows after operations, done first to last
unfoldable pub rows_after : Field → List Operation → (ℕ → ℕ → ℕ) → ℕ → ℕ → ℕ
rows_after F [] a = a
rows_after F (operation ∷ operations) a = rows_after F operations (row_step F operation a)

-- an elementary operation on rows of which a list has each
abbrev pub IsStepAmong : Field → List ℕ → Operation → Type 0
IsStepAmong F rows (AddAssign dest src) = Contains rows dest × Contains rows src × (src ≢ dest)
IsStepAmong F rows (MulAssign dest scalar) = Contains rows dest × (scalar < F.size) × (scalar ≢ 0)
IsStepAmong F rows (Fma dest src scalar) = Contains rows dest × Contains rows src × (src ≢ dest)
IsStepAmong F rows (Reorder order) = ⊥

-- a step that changes a row of which this holds
abbrev pub IsStepTo : (ℕ → Type 0) → Operation → Type 0
IsStepTo P (AddAssign dest src) = P dest
IsStepTo P (MulAssign dest scalar) = P dest
IsStepTo P (Fma dest src scalar) = P dest
IsStepTo P (Reorder order) = ⊥

-- steps among all rows below a height
abbrev pub AreStepsBelow : Field → ℕ → List Operation → Type 0
AreStepsBelow F height steps = All (IsStepAmong F (range_with_len 0 height)) steps

-- a row is multiplied so that it has 1 in a column
abbrev pub ScalesToOne : ℕ → ℕ → OctetTable → OctetTable → Type 0
ScalesToOne row column old new = ScalesRow octets (length old.rows) old.width row (octets.inverse (entry_of old row column)) (entry_of old) (entry_of new)

-- a row takes what it has in a column times another one
abbrev pub ClearsEntry : ℕ → ℕ → ℕ → OctetTable → OctetTable → Type 0
ClearsEntry dest src column old new = AddsRow octets (length old.rows) old.width dest src (entry_of old dest column) (entry_of old) (entry_of new)

-- the first of these rows have 1 in their own columns, the first of all, and the rows behind each of them have 0 there
pub record IsEchelon (rows : List ℕ) (done : ℕ) (table : OctetTable) : Type 0 where
  pub fits : done ≤ length rows
  pub ones : (p : ℕ) → p < done → entry_of table (at rows p) p ≡ 1
  pub zeros : (i p : ℕ) → i < length rows → p < i → p < done → entry_of table (at rows i) p ≡ 0

-- after some pivots the rows that are left have 0 in the next column
pub record IsStuck (rows : List ℕ) (count : ℕ) (table : OctetTable) : Type 0 where
  pub done : ℕ
  pub below : done < count
  pub echelon : IsEchelon rows done table
  pub empty : (i : ℕ) → done ≤ i → i < length rows → entry_of table (at rows i) done ≡ 0

-- Of some rows those between the pivot's and place n have had a multiple of the pivot's row added: what they had in its column times
-- that row.
pub record ClearsBelow (rows : List ℕ) (pivot n : ℕ) (old new : OctetTable) : Type 0 where
  pub kept : (i k : ℕ) → i ≤ pivot → i < length rows → k < old.width → entry_of new (at rows i) k ≡ entry_of old (at rows i) k
  pub cleared : (i k : ℕ) → pivot < i → i < n → i < length rows → k < old.width
      → entry_of new (at rows i) k ≡ octets.add (entry_of old (at rows i) k) (octets.mul (entry_of old (at rows i) pivot) (entry_of old (at rows pivot) k))
  pub rest : (i k : ℕ) → pivot < i → n ≤ i → i < length rows → k < old.width → entry_of new (at rows i) k ≡ entry_of old (at rows i) k
