-- Rows of a matrix of octets that are written: one of them, and those from the first on.
use Rattle.std.specs.Prelude.{◌≡◌, ◌≢◌, ℕ, ◌<◌, ◌≤◌, ◌⊎◌, length}
use Rattle.rq_parts.specs.DenseOctetMatrix.{OctetTable, entry_of, HasOctets}

-- In their first columns the first n rows are these, and the rest are zeros. A table may be wider.
pub record HasLeading (height width n : ℕ) (wanted : ℕ → ℕ → ℕ) (table : OctetTable) : Type 0 where
  pub height_is : length table.rows ≡ height
  pub wide : width ≤ table.width
  pub octets : HasOctets table
  pub written : (i k : ℕ) → i < n → k < width → entry_of table i k ≡ wanted i k
  pub left : (i k : ℕ) → n ≤ i → i < height → k < width → entry_of table i k ≡ 0

-- the entries of one row from `start` on and before `end` are these, and the others are as they were
pub record WritesRow (row start end : ℕ) (wanted : ℕ → ℕ) (old new : OctetTable) : Type 0 where
  pub width : new.width ≡ old.width
  pub height : length new.rows ≡ length old.rows
  pub octets : HasOctets new
  pub here : (k : ℕ) → start ≤ k → k < end → entry_of new row k ≡ wanted k
  pub beside : (k : ℕ) → (k < start) ⊎ (end ≤ k) → entry_of new row k ≡ entry_of old row k
  pub elsewhere : (i k : ℕ) → i ≢ row → entry_of new i k ≡ entry_of old i k
