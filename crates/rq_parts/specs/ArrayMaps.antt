-- What callers see of a map from keys to numbers.
use Rattle.std.specs.Prelude.{ℕ, ◌≡◌, ◌≢◌, ◌+◌, ◌-◌, ◌<◌, ◌≤◌, List, length, slice_index}

-- the first key, and the numbers at it and the keys after it
pub record Numbers : Type 0 where
  pub start : ℕ
  pub values : List ℕ

-- the number at a key, 0 past the last one
abbrev pub number_at : Numbers → ℕ → ℕ
number_at numbers key = slice_index numbers.values (key - numbers.start)

-- whether a key is one of those that have a number
abbrev pub HasKey : Numbers → ℕ → Type 0
HasKey numbers key = (numbers.start ≤ key) × (key < numbers.start + length numbers.values)

-- the same number at each key
abbrev pub IsSame : Numbers → Numbers → Type 0
IsSame old new = (new.start ≡ old.start) × ((k : ℕ) → number_at new k ≡ number_at old k)

-- another number at one key, and at the other keys the same
abbrev pub IsWith : Numbers → ℕ → ℕ → Numbers → Type 0
IsWith old key value new =
    (new.start ≡ old.start)
    × (number_at new key ≡ value)
    × ((k : ℕ) → old.start ≤ k → k ≢ key → number_at new k ≡ number_at old k)
