-- The rows that are left beside those of the pivots, and the order in which they are listed.
use Rattle.std.specs.Prelude.{◌≡◌, ◌≢◌, ◌⊎◌, ℕ, ◌+◌, ◌-◌, ◌<◌, if◌then◌else◌, nat_lt, List, Bool, true, false, Contains, length, slice_index_or}
use Rattle.rq_algebra.specs.Arrangements.{ArePlaces}
use Rattle.rq_algebra.specs.Systems.{at}

-- beside the pivots' rows all others below the height are left, each once
pub record ListsRows (height : ℕ) (rows left : List ℕ) : Type 0 where
  pub are : ArePlaces (length left) height (at left)
  pub apart : (p f : ℕ) → p < length rows → f < length left → at rows p ≢ at left f
  pub every : (r : ℕ) → r < height → Contains rows r ⊎ Contains left r

-- these rows have marks, and no others
pub record MarksRows (rows : List ℕ) (marks : List Bool) : Type 0 where
  pub marked : (p : ℕ) → p < length rows → slice_index_or marks (at rows p) false ≡ true
  pub has : (r : ℕ) → slice_index_or marks r false ≡ true → Contains rows r

-- of rows below the height `count` ones, which stand from row `first` on, have the last turns
abbrev pub row_in_turn : ℕ → ℕ → ℕ → ℕ → ℕ
row_in_turn height first count turn =
    if nat_lt turn first then turn else (if nat_lt turn (height - count) then turn + count else turn - (height - count) + first)
