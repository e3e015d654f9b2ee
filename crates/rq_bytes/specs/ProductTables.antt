-- Tables of octets.
use Rattle.std.specs.Prelude.{◌≡◌, ℕ, ◌<◌, List, [], slice_index, slice_index_or}

-- row i has f i j at place j
abbrev pub IsTableOf : ℕ → ℕ → (ℕ → ℕ → ℕ) → List (List ℕ) → Type 0
IsTableOf height width f table = (i j : ℕ) → i < height → j < width → slice_index (slice_index_or table i []) j ≡ f i j
