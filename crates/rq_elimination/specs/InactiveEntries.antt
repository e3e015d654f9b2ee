-- What rows have in the inactive columns: packed bits, or octets.
use Rattle.std.specs.Prelude.{◌≡◌, ◌≢◌, ℕ, zero, suc, ◌+◌, ◌%◌, ◌^◌, ◌<◌, ◌≤◌, List, [], ◌∷◌, ◌++◌, All, Option, None, Some, drop, length, map, slice_index_or}
use Rattle.std.specs.Simd.Lanes.{zip2}
use Rattle.rq_algebra.specs.Systems.{at}
use Rattle.rq_bytes.specs.BinaryOctetVec.{octets_of_bits}
use Rattle.rq_bytes.specs.SymbolSlab.{Slab}
use Rattle.rq_parts.specs.DenseOctetMatrix.{IsOctetRow}
use Rattle.rq_parts.specs.PackedBits.{HasZerosBetween, word_count}

-- a row whose first octets are those that another one has in columns
abbrev pub with_column_octets : List ℕ → List ℕ → List ℕ → List ℕ
with_column_octets octets columns row = map (at octets) columns ++ drop (length columns) row

-- a row: its own octets where it has some, and else its bits
abbrev pub entry_row : ℕ → List ℕ → List ℕ → List ℕ
entry_row width bits [] = octets_of_bits width bits
entry_row width bits (o ∷ os) = o ∷ os

abbrev pub entry_rows : ℕ → List (List ℕ) → List (List ℕ) → List (List ℕ)
entry_rows width bits octets = zip2 (entry_row width) bits octets

-- the words of as many bits as there are columns, and octets for as many rows
pub record AreEntries (width : ℕ) (bits octets : List (List ℕ)) : Type 0 where
  pub narrow : width < 2 ^ 17
  pub height : length octets ≡ length bits
  pub words : All (λ row. length row ≡ word_count width) bits
  pub rows : All (IsOctetRow width) (entry_rows width bits octets)

-- the place, counted from 0, that is counted from 1, and none at 0
abbrev pub place_before : ℕ → Option ℕ
place_before zero = None
place_before (suc place) = Some place

-- of a buffer's rows the one at a place that is counted from 1, and none at 0
abbrev pub row_placed : List (List ℕ) → ℕ → List ℕ
row_placed rows zero = []
row_placed rows (suc place) = slice_index_or rows place []

-- what each row has that has such a place
abbrev pub own_rows : List (List ℕ) → List ℕ → List (List ℕ)
own_rows rows places = map (row_placed rows) places

-- how many rows have no place
abbrev pub placeless : List ℕ → ℕ
placeless [] = 0
placeless (zero ∷ places) = suc (placeless places)
placeless (suc place ∷ places) = placeless places

-- each row of a buffer without an order is at the place of one row
pub record ArePlaced (octets : Slab) (places : List ℕ) : Type 0 where
  pub whole : octets.symbol_size % 32 ≡ 0
  pub narrow : octets.symbol_size < 2 ^ 17
  pub few : length places < 2 ^ 31
  pub order : octets.order ≡ None
  pub symbols : All (λ symbol. length symbol ≡ octets.symbol_size) octets.values
  pub counted : length octets.values + placeless places ≡ length places
  pub inside : All (λ place. place ≤ length octets.values) places
  pub apart : (i j : ℕ) → i < length places → j < length places → at places i ≢ 0 → at places i ≡ at places j → i ≡ j

-- the first place, from one on and before another, where there isn't 0
abbrev pub IsNextPlace : (ℕ → ℕ) → ℕ → ℕ → ℕ → Type 0
IsNextPlace entry from end place = (from ≤ place) × (place < end) × (entry place ≢ 0) × HasZerosBetween entry from place

-- that place with what is there
abbrev pub IsNextOctet : (ℕ → ℕ) → ℕ → ℕ → Option (ℕ × ℕ) → Type 0
IsNextOctet entry from end None = HasZerosBetween entry from end
IsNextOctet entry from end (Some found) = IsNextPlace entry from end found.0 × (found.1 ≡ entry found.0)
