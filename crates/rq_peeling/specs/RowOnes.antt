-- The columns of the ones of each row of bits.
use Rattle.std.specs.Prelude.{◌≡◌, ℕ, ◌-◌, ◌<◌, List, [], length, take, drop, slice_index_or}
use Rattle.rq_algebra.specs.Systems.{at}
use Rattle.rq_standard.specs.BitTableSteps.{ArePlacesOfOnes}
use Rattle.rq_parts.specs.ImmutableListMap.{AreStarts}

-- the columns in which row i has its ones
abbrev pub ones_of : List (List ℕ) → ℕ → List ℕ
ones_of lists i = slice_index_or lists i []

-- the lists between starts are all of the values
pub record AreAllBetween (starts values : List ℕ) : Type 0 where
  pub rise : AreStarts starts (length values)
  pub first : at starts 0 ≡ 0
  pub last : at starts (length starts - 1) ≡ length values

-- for each row of bits the columns of its ones, each once
pub record AreOnesOfRows (height width : ℕ) (bit : ℕ → ℕ → ℕ) (lists : List (List ℕ)) : Type 0 where
  pub count : length lists ≡ height
  pub each : (i : ℕ) → i < height → ArePlacesOfOnes (bit i) 0 width (ones_of lists i)

-- behind a list of columns, which stays as it was, those of a row's ones
pub record AddsOneColumns (bit : ℕ → ℕ) (width : ℕ) (old new : List ℕ) : Type 0 where
  pub kept : take (length old) new ≡ old
  pub ones : ArePlacesOfOnes bit 0 width (drop (length old) new)
