-- What an iterator over a row has left.
use Rattle.std.specs.Prelude.{ℕ, ◌+◌, ◌-◌, ◌*◌, ◌<◌, ◌≤◌, List, length}
use Rattle.rq_parts.specs.BitPairs.{bit_pairs, ones_from}
use Rattle.rq_parts.specs.declared.iterators.DenseBits.TheInside.{Inside}
use Rattle.rq_parts.specs.declared.iterators.DenseOnes.TheInside as dense_ones
use Rattle.rq_parts.specs.declared.iterators.Left.{Left}
use Rattle.rq_parts.specs.declared.iterators.Left.TheVariants.{Columns, Ones, Sparse}

-- the columns that are left, with the bits from the present one on
abbrev pub bits_left : Inside → List (ℕ × ℕ)
bits_left b = bit_pairs b.words.now (64 * b.word + b.bit) b.column (b.end - b.column)

-- each of these bits is one of the words'
pub record IsWithinWords (b : Inside) : Type 0 where
  pub range : b.column ≤ b.end
  pub bit_below : b.bit < 64
  pub within : 64 * b.word + b.bit + (b.end - b.column) ≤ 64 * length b.words.now

-- the ones that are left: those of the word at hand, and those of the words behind it
abbrev pub dense_ones_left : dense_ones.Inside → List (ℕ × ℕ)
dense_ones_left d = ones_from d.words.now d.end d.word d.bits

-- the word at hand doesn't begin past the end of the columns, for all of which there are words
pub record IsWithinRow (d : dense_ones.Inside) : Type 0 where
  pub begins : 64 * d.word ≤ d.end
  pub within : d.end ≤ 64 * length d.words.now

-- the columns that are left, the ones that are left, or those of a sparse row
abbrev pub pairs_left : Left → List (ℕ × ℕ)
pairs_left (Columns bits) = bits
pairs_left (Ones ones) = ones
pairs_left (Sparse ones) = ones
