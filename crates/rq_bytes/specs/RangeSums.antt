-- Sums of ranges of one buffer.
use Rattle.std.specs.Prelude.{ℕ, ◌+◌, ◌≤◌, ◌⊎◌, List, fold, length}
use Rattle.rq_standard.specs.Rows.{row_sum, row_multiple}
use Rattle.rq_bytes.specs.Ranges.{range_of, with_range}

-- a row, and the n elements of a list from each of some starts on, added to it
abbrev pub with_ranges_added : List ℕ → List ℕ → List ℕ → ℕ → List ℕ
with_ranges_added row bytes starts n = fold (λ sum start. row_sum sum (range_of bytes start n)) row starts

-- the sum of the n elements from `dest` on and of those from each of some starts on
abbrev pub sum_of_ranges : List ℕ → ℕ → List ℕ → ℕ → List ℕ
sum_of_ranges bytes dest starts n = with_ranges_added (range_of bytes dest n) bytes starts n

-- of `count` elements there are `len` from `src` on, and none of them is among the `len` from `dest` on
abbrev pub IsRangeBeside : ℕ → ℕ → ℕ → ℕ → Type 0
IsRangeBeside count dest len src = (src + len ≤ count) × ((dest + len ≤ src) ⊎ (src + len ≤ dest))

-- a row, added to the elements from i on
abbrev pub with_row_added : List ℕ → ℕ → List ℕ → List ℕ
with_row_added xs i row = with_range xs i (row_sum (range_of xs i (length row)) row)

-- a row's multiples, one after another: by a target's octet, and added to the elements that begin `at` elements after its start
abbrev pub with_multiples_added : List ℕ → List ℕ → ℕ → List (ℕ × ℕ) → List ℕ
with_multiples_added bytes row at targets = fold (λ sum target. with_row_added sum (target.0 + at) (row_multiple target.1 row)) bytes targets

-- the n elements from `dest` on, doubled, and those from `src` on, added to them
abbrev pub doubled_sum : List ℕ → ℕ → ℕ → ℕ → List ℕ
doubled_sum bytes dest src n = row_sum (row_multiple 2 (range_of bytes dest n)) (range_of bytes src n)

-- a buffer that has this sum from `dest` on
abbrev pub with_doubled_sum : List ℕ → ℕ → ℕ → ℕ → List ℕ
with_doubled_sum bytes dest src n = with_range bytes dest (doubled_sum bytes dest src n)

-- the target that begins there, for a multiple by 1, which is an addition
abbrev pub by_one : ℕ → ℕ × ℕ
by_one start = (start, 1)

-- a start at `src` or before it, or past the `len` elements from there on
abbrev pub BeginsNotInside : ℕ → ℕ → ℕ → Type 0
BeginsNotInside src len start = (start ≤ src) ⊎ (src + len ≤ start)
