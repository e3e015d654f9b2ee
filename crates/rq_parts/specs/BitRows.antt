-- Tables of rows of words.
use Rattle.std.specs.Prelude.{ℕ, ◌==◌, Bool, List, length}
use Rattle.std.specs.Cmp.Lexicographic.{pointwise}
use Rattle.std.specs.Ordering.{eq_of_both, on}
use Rattle.rq_bytes.specs.Ranges.{joined_pieces}

-- whether two lists have as many rows, and these the same words
abbrev pub same_rows : List (List ℕ) → List (List ℕ) → Bool
same_rows = eq_of_both (on length ◌==◌) (on joined_pieces (pointwise ◌==◌))
