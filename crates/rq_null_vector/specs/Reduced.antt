-- Rows whose first ones have pivots.
use Rattle.std.specs.Prelude.{◌≡◌, ℕ, ◌+◌, ◌-◌, ◌≤◌, List, ◌∷◌, ◌++◌, length, map, replicate}
use Rattle.rq_algebra.specs.Systems.{at}
use Rattle.rq_algebra.specs.PivotColumns.{ClearsColumn, HasFirstPivots}
use Rattle.rq_standard.specs.OctetField.{octets}
use Rattle.rq_parts.specs.DenseOctetMatrix.{OctetTable, entry_of}

-- the first rows have pivots in columns `first`, `first + 1`, .., and the others of these rows have 0 there
pub record IsReduced (rows : List ℕ) (first done : ℕ) (table : OctetTable) : Type 0 where
  pub fits : done ≤ length rows
  pub pivots : HasFirstPivots (length rows) done (entry_of table) (at rows) (λ p. first + p)

-- in one column the rows but its pivot's have had what they had there times the pivot's row added
abbrev pub ClearsOthers : List ℕ → ℕ → OctetTable → OctetTable → Type 0
ClearsOthers rows column old new = ClearsColumn octets (length rows) old.width column column (length rows) (at rows) (entry_of old) (entry_of new)

-- what the pivots' rows have in the first column without a pivot, then 1, and zeros up to the width
abbrev pub IsPivotColumn : List ℕ → ℕ → OctetTable → List ℕ → Type 0
IsPivotColumn pivots width table column = column ≡ map (λ row. entry_of table row (length pivots)) pivots ++ 1 ∷ replicate (width - length pivots - 1) 0
