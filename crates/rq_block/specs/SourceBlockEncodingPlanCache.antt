-- What callers see of a cache of plans.
use Rattle.std.specs.Prelude.{◌≡◌, ◌≤◌, ℕ, Bool, List, [], ◌∷◌, ◌++◌, length, drop, if◌then◌else◌, ◌==◌, nat_lt}
use Rattle.std.specs.List.{list_any}
use Rattle.rq_standard.specs.declared.row.TableRow.{TableRow}
use Rattle.rq_standard.specs.TableRows.{greatest_size, row_of}
use Rattle.rq_block.specs.declared.encoder.plan.SourceBlockEncodingPlan.{SourceBlockEncodingPlan}

-- its table, and the counts of source symbols of the plans that it holds, the first to fall out first
pub record PlanCache : Type 0 where
  pub table : List TableRow
  pub counts : List ℕ

-- whether a count is held
abbrev pub holds_count : List ℕ → ℕ → Bool
holds_count counts count = list_any (λ n. n == count) counts

-- the counts after a use of one: a count that is held changes nothing; a new one goes last, and the first falls out where there were 64
abbrev pub counts_after_use : List ℕ → ℕ → List ℕ
counts_after_use counts count =
    if holds_count counts count then counts
    else if nat_lt (length counts) 64 then counts ++ count ∷ []
    else drop 1 counts ++ count ∷ []

-- a cache after a use of a count
abbrev pub after_use : PlanCache → ℕ → PlanCache
after_use cache count = record cache { counts = counts_after_use cache.counts count }

-- a plan over that table
pub record IsPlanOver (table : List TableRow) (p : SourceBlockEncodingPlan) : Type 0 where
  pub known : p.source_symbol_count ≤ greatest_size table
  pub row : p.row.numbers ≡ row_of table p.source_symbol_count
