-- Recorded operations that keep the solutions of a system.
use Rattle.std.specs.Prelude.{◌≡◌, ℕ, List, None}
use Rattle.rq_algebra.specs.Field.{Field}
use Rattle.rq_algebra.specs.Systems.{at}
use Rattle.rq_algebra.specs.Steps.{SameSolutions}
use Rattle.rq_algebra.specs.Operations.{Operation, Store, AreAllowed, IsValues, unordered, plain, run}

-- with these values the rows have the solutions that the original rows have with v
pub record KeepsSolutions (F : Field) (height width : ℕ) (original rows : ℕ → ℕ → ℕ) (v : List ℕ) (s : Store ℕ) : Type 0 where
  pub values : IsValues F height s.values
  pub order : s.order ≡ None
  pub same : SameSolutions F height width original (at v) rows (at s.values)

-- whatever the values: with what the operations make of them the rows have the solutions that the original rows had
pub record Follows (F : Field) (height width : ℕ) (original rows : ℕ → ℕ → ℕ) (operations : List Operation) : Type 0 where
  pub allowed : AreAllowed height None operations
  pub keeps : (v : List ℕ) → IsValues F height v → KeepsSolutions F height width original rows v (run (plain F) operations (unordered v))

-- the operations that were added did to values what was done to the rows, whatever rows were the original ones
abbrev pub Extends : Field → ℕ → ℕ → (ℕ → ℕ → ℕ) → List Operation → (ℕ → ℕ → ℕ) → List Operation → Type 0
Extends F height width old_rows old_operations new_rows new_operations =
    (original : ℕ → ℕ → ℕ) → Follows F height width original old_rows old_operations → Follows F height width original new_rows new_operations
