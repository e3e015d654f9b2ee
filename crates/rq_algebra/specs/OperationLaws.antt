-- The laws of recorded operations, as statements: functions of `operations` have them as contracts.
use Rattle.std.specs.Prelude.{◌≡◌, ◌≢◌, ℕ, ◌<◌, List, [], ◌∷◌, ◌++◌}
use Rattle.rq_algebra.specs.Field.{Field}
use Rattle.rq_algebra.specs.Systems.{IsDetermined, HasHomogeneousColumn, at}
use Rattle.rq_algebra.specs.Steps.{AddsRow, ScalesRow}
use Rattle.rq_algebra.specs.Operations.{Operation, AddAssign, MulAssign, Fma, FindsColumn, Store, run, plain}
use Rattle.rq_algebra.specs.Following.{Follows, Extends}

abbrev pub NothingFollows : Type 0
NothingFollows = (F : Field) (height width : ℕ) (rows : ℕ → ℕ → ℕ) → Follows F height width rows rows []

abbrev pub AddAssignExtends : Type 0
AddAssignExtends =
    (F : Field) (height width : ℕ) (a b : ℕ → ℕ → ℕ) (operations : List Operation) (dest src : ℕ)
    → src ≢ dest → dest < height → src < height → AddsRow F height width dest src 1 a b
    → Extends F height width a operations b (operations ++ AddAssign dest src ∷ [])

abbrev pub FmaExtends : Type 0
FmaExtends =
    (F : Field) (height width : ℕ) (a b : ℕ → ℕ → ℕ) (operations : List Operation) (dest src scalar : ℕ)
    → src ≢ dest → dest < height → src < height → AddsRow F height width dest src scalar a b
    → Extends F height width a operations b (operations ++ Fma dest src scalar ∷ [])

abbrev pub MulAssignExtends : Type 0
MulAssignExtends =
    (F : Field) (height width : ℕ) (a b : ℕ → ℕ → ℕ) (operations : List Operation) (dest scalar : ℕ)
    → dest < height → scalar < F.size → scalar ≢ 0 → ScalesRow F height width dest scalar a b
    → Extends F height width a operations b (operations ++ MulAssign dest scalar ∷ [])

-- a homogeneous column of the rows that follow is one of the original rows
abbrev pub HomogeneousColumnGoesBack : Type 0
HomogeneousColumnGoesBack =
    (F : Field) (height width : ℕ) (original rows : ℕ → ℕ → ℕ) (operations : List Operation)
    → Follows F height width original rows operations → HasHomogeneousColumn F height width rows → HasHomogeneousColumn F height width original

abbrev pub FoundIsDetermined : Type 0
FoundIsDetermined =
    (F : Field) (height width : ℕ) (rows : ℕ → ℕ → ℕ) (operations : List Operation)
    → FindsColumn F height width rows operations → IsDetermined F height width rows

abbrev pub OperationsKeepZeros : Type 0
OperationsKeepZeros =
    (F : Field) (operations : List Operation) (s : Store ℕ)
    → ((i : ℕ) → at s.values i ≡ 0) → (i : ℕ) → at (run (plain F) operations s).values i ≡ 0
