-- The laws of symbols and of listed indices, as statements: functions of `symbols` have them as contracts.
use Rattle.std.specs.Prelude.{◌≡◌, ℕ, ◌+◌, ◌<◌, ◌↔◌, List, ◌∷◌, All, replicate}
use Rattle.rq_algebra.specs.Field.{Field}
use Rattle.rq_algebra.specs.Systems.{dot, IsColumn, IsDetermined, HasElements, at, stacked}
use Rattle.rq_algebra.specs.Operations.{Operation, Store, read, run, plain, unordered, found_by, IsUnread, FindsColumn}
use Rattle.rq_algebra.specs.Symbols.{symbols, IsSymbol, IsSymbolColumn, AreSymbols, symbol_at, slice_at, store_at, SolvesSymbols, HasSymbolSolution}
use Rattle.rq_algebra.specs.Parities.{sum_listed, parity}

-- at each place, operations on symbols are the operations on the elements there
abbrev pub OperationsActPlacewise : Type 0
OperationsActPlacewise =
    (F : Field) (operations : List Operation) (s : Store (List ℕ)) (i place : ℕ)
    → at (read (symbols F) (run (symbols F) operations s) i) place ≡ read (plain F) (run (plain F) operations (store_at place s)) i

abbrev pub OperationsKeepSymbols : Type 0
OperationsKeepSymbols =
    (F : Field) (size count : ℕ) (operations : List Operation) (s : Store (List ℕ))
    → AreSymbols F size count s.values → AreSymbols F size count (run (symbols F) operations s).values

-- after the operations on some symbols, those that the order doesn't read are zeros
abbrev pub LeavesZeroSymbols : Field → (size height : ℕ) → List ℕ → List Operation → List (List ℕ) → Type 0
LeavesZeroSymbols F size height order operations values =
    (i : ℕ) → IsUnread height order i → symbol_at (run (symbols F) operations (unordered values)).values i ≡ replicate size 0

-- the operations find the column from these symbols
pub record FindsSymbols (F : Field) (height width : ℕ) (rows : ℕ → ℕ → ℕ) (operations : List Operation) (order : List ℕ) (size : ℕ)
    (values : List (List ℕ)) : Type 0 where
  pub are_symbols : IsSymbolColumn F size width (found_by (symbols F) operations values)
  -- a column of symbols that solves the rows is what the operations make of the values
  pub only : (column : ℕ → List ℕ) → IsSymbolColumn F size width column → SolvesSymbols F height width rows column (symbol_at values)
      → (k : ℕ) → k < width → column k ≡ found_by (symbols F) operations values k
  -- where there are as many equations as unknowns, what the operations make of the values solves them
  pub solves : height ≡ width → SolvesSymbols F height width rows (found_by (symbols F) operations values) (symbol_at values)
  -- where a column of symbols solves the rows, the operations leave zeros in the symbols that the order doesn't read
  pub leaves : (column : ℕ → List ℕ) → IsSymbolColumn F size width column → SolvesSymbols F height width rows column (symbol_at values)
      → LeavesZeroSymbols F size height order operations values
  -- and where they leave zeros there, what they make of the values solves the rows
  pub consistent : LeavesZeroSymbols F size height order operations values
      → SolvesSymbols F height width rows (found_by (symbols F) operations values) (symbol_at values)

-- operations that find the column find it in symbols
abbrev pub FoundInSymbols : Type 0
FoundInSymbols =
    (F : Field) (height width : ℕ) (rows : ℕ → ℕ → ℕ) (operations : List Operation) (finds : FindsColumn F height width rows operations)
    (size : ℕ) (values : List (List ℕ))
    → AreSymbols F size height values → FindsSymbols F height width rows operations finds.order size values

-- a determined system of as many equations as unknowns has a solution in symbols, whatever the values
abbrev pub DeterminedSquareHasSolutionInSymbols : Type 0
DeterminedSquareHasSolutionInSymbols =
    (F : Field) (n : ℕ) (rows : ℕ → ℕ → ℕ) (size : ℕ) (values : ℕ → List ℕ)
    → HasElements F n n rows → IsSymbolColumn F size n values → IsDetermined F n n rows → HasSymbolSolution F size n n rows values

abbrev pub DeterminedHasOneSolutionInSymbols : Type 0
DeterminedHasOneSolutionInSymbols =
    (F : Field) (size height width : ℕ) (rows : ℕ → ℕ → ℕ) (x y values : ℕ → List ℕ)
    → IsDetermined F height width rows → IsSymbolColumn F size width x → IsSymbolColumn F size width y
    → SolvesSymbols F height width rows x values → SolvesSymbols F height width rows y values
    → (k : ℕ) → k < width → x k ≡ y k

-- a column of symbols solves two systems that are stacked where it solves both
abbrev pub StackedIsBothInSymbols : Type 0
StackedIsBothInSymbols =
    (F : Field) (height more width : ℕ) (above below : ℕ → ℕ → ℕ) (column u v : ℕ → List ℕ)
    → SolvesSymbols F (height + more) width (stacked height above below) column (stacked height u v)
    ↔ (SolvesSymbols F height width above column u × SolvesSymbols F more width below column v)

-- the sum at listed indices is the dot with their parities
abbrev pub SumIsDotOfParities : Type 0
SumIsDotOfParities =
    (F : Field) (width : ℕ) (indices : List ℕ) (column : ℕ → ℕ)
    → All (λ k. k < width) indices → IsColumn F width column
    → sum_listed (plain F) indices column ≡ dot F width (parity indices) column

-- at each place of symbols, their sum at listed indices is the dot with their parities
abbrev pub SymbolSumIsDotOfParities : Type 0
SymbolSumIsDotOfParities =
    (F : Field) (size width : ℕ) (indices : List ℕ) (column : ℕ → List ℕ)
    → All (λ k. k < width) indices → IsSymbolColumn F size width column
    → (place : ℕ) → at (sum_listed (symbols F) indices column) place ≡ dot F width (parity indices) (slice_at place column)

-- the sum of symbols, of one at least, is a symbol of their size
abbrev pub SumIsSymbol : Type 0
SumIsSymbol =
    (F : Field) (size width first : ℕ) (indices : List ℕ) (column : ℕ → List ℕ)
    → All (λ k. k < width) (first ∷ indices) → IsSymbolColumn F size width column
    → IsSymbol F size (sum_listed (symbols F) (first ∷ indices) column)
