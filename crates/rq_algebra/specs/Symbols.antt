-- Symbols, lists of elements of the field, as values and as unknowns.
use Rattle.std.specs.Prelude.{◌≡◌, ℕ, ◌<◌, List, [], ◌∷◌, map, length, All, slice_index_or}
use Rattle.rq_algebra.specs.Field.{Field}
use Rattle.rq_algebra.specs.Systems.{Solves, at}
use Rattle.rq_algebra.specs.Operations.{Space, Store}

-- the sum of two symbols, element by element; a missing one is read as zero
unfoldable pub add_symbols : Field → List ℕ → List ℕ → List ℕ
add_symbols F [] ys = ys
add_symbols F (x ∷ xs) [] = x ∷ xs
add_symbols F (x ∷ xs) (y ∷ ys) = F.add x y ∷ add_symbols F xs ys

-- symbols as values
abbrev pub symbols : Field → Space (List ℕ)
symbols F = record { zero = []; add = add_symbols F; scale = λ c xs. map (F.mul c) xs }

-- `size` elements of the field
pub record IsSymbol (F : Field) (size : ℕ) (symbol : List ℕ) : Type 0 where
  pub size_is : length symbol ≡ size
  pub elements : All (λ x. x < F.size) symbol

-- the first n entries are symbols of that size
abbrev pub IsSymbolColumn : Field → ℕ → ℕ → (ℕ → List ℕ) → Type 0
IsSymbolColumn F size n column = (k : ℕ) → k < n → IsSymbol F size (column k)

-- a list of symbols as a function of the index
abbrev pub symbol_at : List (List ℕ) → ℕ → List ℕ
symbol_at xs k = slice_index_or xs k []

-- a list of `count` symbols of `size` elements each
pub record AreSymbols (F : Field) (size count : ℕ) (xs : List (List ℕ)) : Type 0 where
  pub count_is : length xs ≡ count
  pub each : IsSymbolColumn F size count (symbol_at xs)

-- what a column or a list of values made of symbols has at one place of each
abbrev pub slice_at : ℕ → (ℕ → List ℕ) → ℕ → ℕ
slice_at place column k = at (column k) place

-- at each place of the symbols, the column solves the rows
pub record SolvesSymbols (F : Field) (height width : ℕ) (rows : ℕ → ℕ → ℕ) (column values : ℕ → List ℕ) : Type 0 where
  pub at_place : (p : ℕ) → Solves F height width rows (slice_at p column) (slice_at p values)

-- a column of symbols solves the rows with some values
pub record HasSymbolSolution (F : Field) (size height width : ℕ) (rows : ℕ → ℕ → ℕ) (values : ℕ → List ℕ) : Type 0 where
  pub column : ℕ → List ℕ
  pub are_symbols : IsSymbolColumn F size width column
  pub solves : SolvesSymbols F height width rows column values

-- a store of what each symbol has at one place
abbrev pub store_at : ℕ → Store (List ℕ) → Store ℕ
store_at place s = record { values = map (λ xs. at xs place) s.values; order = s.order }
