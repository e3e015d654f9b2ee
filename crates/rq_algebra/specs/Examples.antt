-- Small systems over the field of two elements, which show what the definitions mean, and why the laws have their premises.
use Rattle.std.specs.Prelude.{◌≡◌, ◌≢◌, ℕ, List, [], ◌∷◌, map, Some, None}
use Rattle.rq_algebra.specs.Arrangements.{exchange}
use Rattle.rq_algebra.specs.Systems.{dot, Solves, IsDetermined, HasHomogeneousColumn, HasSolution, at, stacked, rows_of}
use Rattle.rq_algebra.specs.Steps.{AddsRow, AddsValue, ScalesRow, ScalesValue, SameSolutions}
use Rattle.rq_algebra.specs.Operations.{Operation, AddAssign, MulAssign, Fma, Reorder, Space, plain, unordered, run, values_in, IsAllowed, FindsColumn, found_by}
use Rattle.rq_algebra.specs.Symbols.{symbols, symbol_at}
use Rattle.rq_algebra.specs.Parities.{sum_listed, parity}
use Rattle.rq_algebra.specs.Two.{two}

-- a system as a list of rows
abbrev pub rows : List (List ℕ) → ℕ → ℕ → ℕ
rows lists i k = at (symbol_at lists i) k

-- x0 + x1 and x1
abbrev pub triangular : ℕ → ℕ → ℕ
triangular = rows ((1 ∷ 1 ∷ []) ∷ (0 ∷ 1 ∷ []) ∷ [])

-- x0 + x1, twice
abbrev pub repeated : ℕ → ℕ → ℕ
repeated = rows ((1 ∷ 1 ∷ []) ∷ (1 ∷ 1 ∷ []) ∷ [])

-- (1, 1) solves x0 + x1 = 0 and x1 = 1, and these two equations are determined
abbrev pub TriangleIsSolved : Type 0
TriangleIsSolved = Solves two 2 2 triangular (at (1 ∷ 1 ∷ [])) (at (0 ∷ 1 ∷ []))

abbrev pub TriangleIsDetermined : Type 0
TriangleIsDetermined = IsDetermined two 2 2 triangular

-- (1, 1) is a homogeneous column of the repeated equation
abbrev pub RepeatedHasHomogeneousColumn : Type 0
RepeatedHasHomogeneousColumn = HasHomogeneousColumn two 2 2 repeated

abbrev pub RepeatedIsNotDetermined : Type 0
RepeatedIsNotDetermined = ¬ IsDetermined two 2 2 repeated

-- rows that stand one below the other, and one row for each id
abbrev pub RowsStack : Type 0
RowsStack = (stacked 1 triangular (rows_of triangular (0 ∷ 1 ∷ [])) 0 1 ≡ 1) × (stacked 1 triangular (rows_of triangular (0 ∷ 1 ∷ [])) 2 0 ≡ 0)

-- places 0 and 2 exchanged
abbrev pub PlacesAreExchanged : Type 0
PlacesAreExchanged = map (exchange 0 2) (0 ∷ 1 ∷ 2 ∷ 3 ∷ []) ≡ 2 ∷ 1 ∷ 0 ∷ 3 ∷ []

-- what is read after operations on some values
abbrev pub reading : {X : Type 0} → Space X → List Operation → List X → List X
reading S operations values = let s = run S operations (unordered values) in values_in S s.values s.order

-- three operations and a reading order: (1, 1, 0) becomes (1, 0, 1), which is read as (0, 1, 1)
abbrev pub OperationsRun : Type 0
OperationsRun = reading (plain two) (AddAssign 1 0 ∷ Fma 2 0 1 ∷ MulAssign 2 1 ∷ Reorder (1 ∷ 2 ∷ 0 ∷ []) ∷ []) (1 ∷ 1 ∷ 0 ∷ []) ≡ 0 ∷ 1 ∷ 1 ∷ []

-- once an order is set, operations read their places through it: value 0, which place 1 means, is added to value 1
abbrev pub PlacesAreReadThroughTheOrder : Type 0
PlacesAreReadThroughTheOrder = reading (plain two) (Reorder (1 ∷ 0 ∷ []) ∷ AddAssign 0 1 ∷ []) (1 ∷ 0 ∷ []) ≡ 1 ∷ 1 ∷ []

-- a second order replaces the first
abbrev pub OrdersAreReplaced : Type 0
OrdersAreReplaced = reading (plain two) (Reorder (1 ∷ 0 ∷ []) ∷ Reorder (0 ∷ 1 ∷ []) ∷ []) (1 ∷ 0 ∷ []) ≡ 1 ∷ 0 ∷ []

-- where two places mean one value, neither may be added to the other
abbrev pub OneValueIsNotAdded : Type 0
OneValueIsNotAdded = IsAllowed 2 None (AddAssign 0 1) × (¬ IsAllowed 2 (Some (0 ∷ 0 ∷ [])) (AddAssign 0 1))

-- an element that is missing in one of two symbols is read as zero
abbrev pub SymbolsAreAdded : Type 0
SymbolsAreAdded = reading (symbols two) (AddAssign 0 1 ∷ []) ((1 ∷ 1 ∷ []) ∷ (1 ∷ []) ∷ []) ≡ (0 ∷ 1 ∷ []) ∷ (1 ∷ []) ∷ []

-- an index that is listed twice cancels
abbrev pub RepeatsCancel : Type 0
RepeatsCancel = (sum_listed (plain two) (1 ∷ 2 ∷ 1 ∷ []) (at (0 ∷ 1 ∷ 1 ∷ [])) ≡ 1) × (parity (1 ∷ 2 ∷ 1 ∷ []) 1 ≡ 0) × (parity (1 ∷ 2 ∷ 1 ∷ []) 2 ≡ 1)

-- x1 and x0 + x1
abbrev pub turned : ℕ → ℕ → ℕ
turned = rows ((0 ∷ 1 ∷ []) ∷ (1 ∷ 1 ∷ []) ∷ [])

-- x1 is in value 0, and x0 in value 1 once value 0 has been added to it
abbrev pub TurnedIsFound : Type 0
TurnedIsFound = FindsColumn two 2 2 turned (AddAssign 1 0 ∷ Reorder (1 ∷ 0 ∷ []) ∷ [])

-- one equation, x0, and one without an unknown
abbrev pub single : ℕ → ℕ → ℕ
single = rows ((1 ∷ []) ∷ [])

abbrev pub empty : ℕ → ℕ → ℕ
empty = rows ((0 ∷ []) ∷ [])

-- x0, and below it an equation without an unknown
abbrev pub tall : ℕ → ℕ → ℕ
tall = rows ((1 ∷ []) ∷ (0 ∷ []) ∷ [])

-- a row that is added to itself is lost, and a solution that was none comes in
abbrev pub AddingNeedsTwoRows : Type 0
AddingNeedsTwoRows =
    AddsRow two 1 1 0 0 1 single empty × AddsValue two 1 0 0 1 (at (1 ∷ [])) (at (0 ∷ [])) × (¬ SameSolutions two 1 1 single (at (1 ∷ [])) empty (at (0 ∷ [])))

-- so is a row that is multiplied by zero
abbrev pub ScalingNeedsNonzero : Type 0
ScalingNeedsNonzero =
    ScalesRow two 1 1 0 0 single empty × ScalesValue two 1 0 0 (at (1 ∷ [])) (at (0 ∷ [])) × (¬ SameSolutions two 1 1 single (at (1 ∷ [])) empty (at (0 ∷ [])))

-- as many equations as unknowns may determine, so only fewer never do: one equation of the two leaves a homogeneous column
abbrev pub OneEquationIsTooFew : Type 0
OneEquationIsTooFew = HasHomogeneousColumn two 1 2 triangular

-- an equation without an unknown isn't determined, and no column solves it with another value than zero
abbrev pub SquareNeedsDetermined : Type 0
SquareNeedsDetermined = (¬ IsDetermined two 1 1 empty) × (¬ HasSolution two 1 1 empty (at (1 ∷ [])))

-- the operations find the column of a system with more equations than unknowns, and of values that contradict they make no solution
abbrev pub FoundNeedsAsManyEquations : Type 0
FoundNeedsAsManyEquations =
    FindsColumn two 2 1 tall (Reorder (0 ∷ []) ∷ [])
    × (¬ Solves two 2 1 tall (found_by (plain two) (Reorder (0 ∷ []) ∷ []) (0 ∷ 1 ∷ [])) (at (0 ∷ 1 ∷ [])))

-- an index past the width, or an entry that is no element, makes another sum than the dot with the parities
abbrev pub SumNeedsIndicesAndElements : Type 0
SumNeedsIndicesAndElements =
    (sum_listed (plain two) (1 ∷ []) (at (0 ∷ 1 ∷ [])) ≢ dot two 1 (parity (1 ∷ [])) (at (0 ∷ 1 ∷ [])))
    × (sum_listed (plain two) (0 ∷ []) (at (2 ∷ [])) ≢ dot two 1 (parity (0 ∷ [])) (at (2 ∷ [])))
