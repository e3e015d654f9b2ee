-- The laws of linear systems, as statements: functions of `systems` have them as contracts.
use Rattle.std.specs.Prelude.{◌≡◌, ◌≢◌, ℕ, ◌+◌, ◌<◌, ◌↔◌, List, length}
use Rattle.rq_algebra.specs.Field.{Field}
use Rattle.rq_algebra.specs.Arrangements.{ArePlaces, EquationsStandIn, IdsStandIn, IsFewOn, RowsStandIn, exchange}
use Rattle.rq_algebra.specs.Systems.{sum_below, dot, Solves, IsColumn, IsDetermined, HasHomogeneousColumn, HasSolution, HasElements, stacked, rows_of}
use Rattle.rq_algebra.specs.Steps.{AddsRow, ScalesRow, AddsValue, ScalesValue, SameSolutions}

abbrev pub SumIsLinear : Type 0
SumIsLinear =
    (F : Field) (n c : ℕ) (f g : ℕ → ℕ)
    → (sum_below F n (λ k. F.add (f k) (g k)) ≡ F.add (sum_below F n f) (sum_below F n g))
    × (sum_below F n (λ k. F.mul c (f k)) ≡ F.mul c (sum_below F n f))

abbrev pub DotIsLinearInRow : Type 0
DotIsLinearInRow =
    (F : Field) (width c : ℕ) (r s column : ℕ → ℕ)
    → (dot F width (λ k. F.add (r k) (s k)) column ≡ F.add (dot F width r column) (dot F width s column))
    × (dot F width (λ k. F.mul c (r k)) column ≡ F.mul c (dot F width r column))

abbrev pub DotIsLinearInColumn : Type 0
DotIsLinearInColumn =
    (F : Field) (width c : ℕ) (row x y : ℕ → ℕ)
    → (dot F width row (λ k. F.add (x k) (y k)) ≡ F.add (dot F width row x) (dot F width row y))
    × (dot F width row (λ k. F.mul c (x k)) ≡ F.mul c (dot F width row x))

-- a row times a matrix, times a column, is the row times what the matrix makes of the column
abbrev pub ProductActsInTurn : Type 0
ProductActsInTurn =
    (F : Field) (height width : ℕ) (row : ℕ → ℕ) (a : ℕ → ℕ → ℕ) (column : ℕ → ℕ)
    → dot F width (λ k. dot F height row (λ i. a i k)) column ≡ dot F height row (λ i. dot F width (a i) column)

-- a multiple of another row is added, to the rows and to the values
abbrev pub AddingKeepsSolutions : Type 0
AddingKeepsSolutions =
    (F : Field) (height width dest src scalar : ℕ) → src ≢ dest → dest < height → src < height
    → (a b : ℕ → ℕ → ℕ) (v w : ℕ → ℕ) → AddsRow F height width dest src scalar a b → AddsValue F height dest src scalar v w
    → SameSolutions F height width a v b w

-- a row and its value are multiplied by an element that is not zero
abbrev pub ScalingKeepsSolutions : Type 0
ScalingKeepsSolutions =
    (F : Field) (height width dest scalar : ℕ) → dest < height → scalar < F.size → scalar ≢ 0
    → (a b : ℕ → ℕ → ℕ) (v w : ℕ → ℕ) → IsColumn F height v → ScalesRow F height width dest scalar a b → ScalesValue F height dest scalar v w
    → SameSolutions F height width a v b w

-- rows stand in another order, with their values
abbrev pub RowOrderKeepsSolutions : Type 0
RowOrderKeepsSolutions =
    (F : Field) (height width : ℕ) (to : ℕ → ℕ) (a : ℕ → ℕ → ℕ) (v : ℕ → ℕ)
    → ArePlaces height height to → SameSolutions F height width a v (λ i. a (to i)) (λ i. v (to i))

-- columns stand in another order, and so do the unknowns
abbrev pub ColumnOrderKeepsSolutions : Type 0
ColumnOrderKeepsSolutions =
    (F : Field) (height width : ℕ) (to : ℕ → ℕ) (a : ℕ → ℕ → ℕ) (x v : ℕ → ℕ)
    → ArePlaces width width to → Solves F height width a x v ↔ Solves F height width (λ i k. a i (to k)) (λ k. x (to k)) v

-- an exchange of two places is such an order
abbrev pub ExchangeIsAnOrder : Type 0
ExchangeIsAnOrder = (p q n : ℕ) → p < n → q < n → ArePlaces n n (exchange p q)

-- equations may be added, repeated and put in another order
abbrev pub DeterminedStays : Type 0
DeterminedStays =
    (F : Field) (width old_height new_height : ℕ) (old new : ℕ → ℕ → ℕ)
    → RowsStandIn width old_height old new_height new → IsDetermined F old_height width old → IsDetermined F new_height width new

-- ids, of which each has one equation below some that stay, may be added, repeated and put in another order
abbrev pub DeterminedByIds : Type 0
DeterminedByIds =
    (F : Field) (width height : ℕ) (above row : ℕ → ℕ → ℕ) (old new : List ℕ)
    → IdsStandIn old new → IsDetermined F (height + length old) width (stacked height above (rows_of row old))
    → IsDetermined F (height + length new) width (stacked height above (rows_of row new))

-- a column that solves the new equations solves the old ones, where these stand in the new ones with their values
abbrev pub NewSolvesOld : Type 0
NewSolvesOld =
    (F : Field) (width old_height new_height : ℕ) (old new : ℕ → ℕ → ℕ) (column v w : ℕ → ℕ)
    → EquationsStandIn width old_height old v new_height new w → Solves F new_height width new column w → Solves F old_height width old column v

abbrev pub DeterminedHasOneSolution : Type 0
DeterminedHasOneSolution =
    (F : Field) (height width : ℕ) (rows : ℕ → ℕ → ℕ) (x y values : ℕ → ℕ)
    → IsDetermined F height width rows → IsColumn F width x → IsColumn F width y
    → Solves F height width rows x values → Solves F height width rows y values
    → (k : ℕ) → k < width → x k ≡ y k

abbrev pub HomogeneousColumnRefutesDetermined : Type 0
HomogeneousColumnRefutesDetermined =
    (F : Field) (height width : ℕ) (rows : ℕ → ℕ → ℕ)
    → HasHomogeneousColumn F height width rows → ¬ IsDetermined F height width rows

abbrev pub FewEquationsHaveHomogeneousColumn : Type 0
FewEquationsHaveHomogeneousColumn =
    (F : Field) (width height : ℕ) (rows : ℕ → ℕ → ℕ)
    → height < width → HasElements F height width rows → HasHomogeneousColumn F height width rows

-- there is a homogeneous column where on n + 1 of the columns only n of the rows are not zero
abbrev pub FewOnColumnsHaveHomogeneousColumn : Type 0
FewOnColumnsHaveHomogeneousColumn =
    (F : Field) (height width n : ℕ) (a : ℕ → ℕ → ℕ) (rows columns : ℕ → ℕ)
    → HasElements F height width a → IsFewOn height width n a rows columns → HasHomogeneousColumn F height width a

-- a determined system of as many equations as unknowns has a solution, whatever the values
abbrev pub DeterminedSquareHasSolution : Type 0
DeterminedSquareHasSolution =
    (F : Field) (n : ℕ) (rows : ℕ → ℕ → ℕ) (values : ℕ → ℕ)
    → HasElements F n n rows → IsColumn F n values → IsDetermined F n n rows → HasSolution F n n rows values

-- a column solves two systems that are stacked where it solves both
abbrev pub StackedIsBoth : Type 0
StackedIsBoth =
    (F : Field) (height more width : ℕ) (above below : ℕ → ℕ → ℕ) (column u v : ℕ → ℕ)
    → Solves F (height + more) width (stacked height above below) column (stacked height u v)
    ↔ (Solves F height width above column u × Solves F more width below column v)
