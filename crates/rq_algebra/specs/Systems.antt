-- Systems of linear equations. A row, a column and a list of values are functions of the index, a system one of the row and the index.
use Rattle.std.specs.Prelude.{◌≡◌, ◌≢◌, ℕ, zero, suc, ◌-◌, ◌<◌, cond, nat_lt, List, length, slice_index}
use Rattle.rq_algebra.specs.Field.{Field}

-- f 0 + .. + f (n - 1)
unfoldable pub sum_below : Field → ℕ → (ℕ → ℕ) → ℕ
sum_below F zero f = 0
sum_below F (suc n) f = F.add (sum_below F n f) (f n)

-- the sum of the products of a row's coefficients and a column's entries
unfoldable pub dot : Field → ℕ → (ℕ → ℕ) → (ℕ → ℕ) → ℕ
dot F width row column = sum_below F width (λ k. F.mul (row k) (column k))

-- row by row, the dot is the value
pub record Solves (F : Field) (height width : ℕ) (rows : ℕ → ℕ → ℕ) (column values : ℕ → ℕ) : Type 0 where
  pub at : (i : ℕ) → i < height → dot F width (rows i) column ≡ values i

-- a list as a function of the index, zero past its end
abbrev pub at : List ℕ → ℕ → ℕ
at xs k = slice_index xs k

-- the first n entries are elements of the field
abbrev pub IsColumn : Field → ℕ → (ℕ → ℕ) → Type 0
IsColumn F n column = (k : ℕ) → k < n → column k < F.size

-- only the zero column solves the rows with all values zero
abbrev pub IsDetermined : Field → ℕ → ℕ → (ℕ → ℕ → ℕ) → Type 0
IsDetermined F height width rows = (column : ℕ → ℕ) → IsColumn F width column → Solves F height width rows column (λ _. 0) → (k : ℕ) → k < width → column k ≡ 0

-- a column that is not zero solves the rows with all values zero
pub record HasHomogeneousColumn (F : Field) (height width : ℕ) (rows : ℕ → ℕ → ℕ) : Type 0 where
  pub column : ℕ → ℕ
  pub is_column : IsColumn F width column
  pub index : ℕ
  pub in_width : index < width
  pub nonzero : column index ≢ 0
  pub solves : Solves F height width rows column (λ _. 0)

-- a plain column that isn't all zeros and solves the rows with all values zero
pub record IsHomogeneousColumn (F : Field) (height width : ℕ) (rows : ℕ → ℕ → ℕ) (column : List ℕ) : Type 0 where
  pub count : length column ≡ width
  pub elements : IsColumn F width (at column)
  pub solves : Solves F height width rows (at column) (λ _. 0)
  pub index : ℕ
  pub below : index < width
  pub nonzero : at column index ≢ 0

-- a column solves the rows with some values
pub record HasSolution (F : Field) (height width : ℕ) (rows : ℕ → ℕ → ℕ) (values : ℕ → ℕ) : Type 0 where
  pub column : ℕ → ℕ
  pub is_column : IsColumn F width column
  pub solves : Solves F height width rows column values

-- the entries of a system are elements of the field
abbrev pub HasElements : Field → ℕ → ℕ → (ℕ → ℕ → ℕ) → Type 0
HasElements F height width rows = (i k : ℕ) → i < height → k < width → rows i k < F.size

-- the first `height` entries are those of one function, and then come those of another: rows below rows, or values below values
abbrev pub stacked : {X : Type 0} → ℕ → (ℕ → X) → (ℕ → X) → ℕ → X
stacked height above below i = cond (nat_lt i height) (above i) (below (i - height))

-- one row for each id of a list
abbrev pub rows_of : (ℕ → ℕ → ℕ) → List ℕ → ℕ → ℕ → ℕ
rows_of row ids i = row (at ids i)
