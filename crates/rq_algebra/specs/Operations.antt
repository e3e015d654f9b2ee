-- Recorded operations, and what they make of values, whatever the values are: elements of the field, or symbols.
--
-- Places are read through the order that is set: place i means value order[i]. `Reorder` sets an order in place of the one before and
-- moves no value. Where none is set, place i means value i.
use Rattle.std.specs.Prelude.{◌≡◌, ◌≢◌, ℕ, ◌<◌, List, [], ◌∷◌, ◌++◌, map, fold, length, All, Option, Some, None, ⊤, slice_index_or, slice_index, slice_set}
use Rattle.rq_algebra.specs.Field.{Field}
use Rattle.rq_algebra.specs.Systems.{Solves, IsColumn, at}

-- add a value to another, multiply one, add a multiple of one to another, set the order
pub data Operation : Type 0 where
  AddAssign : (dest src : ℕ) → Operation
  MulAssign : (dest scalar : ℕ) → Operation
  Fma : (dest src scalar : ℕ) → Operation
  Reorder : (order : List ℕ) → Operation

-- what values are made of
pub record Space (X : Type 0) : Type 0 where
  pub zero : X
  pub add : X → X → X
  pub scale : ℕ → X → X

-- the field's elements as values
abbrev pub plain : Field → Space ℕ
plain F = record { zero = 0; add = F.add; scale = F.mul }

-- values, and the order in which they are read, where one is set
pub record Store (X : Type 0) : Type 0 where
  pub values : List X
  pub order : Option (List ℕ)

-- values with no order set
abbrev pub unordered : {X : Type 0} → List X → Store X
unordered values = record { values = values; order = None }

-- the value that a place means
abbrev pub meant_at : Option (List ℕ) → ℕ → ℕ
meant_at None i = i
meant_at (Some order) i = slice_index order i

abbrev pub read : {X : Type 0} → Space X → Store X → ℕ → X
read S s i = slice_index_or s.values (meant_at s.order i) S.zero

abbrev pub write : {X : Type 0} → Store X → ℕ → X → Store X
write s i x = record s { values = slice_set s.values (meant_at s.order i) x }

unfoldable pub step : {X : Type 0} → Space X → Store X → Operation → Store X
step S s (AddAssign dest src) = write s dest (S.add (read S s dest) (read S s src))
step S s (MulAssign dest scalar) = write s dest (S.scale scalar (read S s dest))
step S s (Fma dest src scalar) = write s dest (S.add (read S s dest) (S.scale scalar (read S s src)))
step S s (Reorder order) = record s { order = Some order }

-- all of them, first to last
unfoldable pub run : {X : Type 0} → Space X → List Operation → Store X → Store X
run S operations s = fold (step S) s operations

-- the values as they are read
abbrev pub values_in : {X : Type 0} → Space X → List X → Option (List ℕ) → List X
values_in S values None = values
values_in S values (Some order) = map (λ i. slice_index_or values i S.zero) order

-- whether a place of n values is defined
abbrev pub IsPlace : ℕ → Option (List ℕ) → ℕ → Type 0
IsPlace n None i = i < n
IsPlace n (Some order) i = i < length order

-- the entries of an order are among n values
abbrev pub IsOrder : ℕ → List ℕ → Type 0
IsOrder n order = All (λ i. i < n) order

-- what an operation asks of n values in their order: places that are defined, and dest and src mean two values
abbrev pub IsAllowed : ℕ → Option (List ℕ) → Operation → Type 0
IsAllowed n order (AddAssign dest src) = IsPlace n order dest × IsPlace n order src × (meant_at order src ≢ meant_at order dest)
IsAllowed n order (MulAssign dest scalar) = IsPlace n order dest
IsAllowed n order (Fma dest src scalar) = IsPlace n order dest × IsPlace n order src × (meant_at order src ≢ meant_at order dest)
IsAllowed n order (Reorder new) = IsOrder n new

-- the order that is set after an operation
abbrev pub order_after : Option (List ℕ) → Operation → Option (List ℕ)
order_after order (AddAssign dest src) = order
order_after order (MulAssign dest scalar) = order
order_after order (Fma dest src scalar) = order
order_after order (Reorder new) = Some new

-- what operations ask of n values, each in the order that those before it set
abbrev pub AreAllowed : ℕ → Option (List ℕ) → List Operation → Type 0
AreAllowed n order [] = ⊤
AreAllowed n order (operation ∷ operations) = IsAllowed n order operation × AreAllowed n (order_after order operation) operations

-- as many elements as the system has rows
pub record IsValues (F : Field) (height : ℕ) (values : List ℕ) : Type 0 where
  pub count : length values ≡ height
  pub elements : IsColumn F height (at values)

-- what is read after the operations on some values
abbrev pub found_by : {X : Type 0} → Space X → List Operation → List X → ℕ → X
found_by S operations values = read S (run S operations (unordered values))

-- one of the values that the order doesn't read
abbrev pub IsUnread : ℕ → List ℕ → ℕ → Type 0
IsUnread height order i = (i < height) × All (λ k. k ≢ i) order

-- after the operations on some values, those that the order doesn't read are zeros
abbrev pub LeavesZeros : Field → ℕ → List ℕ → List Operation → List ℕ → Type 0
LeavesZeros F height order operations v = (i : ℕ) → IsUnread height order i → at (run (plain F) operations (unordered v)).values i ≡ 0

-- the operations find the column from the values
pub record FindsColumn (F : Field) (height width : ℕ) (rows : ℕ → ℕ → ℕ) (operations : List Operation) : Type 0 where
  pub allowed : AreAllowed height None operations
  -- they end with an order of as many places as there are columns
  pub order : List ℕ
  pub before : List Operation
  pub ends : operations ≡ before ++ Reorder order ∷ []
  pub count : length order ≡ width
  -- a column that solves the rows with some values is what the operations make of them
  pub only : (v : List ℕ) → IsValues F height v → (x : ℕ → ℕ) → IsColumn F width x → Solves F height width rows x (at v)
      → (k : ℕ) → k < width → x k ≡ found_by (plain F) operations v k
  -- where there are as many rows as columns, what they make of any values solves the rows
  pub solves : height ≡ width → (v : List ℕ) → IsValues F height v → Solves F height width rows (found_by (plain F) operations v) (at v)
  -- where a column solves the rows with some values, the operations leave zeros in the values that the order doesn't read
  pub leaves : (v : List ℕ) → IsValues F height v → (x : ℕ → ℕ) → IsColumn F width x
      → Solves F height width rows x (at v) → LeavesZeros F height order operations v
  -- and where they leave zeros there, what they make of the values solves the rows
  pub consistent : (v : List ℕ) → IsValues F height v
      → LeavesZeros F height order operations v → Solves F height width rows (found_by (plain F) operations v) (at v)
