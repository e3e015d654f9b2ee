-- That operations are allowed has one proof at most, so a type may keep it.
use Rattle.std.specs.Prelude.{ℕ, List, [], ◌∷◌, Option, Some, None}
use Rattle.std.specs.Coded.{×_prop, Unit-prop, le_prop}
use Rattle.rq_standard.specs.declared.row.TableRow.{TableRow}
use Rattle.rq_standard.specs.TableRows.{intermediate_symbols}
use Rattle.rq_algebra.specs.Operations.{Operation, AddAssign, MulAssign, Fma, Reorder, IsPlace, IsAllowed, AreAllowed, order_after}

IsPlace-prop : (n : ℕ) (order : Option (List ℕ)) (i : ℕ) → IsProp (IsPlace n order i)
IsPlace-prop n None i = le_prop
IsPlace-prop n (Some order) i = le_prop

IsAllowed-prop : (n : ℕ) (order : Option (List ℕ)) (operation : Operation) → IsProp (IsAllowed n order operation)
IsAllowed-prop n order (AddAssign dest src) = Prim.hlevel IsPlace-prop
IsAllowed-prop n order (MulAssign dest scalar) = IsPlace-prop n order dest
IsAllowed-prop n order (Fma dest src scalar) = Prim.hlevel IsPlace-prop
IsAllowed-prop n order (Reorder new) = Prim.hlevel le_prop

pub AreAllowed-prop : (n : ℕ) (order : Option (List ℕ)) (operations : List Operation) → IsProp (AreAllowed n order operations)
AreAllowed-prop n order [] = Unit-prop
AreAllowed-prop n order (operation ∷ operations) = ×_prop (IsAllowed-prop n order operation) (AreAllowed-prop n (order_after order operation) operations)

-- operations that read and write the intermediate symbols of a row alone
abbrev pub AreAllowedOver : TableRow → List Operation → Type 0
AreAllowedOver row operations = AreAllowed (intermediate_symbols row) None operations

pub AreAllowedOver-prop : (row : TableRow) (operations : List Operation) → IsProp (AreAllowedOver row operations)
AreAllowedOver-prop row operations = AreAllowed-prop (intermediate_symbols row) None operations
