-- What a recorded operation means.
use Rattle.std.specs.Prelude.{⊤}
use Rattle.rq_algebra.specs.Operations.{Operation, AddAssign, MulAssign, Fma, Reorder}
use Rattle.rq_bytes.specs.declared.operation_vector.SymbolOps.{SymbolOps}
use Rattle.rq_bytes.specs.declared.operation_vector.SymbolOps.TheVariants as ops

abbrev pub operation_of : SymbolOps → Operation
operation_of (ops.AddAssign dest src) = AddAssign dest src
operation_of (ops.MulAssign dest scalar) = MulAssign dest scalar
operation_of (ops.FMA dest src scalar) = Fma dest src scalar
operation_of (ops.Reorder order) = Reorder order.items

abbrev pub IsReorder : SymbolOps → Type 0
IsReorder (ops.AddAssign dest src) = ⊥
IsReorder (ops.MulAssign dest scalar) = ⊥
IsReorder (ops.FMA dest src scalar) = ⊥
IsReorder (ops.Reorder order) = ⊤
