-- What a solver is handed, and what it answers.
use Rattle.std.specs.Prelude.{◌≡◌, ℕ, ◌+◌, ◌<◌, ◌≤◌, List, Option, None, Some, MatchOption, IfSome, Vec, length, map, replicate}
use Rattle.std.specs.Global.{Global}
use Rattle.rq_algebra.specs.Systems.{HasHomogeneousColumn, IsHomogeneousColumn}
use Rattle.rq_algebra.specs.Operations.{Operation, FindsColumn, found_by}
use Rattle.rq_algebra.specs.Symbols.{symbols, AreSymbols, IsSymbolColumn, SolvesSymbols, symbol_at}
use Rattle.rq_standard.specs.declared.row.TableRow.{TableRow}
use Rattle.rq_standard.specs.BitTable.{BitTable}
use Rattle.rq_standard.specs.ConstraintMatrix.{HasRows, with_octet_rows}
use Rattle.rq_standard.specs.OctetField.{octets}
use Rattle.rq_standard.specs.TableRows.{intermediate_symbols}
use Rattle.rq_bytes.specs.SymbolSlab.{Slab, HasPlace, after_all, symbol_in}
use Rattle.rq_bytes.specs.SymbolOps.{operation_of}
use Rattle.rq_bytes.specs.declared.operation_vector.SymbolOps.{SymbolOps}
use Rattle.rq_operations.specs.RecordedOperations.{operations_of}
use Rattle.rq_operations.specs.declared.recorded.RecordedOperations.{RecordedOperations}
use Rattle.rq_parts.specs.DenseOctetMatrix.{OctetTable, entry_of}
use Rattle.rq_solver.specs.Solved.{found_of, shown_of}
use Rattle.rq_solver.specs.declared.pi_solver.solved.Solved.{Solved}

-- the equations of a block of that row of the table but for those of HDPC: a matrix of bits
pub record AreEquationsWithoutHdpc (row : TableRow) (bits : BitTable) : Type 0 where
  pub shape : HasRows row bits.height bits
  pub enough : intermediate_symbols row ≤ bits.height

-- all equations of a block of that row of the table: the matrix of bits has zeros in the HDPC rows, which are handed in as octets
pub record AreEquations (row : TableRow) (bits : BitTable) (hdpc : OctetTable) : Type 0 where
  pub binary : AreEquationsWithoutHdpc row bits
  pub hdpc_height : length hdpc.rows ≡ row.hdpc_symbols
  pub hdpc_width : hdpc.width ≡ intermediate_symbols row
  pub zeros : (i k : ℕ) → i < row.hdpc_symbols → k < intermediate_symbols row → bits.bit (row.ldpc_symbols + i) k ≡ 0

-- a symbol, the value, for each of so many equations, and no order
pub record AreValues (height : ℕ) (handed : Slab) : Type 0 where
  pub count : length handed.values ≡ height
  pub order : handed.order ≡ None

-- A solver's equations, its symbols until it has run, if it was handed some, and how often each of the five phases added symbols and
-- multiplied them. From row `first_hdpc` on stand `hdpc_rows` HDPC rows, and the first `lt_columns` columns are those of LT symbols.
pub record Solver : Type 0 where
  pub height : ℕ
  pub width : ℕ
  pub first_hdpc : ℕ
  pub hdpc_rows : ℕ
  pub lt_columns : ℕ
  pub rows : ℕ → ℕ → ℕ
  pub symbols : Option Slab
  pub additions : List ℕ
  pub multiplications : List ℕ

-- a solver that has not run, with symbols or without
abbrev pub solver_of : TableRow → BitTable → OctetTable → Option Slab → Solver
solver_of row bits hdpc symbols = record {
  height = bits.height;
  width = intermediate_symbols row;
  first_hdpc = row.ldpc_symbols;
  hdpc_rows = row.hdpc_symbols;
  lt_columns = row.lt_symbols;
  rows = with_octet_rows row.ldpc_symbols row.hdpc_symbols bits.bit (entry_of hdpc);
  symbols = symbols;
  additions = replicate 5 0;
  multiplications = replicate 5 0;
}

-- the same without HDPC equations
abbrev pub solver_without_hdpc : TableRow → BitTable → Option Slab → Solver
solver_without_hdpc row bits symbols = record {
  height = bits.height;
  width = intermediate_symbols row;
  first_hdpc = 0;
  hdpc_rows = 0;
  lt_columns = row.lt_symbols;
  rows = bits.bit;
  symbols = symbols;
  additions = replicate 5 0;
  multiplications = replicate 5 0;
}

-- after it has run: no symbols and the same equations, whatever it counted
abbrev pub IsSpent : Solver → Solver → Type 0
IsSpent old new = new ≡ record old { symbols = None; additions = new.additions; multiplications = new.multiplications }

-- the answer for a solver where operations alone are wanted: they find the column, or else the rows don't determine it
abbrev pub FindsOperations : Solver → Option RecordedOperations → Type 0
FindsOperations solver answer =
    MatchOption answer (HasHomogeneousColumn octets solver.height solver.width solver.rows)
    (λ found. FindsColumn octets solver.height solver.width solver.rows (operations_of found))

-- operations solve a solver's equations, or else these have a homogeneous column; one that is shown is such a column
pub record SolvesOrShows (solver : Solver) (solved : Solved RecordedOperations) : Type 0 where
  pub found : FindsOperations solver (found_of solved)
  pub shown : IfSome (shown_of solved) (λ column. IsHomogeneousColumn octets solver.height solver.width solver.rows column.items)

-- the slab has the symbols that solve the rows, and the operations find them from any symbols
pub record IsSolution (height width : ℕ) (rows : ℕ → ℕ → ℕ) (handed slab : Slab) (operations : List Operation) : Type 0 where
  pub finds : FindsColumn octets height width rows operations
  -- the slab is what the operations make of the one handed in, and is read at as many places as there are columns
  pub made : slab ≡ after_all operations handed
  pub places : (k : ℕ) → k < width → HasPlace slab k
  pub reads : (k : ℕ) → symbol_in slab k ≡ found_by (symbols octets) operations handed.values k
  -- whatever their size: a column of symbols that solves the rows is what the operations make of their values
  pub only : (size : ℕ) (values : List (List ℕ)) (column : ℕ → List ℕ) → AreSymbols octets size height values → IsSymbolColumn octets size width column
      → SolvesSymbols octets height width rows column (symbol_at values) → (k : ℕ) → k < width → column k ≡ found_by (symbols octets) operations values k
  -- where there are as many rows as columns, what the operations make of any symbols solves the rows
  pub solves : height ≡ width → (size : ℕ) (values : List (List ℕ)) → AreSymbols octets size height values
      → SolvesSymbols octets height width rows (found_by (symbols octets) operations values) (symbol_at values)

-- the answer for a solver that was handed these symbols: the solution, or else the rows don't determine it
abbrev pub IsOutcome : Solver → Slab → Option (Slab × Vec SymbolOps Global) → Type 0
IsOutcome solver handed None = HasHomogeneousColumn octets solver.height solver.width solver.rows
IsOutcome solver handed (Some found) = IsSolution solver.height solver.width solver.rows handed found.0 (map operation_of found.1.items)
