-- What the phases find for a solver.
use Rattle.std.specs.Prelude.{◌≡◌, ℕ, ◌<◌, List, [], ◌∷◌, Option, IfSome, Vec, length, map, sum}
use Rattle.std.specs.Global.{Global}
use Rattle.std.specs.Option.{option_map}
use Rattle.rq_algebra.specs.Operations.{Operation}
use Rattle.rq_bytes.specs.SymbolSlab.{Slab}
use Rattle.rq_bytes.specs.SymbolOps.{operation_of}
use Rattle.rq_bytes.specs.declared.operation_vector.SymbolOps.{SymbolOps}
use Rattle.rq_peeling.specs.Peeling.{IsPeeled}
use Rattle.rq_peeling.specs.RowDegrees.{TakesColumnsLeft, TakesFewest}
use Rattle.rq_peeling.specs.System.{rows_of_system}
use Rattle.rq_peeling.specs.declared.system.System.{System}
use Rattle.rq_elimination.specs.OperationCounts.{additions, multiplications}
use Rattle.rq_elimination.specs.PhaseCounts.{AreInOrder, first_of, second_of, fourth_of}
use Rattle.rq_elimination.specs.declared.counts.PhaseEnds.{PhaseEnds}
use Rattle.rq_elimination.specs.declared.recorded.RecordedRows.{RecordedRows}
use Rattle.rq_solver.specs.FirstPhase.{ClearsPivots, TakesPivotsAlone}
use Rattle.rq_solver.specs.LeftRows.{ListsRows}
use Rattle.rq_solver.specs.Peeled.{IsUnderWay}
use Rattle.rq_solver.specs.Phases.{RunsLater, then_ordered}
use Rattle.rq_solver.specs.Solved.{found_of}
use Rattle.rq_solver.specs.Solving.{Solver}
use Rattle.rq_solver.specs.declared.pi_solver.peeled.Peeled.{Peeled}
use Rattle.rq_solver.specs.declared.pi_solver.phase_outcome.PhaseOutcome.{PhaseOutcome}

-- what was recorded and then puts the rows in order, where they are solved
abbrev pub in_row_order : PhaseOutcome → Option (List Operation)
in_row_order outcome = then_ordered outcome.operations (found_of outcome.order)

-- Columns that were left got pivots in rows of least degree of a system, the first phase cleared them, the others went on from there, and each
-- recorded the operations up to its end.
pub record RunsOverSystem
    (system : System) (p : Peeled) (left : List ℕ) (last : RecordedRows) (answer : PhaseEnds × Option (Vec ℕ Global)) : Type 0 where
  pub before : List ℕ
  pub first : RecordedRows
  pub peeled : IsPeeled system.width system.ones p.peeling
  pub fewest : TakesFewest system.ones system.lt_columns p.peeling.rows
  pub columns : TakesColumnsLeft system.ones system.lt_columns p.peeling.rows p.peeling.order
  pub ones : p.ones ≡ system.ones
  pub under_way : IsUnderWay p before first
  pub listed : ListsRows (length system.ones) p.peeling.rows before
  pub cleared : ClearsPivots system p.peeling before first
  pub alone : TakesPivotsAlone system p.peeling.rows first.operations
  pub later : RunsLater p before left first last answer

-- the phases ran over a system, one after another, and ended so
abbrev pub RunsPhases : System → PhaseOutcome → Type 0
RunsPhases system outcome =
    (p : Peeled) × (left : List ℕ) × (last : RecordedRows) × (outcome.operations ≡ last.operations)
    × RunsOverSystem system p left last (outcome.ends, found_of outcome.order)

-- The phases ran over the system of these rows and columns: the rows from `first_hdpc` on are HDPC rows, and the first columns are those of
-- LT symbols.
pub record RunsOverRows (height width first_hdpc hdpc_rows lt_columns : ℕ) (rows : ℕ → ℕ → ℕ) (outcome : PhaseOutcome) : Type 0 where
  pub system : System
  pub height_is : length system.ones ≡ height
  pub width_is : system.width ≡ width
  pub first_is : system.first_hdpc ≡ first_hdpc
  pub hdpc_are : length system.hdpc.rows ≡ hdpc_rows
  pub lt_columns_are : system.lt_columns ≡ lt_columns
  pub rows_are : (i k : ℕ) → i < height → k < width → rows_of_system system i k ≡ rows i k
  pub phases : RunsPhases system outcome

-- the phases ran over a solver's equations
abbrev pub RunsOverEquations : Solver → PhaseOutcome → Type 0
RunsOverEquations solver outcome = RunsOverRows solver.height solver.width solver.first_hdpc solver.hdpc_rows solver.lt_columns solver.rows outcome

-- the operations of a solver's answer
abbrev pub answered_operations : Option (Slab × Vec SymbolOps Global) → Option (List Operation)
answered_operations answer = option_map (λ found. map operation_of found.1.items) answer

-- A solver that has run answers the operations that the phases found. Each phase's counts are those of the stretches that it recorded:
-- the first's, then two of the second phase and in turn the third's and the fourth's, which are both counted as the fourth's.
pub record CountsOperations (old new : Solver) (answer : Option (List Operation)) : Type 0 where
  pub found : PhaseOutcome
  pub runs : RunsOverEquations old found
  pub answers : answer ≡ in_row_order found
  pub in_order : AreInOrder found.ends (length found.operations)
  pub added :
      new.additions ≡ additions (first_of found.ends found.operations) ∷ additions (second_of found.ends found.operations) ∷ 0
      ∷ additions (fourth_of found.ends found.operations) ∷ 0 ∷ []
  pub multiplied :
      new.multiplications ≡ multiplications (first_of found.ends found.operations) ∷ multiplications (second_of found.ends found.operations) ∷ 0
      ∷ multiplications (fourth_of found.ends found.operations) ∷ 0 ∷ []
  pub additions_are : IfSome answer (λ operations. sum new.additions ≡ additions operations)
  pub multiplications_are : IfSome answer (λ operations. sum new.multiplications ≡ multiplications operations)
