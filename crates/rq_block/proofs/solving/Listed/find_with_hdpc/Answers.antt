use Rattle.std.proofs.Common.{None, Some, arith}
use Rattle.rq_standard.specs.Equations.{equations}
use Rattle.rq_solver.specs.SolverState.{solver_state}
use Rattle.rq_solver.specs.Solving.{solver_of}
use Rattle.rq_solver.proofs.EquationLaws.{are_equations, equations_same}
use Rattle.rq_block.proofs.BlockOutcomes.{found_same, shown_same}
use Rattle.rq_block.proofs.solving.Listed.find_with_hdpc.Goals as goal

pub of_row-solver-requires : goal.of_row-solver-requires
of_row-solver-requires g c =
    let m = c.in_ok-matrix in
    let shape = m.ensures.hdpc.shape in
    are_equations c.args.self.now.row.now.numbers c.args.self.now.ids.now (g.T.BinaryMatrix.content m.matrix) m.hdpc m.ensures.bits shape.tall shape.wide
    c.args.self.now.enough

pub returns-in-Determined-clause-outcome : goal.returns-in-Determined-clause-outcome
returns-in-Determined-clause-outcome g c =
    let m = c.in_ok-matrix in
    let row = c.args.self.now.row.now.numbers in
    let ids = c.args.self.now.ids.now in
    let bits = g.T.BinaryMatrix.content m.matrix in
    rw c.precode_rows.ensures.value (record {
      found = record {
        few = omega arith;
        ldpc = omega arith;
        enough = c.args.self.now.enough;
        finds = found_same (solver_state c.of_row-solver.result) (solver_of row bits m.hdpc None) c.of_row-solver.ensures _ m.ensures.bits.shape.height
            (equations row ids) (equations_same row ids bits m.hdpc m.ensures.bits m.ensures.hdpc.rows) (Some c.in-Determined.operations)
            (rw c.in-Determined.is at c.in_ok-operations.ensures.solved.found);
      };
      shown = tt;
    })

pub returns-in-Undetermined-clause-outcome : goal.returns-in-Undetermined-clause-outcome
returns-in-Undetermined-clause-outcome g c =
    let m = c.in_ok-matrix in
    let row = c.args.self.now.row.now.numbers in
    let ids = c.args.self.now.ids.now in
    let bits = g.T.BinaryMatrix.content m.matrix in
    let solver = solver_state c.of_row-solver.result in
    let wanted = solver_of row bits m.hdpc None in
    let same = equations_same row ids bits m.hdpc m.ensures.bits m.ensures.hdpc.rows in
    let solved = rw c.in-Undetermined.is at c.in_ok-operations.ensures.solved in
    record {
      found = found_same solver wanted c.of_row-solver.ensures _ m.ensures.bits.shape.height (equations row ids) same None solved.found;
      shown = shown_same solver wanted c.of_row-solver.ensures _ m.ensures.bits.shape.height (equations row ids) same c.in-Undetermined.column solved.shown;
    }
