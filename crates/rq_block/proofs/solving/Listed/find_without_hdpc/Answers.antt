use Rattle.std.proofs.Common.{None, Some, arith}
use Rattle.rq_solver.specs.SolverState.{solver_state}
use Rattle.rq_solver.specs.Solving.{solver_without_hdpc}
use Rattle.rq_solver.proofs.EquationLaws.{binary_equations}
use Rattle.rq_block.specs.BlockSolutions.{first_equations}
use Rattle.rq_block.proofs.BlockOutcomes.{found_same, same_without}
use Rattle.rq_block.proofs.solving.Listed.find_without_hdpc.Goals as goal

pub of_row_no_hdpc-solver-requires : goal.of_row_no_hdpc-solver-requires
of_row_no_hdpc-solver-requires g c =
    let m = c.in_ok-matrix in
    binary_equations c.args.self.now.row.now.numbers (g.T.BinaryMatrix.content m.matrix) _ m.ensures.bits.shape (omega arith)

pub returns-clause-found : goal.returns-clause-found
returns-clause-found g c =
    let m = c.in_ok-matrix in
    let row = c.args.self.now.row.now.numbers in
    let ids = c.args.self.now.ids.now in
    let bits = g.T.BinaryMatrix.content m.matrix in
    rw c.ldpc_symbols-precode_rows.ensures.value (record {
      few = omega arith;
      ldpc = omega arith;
      enough = omega arith;
      finds = found_same (solver_state c.of_row_no_hdpc-solver.result) (solver_without_hdpc row bits None) c.of_row_no_hdpc-solver.ensures _
          m.ensures.bits.shape.height (first_equations row row.ldpc_symbols ids) (same_without row ids bits m.ensures.bits) (Some c.in-Some.operations)
          (rw c.in-Some.is at c.in_ok-operations.ensures.found);
    })

pub returns-in_default-clause-alone : goal.returns-in_default-clause-alone
returns-in_default-clause-alone g c = λ needs.
    let m = c.in_ok-matrix in
    let row = c.args.self.now.row.now.numbers in
    let ids = c.args.self.now.ids.now in
    let bits = g.T.BinaryMatrix.content m.matrix in
    found_same (solver_state c.of_row_no_hdpc-solver.result) (solver_without_hdpc row bits None) c.of_row_no_hdpc-solver.ensures _
    m.ensures.bits.shape.height (first_equations row row.ldpc_symbols ids) (same_without row ids bits m.ensures.bits) None
    (rw c.in_default.is at c.in_ok-operations.ensures.found) needs.determined
