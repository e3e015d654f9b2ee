-- What the check leaves to show of `pi_solver::IntermediateSymbolDecoder::solve`.
use Rattle.rq_solver.specs.Solved.{found_of}
use Rattle.rq_solver.proofs.BitAttempts.{attempt_of_bits, shown_of_bits}
use Rattle.rq_solver.proofs.SolutionLaws.{recorded_found}
use Rattle.rq_solver.proofs.pi_solver.IntermediateSymbolDecoder.solve.Goals as goal

pub returns : goal.returns
returns g c =
    let solver = c.args.self in
    let bits = g.T.BinaryMatrix.content solver.matrix in
    let system = c.in_ok-into_system.field-0 in
    let is = c.in_ok-into_system.ensures in
    let outcome = c.in_ok-found.ensures in
    record {
      solved = record {
        found = recorded_found bits.height bits.width _ _ (found_of c.in_row_order.result)
            (attempt_of_bits bits solver.hdpc solver.first_hdpc system is _ outcome.found) c.in_row_order.ensures.found;
        shown = rw c.in_row_order.ensures.shown (shown_of_bits bits solver.hdpc solver.first_hdpc system is _ outcome.shown);
      };
    }
