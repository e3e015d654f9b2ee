-- What the check leaves to show of `pi_solver::IntermediateSymbolDecoder::solve_equations`.
use Rattle.std.proofs.Common.{length, sym, ap, ◌∙◌}
use Rattle.std.proofs.lemmas.Result.{IfOk-weaker}
use Rattle.rq_parts.specs.DenseOctetMatrix.{OctetTable}
use Rattle.rq_solver.specs.PhaseOutcome.{in_row_order}
use Rattle.rq_solver.proofs.BitAttempts.{attempt_of_bits, rows_of_bits}
use Rattle.rq_solver.proofs.pi_solver.IntermediateSymbolDecoder.solve_equations.Goals as goal

pub returns-clause-found : goal.returns-clause-found
returns-clause-found g c =
    let solver = c.args.self.now in
    let bits = g.T.BinaryMatrix.content solver.matrix in
    IfOk-weaker c.run_phases.result _ _ (λ phases found. attempt_of_bits bits solver.hdpc solver.first_hdpc c.in_ok-to_system.field-0 c.in_ok-to_system.ensures (in_row_order phases) found) c.run_phases.ensures.found

pub returns-clause-phases : goal.returns-clause-phases
returns-clause-phases g c =
    let solver = c.args.self.now in
    let bits = g.T.BinaryMatrix.content solver.matrix in
    let system = c.in_ok-to_system.field-0 in
    let is = c.in_ok-to_system.ensures in
    IfOk-weaker c.run_phases.result _ _
    (λ found ran. record {
      system = system;
      height_is = is.ones_are.count;
      width_is = is.width_is;
      first_is = is.first_is;
      hdpc_are = ap (λ (table : OctetTable). length table.rows) is.hdpc_is;
      lt_columns_are = is.lt_columns_are ∙ sym solver.dense_columns;
      rows_are = rows_of_bits bits solver.hdpc solver.first_hdpc system is;
      phases = ran;
    })
    c.run_phases.ensures.phases
