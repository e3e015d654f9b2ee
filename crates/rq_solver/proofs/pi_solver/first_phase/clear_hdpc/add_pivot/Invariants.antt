-- What the loops keep in `pi_solver::first_phase::clear_hdpc::add_pivot`.
use Rattle.std.proofs.Common.{◌+◌, ◌≤◌, length}
use Rattle.rq_algebra.specs.Systems.{at}
use Rattle.rq_elimination.specs.OperationCounts.{additions}
use Rattle.rq_solver.specs.HdpcOctets.{ChangesOctets, octets_from, with_zeros}
use Rattle.rq_elimination.specs.HdpcRows.{octet_in}
use Rattle.rq_solver.proofs.pi_solver.first_phase.clear_hdpc.add_pivot.Given as goal

abbrev pub invariant-loop-row : goal.invariant-loop-row
invariant-loop-row l =
    let column = at l.places.peeling.now.order l.place in
    let before = octets_from column (octet_in l.hdpc_rows) in
    record {
      few : additions l.recorded.operations ≤ additions l.fn.recorded.operations + l.row;
      changed : ChangesOctets l.places.peeling.now.rows l.places.peeling.now.order l.places.first (length l.hdpc_rows.table.rows) before (with_zeros column l.row before) l.fn.recorded l.recorded;
    }
