-- What the loops keep in `pi_solver::first_phase::clear_hdpc::clear_octets`.
use Rattle.std.proofs.Common.{◌≡◌, ℕ, ◌+◌, ◌-◌, ◌*◌, ◌≤◌, length}
use Rattle.rq_algebra.specs.Systems.{at}
use Rattle.rq_elimination.specs.OperationCounts.{additions}
use Rattle.rq_solver.specs.HdpcOctets.{ChangesOctets, octets_from}
use Rattle.rq_elimination.specs.HdpcRows.{octet_in}
use Rattle.rq_solver.proofs.CountLaws.{HasMet}
use Rattle.rq_solver.proofs.pi_solver.first_phase.clear_hdpc.clear_octets.Given as goal

abbrev pub invariant-loop-column : goal.invariant-loop-column
invariant-loop-column l = record {
  table : l.hdpc_rows.table ≡ l.initial.hdpc_rows.table;
  lanes : length l.column_octets ≡ length l.hdpc_rows.factors;
  changed : ChangesOctets l.peeling.rows l.peeling.order l.first_hdpc (length l.fn.hdpc.rows) (octets_from 0 (octet_in l.initial.hdpc_rows)) (octets_from l.column (octet_in l.hdpc_rows)) l.initial.recorded l.recorded;
  few : (n : ℕ) × HasMet (length l.peeling.rows) (at l.peeling.places) l.column n × (additions l.recorded.operations ≤ additions l.initial.recorded.operations + (l.column * (length l.fn.hdpc.rows - 1) + length l.fn.hdpc.rows * n));
}
