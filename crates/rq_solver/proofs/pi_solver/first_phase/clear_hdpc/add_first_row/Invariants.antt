-- What the loops keep in `pi_solver::first_phase::clear_hdpc::add_first_row`.
use Rattle.std.proofs.Common.{◌≡◌, ℕ, ◌+◌, ◌-◌, ◌%◌, ◌<◌, ◌≤◌, length}
use Rattle.rq_elimination.specs.OperationCounts.{additions}
use Rattle.rq_elimination.specs.NonzeroOctets.{HasOnesAfter}
use Rattle.rq_elimination.specs.HdpcRows.{AreInColumn, octet_in}
use Rattle.rq_solver.specs.HdpcOctets.{CombinesOctets, octets_from}
use Rattle.rq_solver.proofs.pi_solver.first_phase.clear_hdpc.add_first_row.Given as goal

abbrev pub invariant-loop-row : goal.invariant-loop-row
invariant-loop-row l = record {
  within : l.last < length l.fn.hdpc_rows.table.rows;
  few : additions l.recorded.operations ≤ additions l.fn.recorded.operations + l.last;
  table : l.hdpc_rows.table ≡ l.fn.hdpc_rows.table;
  lead : octet_in l.hdpc_rows 0 l.column ≡ l.lead;
  cleared : (i : ℕ) → 0 < i → i ≤ l.last → octet_in l.hdpc_rows i l.column ≡ 0;
  lanes : length l.column_octets ≡ length l.hdpc_rows.factors;
  in_column : AreInColumn l.hdpc_rows l.column (l.last + 1) l.column_octets;
  count : length l.fn.hdpc_rows.table.rows ≤ length l.column_octets;
  whole : length l.column_octets % 32 ≡ 0;
  rest : HasOnesAfter l.column_octets l.last l.rest;
  combined : CombinesOctets l.first_hdpc (length l.fn.hdpc_rows.table.rows) l.fn.hdpc_rows.table.width (octets_from l.column (octet_in l.fn.hdpc_rows)) (octets_from l.column (octet_in l.hdpc_rows)) l.fn.recorded l.recorded;
}

abbrev pub decreases-loop-row : goal.decreases-loop-row
decreases-loop-row l = length l.fn.hdpc_rows.table.rows - l.last
