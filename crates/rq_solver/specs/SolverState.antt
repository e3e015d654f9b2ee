-- What a solver is for its callers.
use Rattle.std.specs.Prelude.{length, ◌∷◌, []}
use Rattle.std.specs.declared.clone.Clone as clone
use Rattle.rq_standard.specs.ConstraintMatrix.{with_octet_rows}
use Rattle.rq_matrix.specs.declared.matrix.BinaryMatrix as matrix
use Rattle.rq_solver.specs.Solving.{Solver}
use Rattle.rq_solver.specs.declared.pi_solver.IntermediateSymbolDecoder.{IntermediateSymbolDecoder}
use Rattle.rq_parts.specs.DenseOctetMatrix.{entry_of}

-- its equations, and its symbols, if it was handed some, until it has run
abbrev pub solver_state : {T : Type 0} {bits : matrix.Ghosts T} {clones : clone.Ghosts T} → IntermediateSymbolDecoder T bits clones → Solver
solver_state {T} {bits} {clones} solver = record {
  height = (bits.content solver.matrix).height;
  width = (bits.content solver.matrix).width;
  first_hdpc = solver.first_hdpc;
  hdpc_rows = length solver.hdpc.rows;
  lt_columns = solver.lt_columns;
  rows = with_octet_rows solver.first_hdpc (length solver.hdpc.rows) (bits.content solver.matrix).bit (entry_of solver.hdpc);
  symbols = solver.symbols;
  additions = solver.counts.additions.first ∷ solver.counts.additions.second ∷ 0 ∷ solver.counts.additions.fourth ∷ 0 ∷ [];
  multiplications = solver.counts.multiplications.first ∷ solver.counts.multiplications.second ∷ 0 ∷ solver.counts.multiplications.fourth ∷ 0 ∷ [];
}
