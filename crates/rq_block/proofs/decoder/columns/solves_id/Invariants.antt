use Rattle.std.proofs.Common.{◌≡◌, ◌<◌, All, length}
use Rattle.rq_algebra.specs.Operations.{plain}
use Rattle.rq_algebra.specs.Parities.{sum_listed}
use Rattle.rq_algebra.specs.Systems.{at}
use Rattle.rq_standard.specs.Equations.{row_indices}
use Rattle.rq_standard.specs.OctetField.{octets}
use Rattle.rq_standard.specs.TableRows.{intermediate_symbols}
use Rattle.rq_block.proofs.decoder.columns.solves_id.Given as goal

-- the octets at the indices that are left are still to be added
abbrev pub invariant-loop-index : goal.invariant-loop-index
invariant-loop-index l = record {
  sum : octets.add l.sum (sum_listed (plain octets) l.indices (at l.fn.column)) ≡ sum_listed (plain octets) (row_indices l.fn.row.numbers l.fn.internal_symbol_id) (at l.fn.column);
  below : All (λ index. index < intermediate_symbols l.fn.row.numbers) l.indices;
}

abbrev pub decreases-loop-index : goal.decreases-loop-index
decreases-loop-index l = length l.indices
