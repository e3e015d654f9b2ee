-- What the loop keeps in `sparse_matrix::dense_tail::DenseTail::row`.
use Rattle.std.proofs.Common.{◌≡◌, ℕ, ◌-◌, ◌<◌, length}
use Rattle.rq_bytes.specs.BinaryOctetVec.{packed_bit}
use Rattle.rq_parts.specs.PackedBits.{word_count}
use Rattle.rq_matrix.specs.DenseTails.{tail_bit}
use Rattle.rq_matrix.proofs.sparse_matrix.dense_tail.DenseTail.row.Given as goal

abbrev pub invariant-loop-column : goal.invariant-loop-column
invariant-loop-column l = record {
  long : length l.bits ≡ word_count l.self.columns;
  copied : (k : ℕ) → k < l.column → packed_bit l.bits k ≡ tail_bit l.self l.row (l.self.columns - 1 - k);
}
