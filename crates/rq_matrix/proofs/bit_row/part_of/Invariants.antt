-- What the loop keeps in `bit_row::part_of`.
use Rattle.std.proofs.Common.{◌≡◌, ℕ, ◌+◌, ◌<◌, length}
use Rattle.rq_bytes.specs.BinaryOctetVec.{packed_bit}
use Rattle.rq_parts.specs.PackedBits.{word_count}
use Rattle.rq_matrix.proofs.bit_row.part_of.Given as goal

abbrev pub invariant-loop-k : goal.invariant-loop-k
invariant-loop-k l = record {
  long : length l.part ≡ word_count l.len;
  copied : (j : ℕ) → j < l.k → packed_bit l.part (l.padding + j) ≡ packed_bit l.row (l.start + j);
}
