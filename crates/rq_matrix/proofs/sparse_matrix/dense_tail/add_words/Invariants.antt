-- What the loop keeps in `sparse_matrix::dense_tail::add_words`.
use Rattle.std.proofs.Common.{◌≡◌}
use Rattle.rq_parts.proofs.ListChanges.{mapped_until}
use Rattle.rq_matrix.specs.DenseTails.{with_word_added}
use Rattle.rq_matrix.proofs.sparse_matrix.dense_tail.add_words.Given as goal

abbrev pub invariant-loop-block : goal.invariant-loop-block
invariant-loop-block l = l.blocks ≡ mapped_until (λ block. with_word_added block l.dest l.src) 0 l.block l.initial.blocks
