use Rattle.std.proofs.Common.{◌≡◌, ℕ, ◌<◌, map, replicate}
use Rattle.std.specs.List.{range_with_len}
use Rattle.rq_standard.specs.DecoderState.{IsReceivedOf, new_received, new_answer}
use Rattle.rq_block.specs.declared.encoder.TheConstants.{SPARSE_MATRIX_THRESHOLD}
use Rattle.rq_block.specs.SourceBlockDecoder.{received_of, solving_of, unsolved}
use Rattle.raptorq.specs.Decoder.{answer_of}
use Rattle.raptorq.proofs.decoder.object.Decoder.new.Given as goal

-- the blocks so far
abbrev pub invariant-loop-number : goal.invariant-loop-number
invariant-loop-number l = record {
  received : map (λ b. received_of b.decoder) l.blocks.items ≡ map (new_received l.fn.table l.fn.config) (range_with_len 0 l.number);
  answers : map answer_of l.blocks.items ≡ map (new_answer l.fn.config) (range_with_len 0 l.number);
  solving : map (λ b. solving_of b.decoder) l.blocks.items ≡ replicate l.number (unsolved SPARSE_MATRIX_THRESHOLD);
  shape : (b : ℕ) → b < l.number → IsReceivedOf l.fn.table l.fn.config b (new_received l.fn.table l.fn.config b);
}
