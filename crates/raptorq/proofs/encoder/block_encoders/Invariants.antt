use Rattle.std.proofs.Common.{◌≡◌, ℕ, ◌<◌, map}
use Rattle.std.specs.List.{range_with_len}
use Rattle.rq_standard.specs.Headline.{IsNonsingular, block_row}
use Rattle.raptorq.specs.BlockCutting.{StandsBefore}
use Rattle.rq_block.specs.SourceBlockEncoder.{block_encoded_of}
use Rattle.raptorq.specs.BlocksEncoded.{new_block_encoded}
use Rattle.raptorq.proofs.encoder.block_encoders.Given as goal

-- the blocks so far
abbrev pub invariant-loop-number : goal.invariant-loop-number
invariant-loop-number l = record {
  table : l.blocks.table.now ≡ l.fn.table;
  config : l.blocks.config.now ≡ l.fn.config;
  left : StandsBefore l.fn.object l.number l.blocks;
  encoded : map block_encoded_of l.encoders.items ≡ map (new_block_encoded l.fn.table l.fn.config l.fn.object) (range_with_len 0 l.number);
  nonsingular : (b : ℕ) → b < l.number → IsNonsingular (block_row l.fn.table l.fn.config b);
}
