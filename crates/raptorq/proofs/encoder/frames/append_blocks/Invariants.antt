use Rattle.std.proofs.Common.{◌≡◌, ℕ, ◌<◌}
use Rattle.rq_standard.specs.Headline.{IsNonsingular, block_row}
use Rattle.raptorq.proofs.AppendedBlocks.{AppendsBlocksSoFar}
use Rattle.raptorq.proofs.encoder.frames.append_blocks.Given as goal

-- the blocks so far
abbrev pub invariant-loop-number : goal.invariant-loop-number
invariant-loop-number l = record {
  table : l.blocks.table ≡ l.fn.blocks.table;
  config : l.blocks.config ≡ l.fn.blocks.config;
  appends : AppendsBlocksSoFar l.fn.blocks l.repair l.number l.blocks l.fn.bytes.items l.bytes.items;
  nonsingular : (b : ℕ) → b < l.number → IsNonsingular (block_row l.fn.blocks.table.now l.fn.blocks.config.now b);
}
