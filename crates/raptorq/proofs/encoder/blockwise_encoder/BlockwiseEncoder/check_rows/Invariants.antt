use Rattle.std.proofs.Common.{◌≡◌, ℕ, ◌<◌}
use Rattle.rq_standard.specs.Headline.{IsNonsingular, block_row}
use Rattle.raptorq.proofs.encoder.blockwise_encoder.BlockwiseEncoder.check_rows.Given as goal

-- the rows of the blocks so far
abbrev pub invariant-loop-number : goal.invariant-loop-number
invariant-loop-number l = record {
  table : l.self.table ≡ l.fn.self.table;
  config : l.self.config ≡ l.fn.self.config;
  nonsingular : (b : ℕ) → b < l.number → IsNonsingular (block_row l.fn.self.table.now l.fn.self.config.now b);
}
