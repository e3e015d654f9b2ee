use Rattle.std.proofs.Common.{◌≡◌, ◌*◌, ◌≤◌, map}
use Rattle.std.specs.List.{range_with_len}
use Rattle.rq_standard.specs.Cutting.{symbols_before}
use Rattle.raptorq.specs.Offsets.{block_range}
use Rattle.raptorq.proofs.blocks.block_offsets.Given as goal

-- the blocks so far
abbrev pub invariant-loop-number : goal.invariant-loop-number
invariant-loop-number l = record {
  start : l.start ≡ symbols_before l.fn.config l.number * l.fn.config.symbol_size;
  offsets : l.offsets.items ≡ map (block_range l.fn.config) (range_with_len 0 l.number);
  small : l.start ≤ l.number * 4294967296;
}
