use Rattle.std.proofs.Common.{◌≡◌, ◌-◌, ◌≤◌, ◌++◌, length, take}
use Rattle.rq_block.proofs.sub_blocks.extend_by_pieces.Given as goal

-- the bytes so far
abbrev pub invariant-loop-start : goal.invariant-loop-start
invariant-loop-start l = record {
  within : l.start ≤ length l.more;
  so_far : l.bytes.items ≡ l.fn.bytes.items ++ take l.start l.more;
}

abbrev pub decreases-loop-start : goal.decreases-loop-start
decreases-loop-start l = length l.more - l.start
