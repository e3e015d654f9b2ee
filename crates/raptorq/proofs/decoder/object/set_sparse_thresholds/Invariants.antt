use Rattle.std.proofs.Common.{◌≡◌, map, option_map, vec_items}
use Rattle.rq_block.specs.SourceBlockDecoder.{received_of, solving_of, with_threshold}
use Rattle.raptorq.proofs.Changes.{changed_below}
use Rattle.raptorq.proofs.decoder.object.set_sparse_thresholds.Given as goal

-- what the blocks hold, and their answers; the thresholds so far are set
abbrev pub invariant-loop-block : goal.invariant-loop-block
invariant-loop-block l = record {
  received : map (λ b. received_of b.decoder) l.block-items ≡ map (λ b. received_of b.decoder) l.fn.blocks;
  answers : map (λ b. option_map vec_items b.answer) l.block-items ≡ map (λ b. option_map vec_items b.answer) l.fn.blocks;
  solving : map (λ b. solving_of b.decoder) l.block-items ≡ changed_below (with_threshold l.fn.value) l.block-index (map (λ b. solving_of b.decoder) l.fn.blocks);
}
