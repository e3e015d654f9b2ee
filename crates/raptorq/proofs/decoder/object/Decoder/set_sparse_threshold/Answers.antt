use Rattle.std.proofs.Common.{◌≡◌, All, length, map, take, drop, ◌++◌, sym, ap, ◌∙◌, subst}
use Rattle.std.proofs.Math.Seq.{take-append_seam}
use Rattle.rq_block.specs.SourceBlockDecoder.{received_of, solving_of, with_threshold}
use Rattle.raptorq.proofs.ObjectBlocks.{block_number, same_length, same_numbers, same_each, IsCut}
use Rattle.raptorq.proofs.decoder.object.Decoder.set_sparse_threshold.Goals as goal
use Rattle.raptorq.proofs.decoder.object.Decoder.set_sparse_threshold.Goals.{After-set_sparse_thresholds}

module _ (c : After-set_sparse_thresholds) where
  received : map (λ b. received_of b.decoder) c.set_sparse_thresholds.new.blocks ≡ map (λ b. received_of b.decoder) c.args.self.now.blocks.items
  received = c.set_sparse_thresholds.ensures.received ∙ ap (map (λ b. received_of b.decoder)) c.as_mut_slice.ensures.value

  -- the blocks are those that were handed back
  blocks : take c.args.self.now.blocks.len (c.set_sparse_thresholds.new.blocks ++ drop (length c.set_sparse_thresholds.new.blocks) c.args.self.now.blocks.items) ≡ c.set_sparse_thresholds.new.blocks
  blocks =
      let s = c.args.self.now in
      let new = c.set_sparse_thresholds.new.blocks in
      ap (λ n. take n (new ++ drop (length new) s.blocks.items)) (s.blocks.ok.0 ∙ sym (same_length s.config s.blocks.items new received)) ∙ take-append_seam new (drop (length new) s.blocks.items)

pub invariant_of-self : goal.invariant_of-self
invariant_of-self c =
    let s = c.args.self.now in
    let items = s.blocks.items in
    let new = c.set_sparse_thresholds.new.blocks in
    let are = received (goal.at.invariant_of-self c).After-set_sparse_thresholds in
    let is = blocks (goal.at.invariant_of-self c).After-set_sparse_thresholds in
    record {
      positive = s.positive;
      aligned = s.aligned;
      some = s.some;
      numbered = ap (map block_number) is ∙ same_numbers s.config items new are ∙ s.numbered;
      same = subst (All (λ b. (received_of b.decoder).configuration ≡ s.config)) (sym is) (same_each s.config items new are (λ h. h.configuration ≡ s.config) s.same);
      cut = subst (All (λ b. IsCut s.config (received_of b.decoder))) (sym is) (same_each s.config items new are (IsCut s.config) s.cut);
    }

pub returns-clause-solving : goal.returns-clause-solving
returns-clause-solving c =
    ap (map (λ b. solving_of b.decoder)) (blocks (goal.at.returns-clause-solving c).After-set_sparse_thresholds)
    ∙ c.set_sparse_thresholds.ensures.solving
    ∙ ap (λ items. map (with_threshold c.args.value) (map (λ b. solving_of b.decoder) items)) c.as_mut_slice.ensures.value
