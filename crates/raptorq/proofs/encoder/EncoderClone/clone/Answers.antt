use Rattle.std.proofs.Common.{◌≡◌, List, length, get_or, map, ap, ◌∙◌}
use Rattle.rq_block.specs.SourceBlockEncoder.{BlockEncoded, block_encoded_of, slabs_of}
use Rattle.raptorq.specs.Encoder.{Encoded, no_block}
use Rattle.rq_block.proofs.Numbered.{mapped_through}
use Rattle.rq_block.proofs.PlanLaws.{map-clones}
use Rattle.raptorq.proofs.encoder.EncoderClone.clone.Goals as goal
use Rattle.raptorq.proofs.encoder.EncoderClone.clone.Goals.{In_ok-clone}

module _ (c : In_ok-clone) where
  same : map block_encoded_of c.in_ok-clone.field-0.items ≡ map block_encoded_of c.args.self.now.blocks.items
  same = map-clones _ block_encoded_of (λ x y cloned. cloned.0) c.args.self.now.blocks.items c.in_ok-clone.field-0.items c.in_ok-clone.ensures.cases.0

pub invariant_of-result : goal.invariant_of-result
invariant_of-result c =
    let s = c.args.self.now in
    let old = s.blocks.items in
    let new = c.in_ok-clone.field-0.items in
    let same = same (goal.at.invariant_of-result c).In_ok-clone in
    record {
      positive = s.positive;
      few = s.few;
      some = s.some;
      numbered = mapped_through (λ b. b.number) block_encoded_of block_encoded_of new old same ∙ s.numbered;
      sized = mapped_through (λ b. b.size) block_encoded_of block_encoded_of new old same ∙ s.sized;
      counted = mapped_through (λ b. length b.source) block_encoded_of block_encoded_of new old same ∙ s.counted;
    }

pub returns : goal.returns
returns c =
    let s = c.args.self.now in
    let seen : List BlockEncoded → Encoded = λ bs. record { configuration = s.config; block = λ b. get_or bs b (no_block b s.config.symbol_size) } in
    record {
      cases = (
        ap seen (same (goal.at.returns c).In_ok-clone),
        map-clones _ slabs_of (λ x y cloned. cloned.1) s.blocks.items c.in_ok-clone.field-0.items c.in_ok-clone.ensures.cases.0,
      );
    }
