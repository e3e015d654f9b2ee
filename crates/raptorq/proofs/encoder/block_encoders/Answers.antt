use Rattle.std.proofs.Common.{◌≡◌, ap, map, ◌∙◌, arith}
use borrow.Author.Count.{below_more}
use Rattle.rq_standard.specs.Headline.{block_row, IsNonsingular}
use Rattle.rq_block.specs.BlockData.{block_by_plan}
use Rattle.rq_block.specs.SourceBlockEncoder.{block_encoded_of}
use Rattle.rq_block.specs.SourceBlockEncodingPlan.{plan_of}
use Rattle.raptorq.specs.BlocksEncoded.{new_block_encoded}
use Rattle.raptorq.proofs.EncodedBlocks.{from_first}
use Rattle.rq_block.proofs.Numbered.{mapped_more}
use Rattle.raptorq.proofs.encoder.block_encoders.Goals as goal

pub loop-number-init : goal.loop-number-init
loop-number-init c = record {
  table = c.in_ok-blocks.ensures.table;
  config = c.in_ok-blocks.ensures.config;
  left = rw c.in_ok-blocks.ensures.config (c.in_ok-blocks.ensures.whole ∙ from_first c.args.config.now c.args.object.now);
  encoded = ap (map block_encoded_of) c.in_ok-encoders.ensures.items;
  nonsingular = λ b none. absurd (omega arith);
}

pub loop-number-preserved : goal.loop-number-preserved
loop-number-preserved c =
    let v = c.loop-number.invariant in
    let n = c.loop-number.number in
    let table = c.args.table.now in
    let config = c.args.config.now in
    let object = c.args.object.now in
    let plan = plan_of c.next_block.new.self.plan in
    let block = c.in_ok-block.block.now in
    let next = c.next_block.ensures in
    let cut = c.in_ok-block.ensures.cut object v.left in
    let is : block_encoded_of c.in_ok-encoder.encoder ≡ block_by_plan plan c.loop-number.blocks.config.now n block =
    c.in_ok-encoder.ensures ∙ (λ i. block_by_plan plan (next.config i).now n block) in
    record {
      table = (λ i. (next.table i).now) ∙ v.table;
      config = (λ i. (next.config i).now) ∙ v.config;
      left = cut.1;
      encoded = mapped_more block_encoded_of (new_block_encoded table config object) n c.loop-number.encoders.items c.push.new.self.items c.in_ok-encoder.encoder v.encoded
          (is ∙ cut.0 ∙ (λ i. new_block_encoded (v.table i) (v.config i) object n)) c.in_ok-push.ensures.items;
      nonsingular = below_more (λ b. IsNonsingular (block_row table config b)) n v.nonsingular (rw (v.table, v.config) at c.in_ok-block.ensures.nonsingular);
    }

pub returns-clause-nonsingular : goal.returns-clause-nonsingular
returns-clause-nonsingular c = λ b below. c.loop-number.invariant.nonsingular b (omega (arith, below, c.loop-number-test.false, c.source_blocks-number-end.ensures))
