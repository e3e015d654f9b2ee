use Rattle.std.proofs.Common.{◌≡◌, ◌*◌, take, drop, refl, ap, ◌∙◌}
use Rattle.rq_standard.specs.Cutting.{block_symbols}
use Rattle.rq_standard.specs.TableRows.{row_of}
use Rattle.raptorq.specs.BlockCutting.{from_block}
use Rattle.rq_block.specs.BlockData.{block_by_plan}
use Rattle.rq_block.specs.SourceBlockEncodingPlan.{plan_of}
use Rattle.raptorq.proofs.EncodedBlocks.{block_front, block_behind, encoded_is}
use Rattle.raptorq.proofs.encoder.blockwise_encoder.BlockwiseEncoder.next_block.Goals as goal

pub returns-clause-cut : goal.returns-clause-cut
returns-clause-cut c =
    let s = c.args.self.now in
    let t = c.prepare_plan.new.self in
    let n = c.args.number in
    let made = c.prepare_plan.ensures in
    let count = c.in_ok-count.ensures.count in
    let plan = c.in_ok-count.ensures.plan in
    let whole = c.in_ok-count.count * c.from-size.result in
    let block = c.split_at.result.0.now in
    let many : whole ≡ block_symbols s.config.now n * s.config.now.symbol_size = ap (λ m. m * c.from-size.result) count ∙ ap (λ z. block_symbols s.config.now n * z) (c.from-size.ensures ∙ c.symbol_size.ensures ∙ (λ i. (made.config i).now.symbol_size)) in
    λ object stands.
    let rest : t.rest.now ≡ from_block s.config.now object n = (λ i. (made.rest i).now) ∙ stands in
    let bytes = block_front s.config.now object t.rest.now n whole rest many block (c.split_at.ensures.front ∙ ap (λ m. take m t.rest.now) c.min.ensures) in
    let row = plan.1 ∙ ap (row_of s.table.now) count in (
      encoded_is s.table.now s.config.now object block n (plan_of t.plan).count (block_by_plan (plan_of t.plan) s.config.now n block) (plan_of t.plan).row refl row (plan.0 ∙ count) bytes,
      rw made.config (block_behind s.config.now object t.rest.now n whole rest many c.split_at.result.1.now c.requires (c.split_at.ensures.back ∙ ap (λ m. drop m t.rest.now) c.min.ensures)),
    )
