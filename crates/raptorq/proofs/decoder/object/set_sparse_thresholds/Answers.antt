use Rattle.std.proofs.Common.{◌<◌, length, set, refl, sym, ap, ◌∙◌, arith, option_map, vec_items, map}
use Rattle.std.proofs.Math.Seq.{map-set_same}
use Rattle.std.proofs.lemmas.List.{length-map, map-set}
use Rattle.rq_block.specs.SourceBlockDecoder.{received_of, solving_of, with_threshold}
use Rattle.raptorq.proofs.Changes.{all_changed, next_changed, none_changed}
use Rattle.raptorq.proofs.decoder.object.set_sparse_thresholds.Goals as goal

pub loop-block-init : goal.loop-block-init
loop-block-init c = record { received = refl; answers = refl; solving = sym (none_changed (with_threshold c.args.value) (map (λ b. solving_of b.decoder) c.args.blocks.now)) }

pub loop-block-preserved : goal.loop-block-preserved
loop-block-preserved c =
    let items = c.loop-block.block-items in
    let n = c.loop-block.block-index in
    let kept = c.loop-block.invariant in
    let long = sym (length-map items (λ b. received_of b.decoder)) ∙ ap length kept.received ∙ length-map c.args.blocks.now (λ b. received_of b.decoder) in
    let below : n < length items = omega (arith, c.loop-block-test.true, long) in
    record {
      received = map-set_same (λ b. received_of b.decoder) items n _ c.block-item.result c.set_sparse_threshold.ensures.same ∙ kept.received;
      answers = map-set_same (λ b. option_map vec_items b.answer) items n _ c.block-item.result refl ∙ kept.answers;
      solving = map-set (λ b. solving_of b.decoder) items n _ ∙ ap (set (map (λ b. solving_of b.decoder) items) n) c.set_sparse_threshold.ensures.solving
          ∙ next_changed (λ b. solving_of b.decoder) (with_threshold c.args.value) _ items n c.block-item.result below kept.solving;
    }

pub returns-clause-solving : goal.returns-clause-solving
returns-clause-solving c =
    let old = c.args.blocks.now in
    let kept = c.loop-block.invariant in
    let long = sym (length-map c.loop-block.block-items (λ b. received_of b.decoder)) ∙ ap length kept.received ∙ length-map old (λ b. received_of b.decoder) in
    kept.solving ∙ all_changed (with_threshold c.args.value) c.loop-block.block-index (map (λ b. solving_of b.decoder) old)
    (omega (arith, c.loop-block-test.false, long, length-map old (λ b. solving_of b.decoder)))
