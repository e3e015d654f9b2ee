use Rattle.std.proofs.Common.{◌≡◌, ◌++◌, ◌∷◌, [], map, replicate, refl, ap, ◌∙◌, arith}
use Rattle.std.specs.List.{range_with_len}
use Rattle.std.proofs.lemmas.List.{map_push, replicate_more}
use borrow.Author.Count.{below_more}
use Rattle.rq_standard.specs.DecoderState.{IsReceivedOf, IsNewState, new_received, new_answer}
use Rattle.rq_standard.proofs.FollowingSteps.{follows_no_packets}
use Rattle.rq_block.specs.declared.encoder.TheConstants.{SPARSE_MATRIX_THRESHOLD}
use Rattle.rq_block.specs.SourceBlockDecoder.{received_of, solving_of, unsolved}
use Rattle.raptorq.specs.Decoder.{answer_of}
use Rattle.rq_block.proofs.Numbered.{mapped_more, new_numbers}
use Rattle.raptorq.proofs.ObjectBlocks.{state, new_each, IsCut, new_state}
use Rattle.raptorq.proofs.decoder.object.Decoder.new.Goals as goal
use Rattle.raptorq.proofs.decoder.object.Decoder.new.Goals.{After-loop-number}

pub loop-number-preserved : goal.loop-number-preserved
loop-number-preserved c =
    let kept = c.loop-number.invariant in
    let table = c.args.table.now in
    let k = c.args.config in
    record {
      received = mapped_more (λ b. received_of b.decoder) (new_received table k) _ c.loop-number.blocks.items c.push.new.self.items c.new.result kept.received c.new.ensures.received c.in_ok-push.ensures.items;
      answers = mapped_more answer_of (new_answer k) _ c.loop-number.blocks.items c.push.new.self.items c.new.result kept.answers c.new.ensures.answer c.in_ok-push.ensures.items;
      solving = ap (map (λ b. solving_of b.decoder)) c.in_ok-push.ensures.items ∙ map_push (λ b. solving_of b.decoder) c.loop-number.blocks.items c.new.result
          ∙ ap (λ l. l ++ solving_of c.new.result.decoder ∷ []) kept.solving ∙ ap (λ x. replicate c.loop-number.number (unsolved SPARSE_MATRIX_THRESHOLD) ++ x ∷ []) c.new.ensures.solving
          ∙ replicate_more c.loop-number.number (unsolved SPARSE_MATRIX_THRESHOLD);
      shape = below_more (λ b. IsReceivedOf table k b (new_received table k b)) _ kept.shape c.new.ensures.shape;
    }

-- the blocks are all made
module _ (c : After-loop-number) where
  all : c.loop-number.number ≡ c.args.config.source_blocks
  all = omega (arith, c.loop-number-test.false, c.loop-number.auto.number-end, c.source_blocks-number-end.ensures)

  received : map (λ b. received_of b.decoder) c.loop-number.blocks.items ≡ map (new_received c.args.table.now c.args.config) (range_with_len 0 c.args.config.source_blocks)
  received = c.loop-number.invariant.received ∙ ap (λ n. map (new_received c.args.table.now c.args.config) (range_with_len 0 n)) all

  new : IsNewState c.args.table.now c.args.config (state c.args.config c.loop-number.blocks.items)
  new = new_state c.args.table.now c.args.config c.loop-number.blocks.items received (c.loop-number.invariant.answers ∙ ap (λ n. map (new_answer c.args.config) (range_with_len 0 n)) all)

pub invariant_of-result : goal.invariant_of-result
invariant_of-result c =
    let are = received (goal.at.invariant_of-result c).After-loop-number in
    let k = c.args.config in
    let table = c.args.table.now in
    let blocks = c.loop-number.blocks.items in
    let accepted = c.in_ok-check.ensures.accepted in
    record {
      positive = accepted.size_positive;
      aligned = record { alignment_positive = accepted.alignment_positive; aligned = accepted.aligned };
      some = accepted.blocks_positive;
      numbered = new_numbers (λ b. received_of b.decoder) (new_received table k) k.source_blocks blocks are (λ h. h.number) (λ b. refl);
      same = new_each table k blocks are (λ h. h.configuration ≡ k) (λ n below. refl);
      cut = new_each table k blocks are (IsCut k) (λ n below. refl);
    }

pub returns-clause-state : goal.returns-clause-state
returns-clause-state c = new (goal.at.returns-clause-state c).After-loop-number

pub returns-clause-follows : goal.returns-clause-follows
returns-clause-follows c =
    let at = (goal.at.returns-clause-follows c).After-loop-number in
    follows_no_packets c.args.table.now c.args.config (state c.args.config c.loop-number.blocks.items) c.in_ok-check.ensures.accepted (λ b below. c.loop-number.invariant.shape b (omega (arith, all at))) (new at)

pub returns-clause-solving : goal.returns-clause-solving
returns-clause-solving c = c.loop-number.invariant.solving ∙ ap (λ n. replicate n (unsolved SPARSE_MATRIX_THRESHOLD)) (all (goal.at.returns-clause-solving c).After-loop-number)
