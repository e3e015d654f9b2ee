use Rattle.std.proofs.Common.{◌≡◌, ℕ, List, Option, None, get_or, map, ap, ◌∙◌}
use Rattle.rq_standard.specs.ReceivedBlock.{ReceivedBlock, nothing_received}
use Rattle.rq_standard.specs.DecoderState.{State}
use Rattle.rq_standard.specs.TableRows.{no_row}
use Rattle.rq_block.specs.SourceBlockDecoder.{received_of, solving_of}
use Rattle.raptorq.specs.Decoder.{answer_of}
use Rattle.raptorq.proofs.ObjectBlocks.{same_numbers, same_each, IsCut}
use Rattle.rq_block.proofs.PlanLaws.{map-clones}
use Rattle.raptorq.proofs.decoder.object.DecoderClone.clone.Goals as goal
use Rattle.raptorq.proofs.decoder.object.DecoderClone.clone.Goals.{In_ok-clone}

module _ (c : In_ok-clone) where
  -- the blocks hold what they held
  received : map (λ b. received_of b.decoder) c.in_ok-clone.field-0.items ≡ map (λ b. received_of b.decoder) c.args.self.now.blocks.items
  received = map-clones _ (λ b. received_of b.decoder) (λ x y same. same.0) c.args.self.now.blocks.items c.in_ok-clone.field-0.items c.in_ok-clone.ensures.cases.0

pub invariant_of-result : goal.invariant_of-result
invariant_of-result c =
    let s = c.args.self.now in
    let old = s.blocks.items in
    let new = c.in_ok-clone.field-0.items in
    let same = received (goal.at.invariant_of-result c).In_ok-clone in
    record {
      positive = s.positive;
      aligned = s.aligned;
      some = s.some;
      numbered = same_numbers s.config old new same ∙ s.numbered;
      same = same_each s.config old new same (λ h. h.configuration ≡ s.config) s.same;
      cut = same_each s.config old new same (IsCut s.config) s.cut;
    }

pub returns : goal.returns
returns c =
    let s = c.args.self.now in
    let old = s.blocks.items in
    let new = c.in_ok-clone.field-0.items in
    let answers : map answer_of new ≡ map answer_of old = map-clones _ answer_of (λ x y same. same.1) old new c.in_ok-clone.ensures.cases.0 in
    let seen : List ReceivedBlock → List (Option (List ℕ)) → State = λ hs answered. record { configuration = s.config; received = λ n. get_or hs n (nothing_received s.config n no_row 0); answer = λ n. get_or answered n None } in
    let solving : map (λ b. solving_of b.decoder) new ≡ map (λ b. solving_of b.decoder) old = map-clones _ (λ b. solving_of b.decoder) (λ x y same. same.2) old new c.in_ok-clone.ensures.cases.0 in
    record { cases = (ap (λ hs. seen hs (map answer_of new)) (received (goal.at.returns c).In_ok-clone) ∙ ap (seen (map (λ b. received_of b.decoder) old)) answers, solving) }
