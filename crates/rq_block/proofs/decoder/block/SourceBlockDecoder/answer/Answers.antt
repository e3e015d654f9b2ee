use Rattle.std.proofs.Common.{inl, inr, None, sym, ◌∙◌, subst}
use Rattle.std.specs.Prelude.{IfErr, IfOk, option_map, vec_items}
use Rattle.rq_bytes.specs.declared.error.Error.TheVariants.{Contradiction}
use Rattle.rq_standard.specs.ReceivedBlock.{CanAnswer, IsBlockAnswer, IsContradictory}
use Rattle.rq_block.specs.Decoding.{IsUnanswered}
use Rattle.rq_block.specs.SourceBlockDecoder.{received_of, solving_of}
use Rattle.rq_block.proofs.Outcomes.{undetermined_by, contradictory_by, refused_attempt}
use Rattle.rq_block.proofs.decoder.block.SourceBlockDecoder.answer.Goals as goal

pub invariant_of-self-clause-waits : goal.invariant_of-self-clause-waits
invariant_of-self-clause-waits c = λ set can.
    let d = c.args.self.now in
    let r = c.find_answer-answer.result in
    let none = undetermined_by r (sym c.of-self.ensures ∙ set) in
    let answer : IsBlockAnswer (received_of d) None = subst (λ x. IfOk x (λ a. IsBlockAnswer (received_of d) (option_map vec_items a))) none c.find_answer-answer.ensures.block in
    absurd (cc (answer.none (subst CanAnswer c.find_answer-answer.ensures.same can)))

pub invariant_of-self-clause-contradicted : goal.invariant_of-self-clause-contradicted
invariant_of-self-clause-contradicted c = λ set.
    let d = c.args.self.now in
    let r = c.find_answer-answer.result in
    let refused = contradictory_by r (sym c.of-self.ensures ∙ set) in
    let why : IsUnanswered (received_of d) Contradiction = subst (λ x. IfErr x (IsUnanswered (received_of d))) refused c.find_answer-answer.ensures.unanswered in
    subst IsContradictory (sym c.find_answer-answer.ensures.same) (elim why [ inl memory ↦ absurd (cc memory) | inr found ↦ found.1 ])

pub returns : goal.returns
returns c =
    let tried = c.find_answer-answer in
    record {
      block = tried.ensures.block;
      unanswered = tried.ensures.unanswered;
      same = tried.ensures.same;
      remembers = λ i. record { sparse_threshold = (tried.ensures.solving i).sparse_threshold; last_outcome = c.of-self.ensures i };
      kept = refused_attempt _ (solving_of c.args.self.now) _ tried.result c.in-Untried.is
          (λ i. record { sparse_threshold = (tried.ensures.solving i).sparse_threshold; last_outcome = c.of-self.ensures i });
    }
