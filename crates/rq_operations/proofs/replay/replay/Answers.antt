-- What the check leaves to show of `replay::replay`.
use Rattle.std.proofs.Common.{◌≡◌, ◌-◌, List, map, take, drop, length, sym, ap, ◌∙◌, subst}
use Rattle.std.proofs.lemmas.List.{take_rest, drop-map, nil_from_length}
use Rattle.rq_algebra.specs.Operations.{Operation, AreAllowed}
use Rattle.rq_bytes.specs.SymbolSlab.{after_all}
use Rattle.rq_bytes.proofs.SlabMultiples.{after_all-none}
use Rattle.rq_operations.specs.RecordedSteps.{operation_of_step}
use Rattle.rq_operations.specs.declared.steps.Step.{Step}
use Rattle.rq_operations.proofs.Performed.{rest_allowed, rest_performed}
use Rattle.rq_operations.proofs.replay.replay.Goals as goal

pub loop-step-preserved : goal.loop-step-preserved
loop-step-preserved c =
    let old = c.loop-step.symbols in
    let new = c.perform-count.new.symbols in
    let count = c.perform-count.result in
    let first = operation_of_step c.in-Some.step.now in
    let behind = map operation_of_step c.in-Some.behind.now in
    let split = c.in-Some.ensures.cases.0 in
    let left : map operation_of_step (take (length c.in-Some.behind.now - count) (drop count c.in-Some.behind.now)) ≡ drop count behind =
    ap (map operation_of_step) (take_rest c.in-Some.behind.now count) ∙ sym (drop-map operation_of_step count c.in-Some.behind.now) in
    record {
      allowed = rw left (rest_allowed first behind count old new c.perform-count.ensures
          (subst (λ (l : List Step). AreAllowed (length old.values) old.order (map operation_of_step l)) split c.loop-step.invariant.allowed));
      same = ap (λ (l : List Operation). after_all l new) left
          ∙ rest_performed first behind count old new c.perform-count.ensures
          ∙ ap (λ (l : List Step). after_all (map operation_of_step l) old) (sym split)
          ∙ c.loop-step.invariant.same;
    }

pub returns : goal.returns
returns c =
    let old = c.loop-step.symbols in
    sym (after_all-none old)
    ∙ ap (λ (l : List Step). after_all (map operation_of_step l) old) (sym (nil_from_length c.loop-step.left.now c.in_default.ensures.cases))
    ∙ c.loop-step.invariant.same
