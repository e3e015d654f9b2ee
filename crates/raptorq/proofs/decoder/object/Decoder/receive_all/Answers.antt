use Rattle.std.proofs.Common.{◌≡◌, ℕ, ◌⊎◌, ◌∙◌, ◌∷◌, ◌++◌, [], Ok, Err, sym, ap, subst, arith, append_assoc}
use Rattle.std.specs.Vec.Iter.{into_iter_items}
use Rattle.std.proofs.lemmas.Result.{err_from_is_err_and}
use Rattle.std.proofs.lemmas.List.{nil_from_length, map-append}
use Rattle.rq_bytes.specs.declared.error.Error.TheVariants.{OutOfMemory}
use Rattle.rq_bytes.specs.Refusals.{IsRefusal}
use Rattle.rq_standard.specs.Headline.{IsHonestRun}
use Rattle.raptorq.specs.Decoder.{state_of}
use Rattle.raptorq.specs.declared.decoder.object.Decoder.{Decoder}
use Rattle.rq_standard.specs.Following.{FollowsRun}
use Rattle.raptorq.specs.Runs.{packets_of, IsNextRefusal, IsRefusalBehind}
use Rattle.rq_standard.proofs.FollowingSteps.{taken_is_followed}
use Rattle.raptorq.proofs.FollowedRuns.{passes_below, taken_is_next, refused_is_next, one_passes, run_unmade, run_behind, run_stops}
use Rattle.raptorq.proofs.InTurn.{turns_take}
use Rattle.raptorq.proofs.Lists.{next_whole, done_is_all, next_honest, packets_of-push}
use Rattle.raptorq.proofs.Stops.{honest_is_taken}
use Rattle.raptorq.proofs.decoder.object.Decoder.receive_all.Goals as goal
use Rattle.raptorq.proofs.decoder.object.Decoder.receive_all.Goals.{After-set_sparse_threshold, In-None}

-- the step that is taken
module _ (c : After-set_sparse_threshold) where
  next : into_iter_items c.loop-step.step-iterator ≡ c.in-Some.step ∷ into_iter_items c.next.new.self
  next = c.in-Some.ensures.steps.0

  whole : c.args.steps.items ≡ c.loop-step.yielded ++ c.in-Some.step ∷ into_iter_items c.next.new.self
  whole = c.loop-step.invariant.whole ∙ ap (λ l. c.loop-step.yielded ++ l) next

  same : (state_of c.set_sparse_threshold.new.self).configuration ≡ c.args.config
  same = ap (λ s. s.configuration) c.set_sparse_threshold.ensures.same ∙ c.loop-step.invariant.configuration

  follows : FollowsRun c.args.table.now (packets_of c.loop-step.yielded) (state_of c.set_sparse_threshold.new.self)
  follows = subst (FollowsRun c.args.table.now (packets_of c.loop-step.yielded)) (sym c.set_sparse_threshold.ensures.same) c.loop-step.invariant.follows

  -- all packets, with the one that is taken behind those before it
  around : packets_of c.args.steps.items ≡ (packets_of c.loop-step.yielded ++ c.in-Some.step.1 ∷ []) ++ packets_of (into_iter_items c.next.new.self)
  around = ap packets_of (next_whole c.args.steps.items c.loop-step.yielded (into_iter_items c.loop-step.step-iterator) (into_iter_items c.next.new.self) c.in-Some.step c.loop-step.invariant.whole next)
      ∙ map-append (λ (s : ℕ × _). s.1) (c.loop-step.yielded ++ c.in-Some.step ∷ []) (into_iter_items c.next.new.self)
      ∙ ap (λ l. l ++ packets_of (into_iter_items c.next.new.self)) (packets_of-push c.loop-step.yielded c.in-Some.step)

pub loop-step-preserved : goal.loop-step-preserved
loop-step-preserved c =
    let at = (goal.at.loop-step-preserved c).After-set_sparse_threshold in
    let kept = c.loop-step.invariant in
    let table = c.args.table.now in
    let k = c.args.config in
    let step = c.in-Some.step in
    let left = into_iter_items c.next.new.self in
    let done = packets_of c.loop-step.yielded in
    let old = state_of c.set_sparse_threshold.new.self in
    let new = state_of c.add_new_packet.new.self in
    let taken = turns_take c.set_sparse_threshold.new.self c.add_new_packet.new.self step.1 _ c.in_ok-add_new_packet.ensures in
    record {
      configuration = taken.1.elsewhere.configuration ∙ same at;
      whole = next_whole c.args.steps.items c.loop-step.yielded (into_iter_items c.loop-step.step-iterator) left step kept.whole (next at);
      passed = subst (λ ps. IsRefusalBehind table k [] ps (Ok tt)) (sym (packets_of-push c.loop-step.yielded step))
          (one_passes table k done step.1 kept.passed (subst (λ d. IsNextRefusal table d done step.1 (Ok tt)) (same at) (taken_is_next table done step.1 old new (follows at) taken.0 taken.1)));
      follows = subst (λ ps. FollowsRun table ps new) (sym (packets_of-push c.loop-step.yielded step)) (taken_is_followed table done step.1 old new (follows at) (passes_below old.configuration step.1 taken.0) taken.1);
    }

pub returns-in_err-add_new_packet-clause-refused : goal.returns-in_err-add_new_packet-clause-refused
returns-in_err-add_new_packet-clause-refused c =
    let at = (goal.at.returns-in_err-add_new_packet-clause-refused c).After-set_sparse_threshold in
    let e = c.in_err-add_new_packet.field-0.0 in
    let p = err_from_is_err_and c.from_residual-in_err-add_new_packet.result c.from_residual-in_err-add_new_packet.ensures.1 in
    let old = state_of c.set_sparse_threshold.new.self in
    let new = state_of c.add_new_packet.new.self in
    let done = packets_of c.loop-step.yielded in
    let rest = packets_of (into_iter_items c.next.new.self) in
    let packet = c.in-Some.step.1 in
    rw (p.1, p.2) (λ object run. subst (IsRefusal e) (sym c.in_ok-decoder.ensures.refused)
    (honest_is_taken old packet new e
    (next_honest c.args.table.now c.args.config done old (same at) (follows at) object rest packet (subst (IsHonestRun c.args.table.now c.args.config object) (around at ∙ append_assoc done (packet ∷ []) rest) run))
    (turns_take c.set_sparse_threshold.new.self c.add_new_packet.new.self packet (Err e) c.in_err-add_new_packet.ensures)))

-- all steps were taken
module _ (c : In-None) where
  none : into_iter_items c.loop-step.step-iterator ≡ []
  none = nil_from_length (into_iter_items c.loop-step.step-iterator) (omega (arith, c.in-None.ensures.steps.0))

  all : packets_of c.loop-step.yielded ≡ packets_of c.args.steps.items
  all = ap packets_of (done_is_all c.args.steps.items c.loop-step.yielded (into_iter_items c.loop-step.step-iterator) c.loop-step.invariant.whole none)

  follows_all : FollowsRun c.args.table.now (packets_of c.args.steps.items) (state_of c.loop-step.decoder)
  follows_all = subst (λ ps. FollowsRun c.args.table.now ps (state_of c.loop-step.decoder)) all c.loop-step.invariant.follows

pub returns-clause-follows : goal.returns-clause-follows
returns-clause-follows c = follows_all (goal.at.returns-clause-follows c).In-None

pub returns-in_err-decoder-clause-in_order : goal.returns-in_err-decoder-clause-in_order
returns-in_err-decoder-clause-in_order c =
    let p = err_from_is_err_and c.from_residual.result c.from_residual.ensures.1 in
    rw (p.1, p.2) (run_unmade Decoder c.args.table.now c.args.config (packets_of c.args.steps.items) c.in_err-decoder.field-0.0 c.in_err-decoder.ensures.refused)

pub returns-in_err-add_new_packet-clause-in_order : goal.returns-in_err-add_new_packet-clause-in_order
returns-in_err-add_new_packet-clause-in_order c =
    let at = (goal.at.returns-in_err-add_new_packet-clause-in_order c).After-set_sparse_threshold in
    let table = c.args.table.now in
    let k = c.args.config in
    let done = packets_of c.loop-step.yielded in
    let packet = c.in-Some.step.1 in
    let old = state_of c.set_sparse_threshold.new.self in
    let new = state_of c.add_new_packet.new.self in
    let e = c.in_err-add_new_packet.field-0.0 in
    let p = err_from_is_err_and c.from_residual-in_err-add_new_packet.result c.from_residual-in_err-add_new_packet.ensures.1 in
    rw (p.1, p.2) (run_stops table k (packets_of c.args.steps.items) c.in_ok-decoder.ensures.refused Decoder done (packets_of (into_iter_items c.next.new.self)) packet e (around at) c.loop-step.invariant.passed
    (subst (λ d. (e ≡ OutOfMemory) ⊎ IsNextRefusal table d done packet (Err e)) (same at) (refused_is_next table done packet old new e (follows at) (turns_take c.set_sparse_threshold.new.self c.add_new_packet.new.self packet (Err e) c.in_err-add_new_packet.ensures))))

pub returns-clause-in_order : goal.returns-clause-in_order
returns-clause-in_order c =
    let table = c.args.table.now in
    let k = c.args.config in
    let behind = subst (λ ps. IsRefusalBehind table k [] ps (Ok tt)) (all (goal.at.returns-clause-in_order c).In-None) c.loop-step.invariant.passed in
    run_behind table k (packets_of c.args.steps.items) c.in_ok-decoder.ensures.refused (Ok tt) behind
