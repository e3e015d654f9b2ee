use Rattle.std.proofs.Common.{◌≡◌, sym, ◌∙◌, inl, Some}
use Rattle.std.proofs.lemmas.Result.{err_from_is_err_and}
use Rattle.raptorq.proofs.InTurn.{turns_take}
use Rattle.raptorq.proofs.Stops.{honest_is_taken}
use Rattle.rq_streams.specs.Frames.{kept_packet}
use Rattle.rq_streams.proofs.TakenFrames.{taken_packet, taken_skipped, taken_count, taken_follows, taken_passed, honest_packet, stopped_frames}
use Rattle.rq_streams.proofs.receive.add_frames.Goals as goal
use Rattle.rq_streams.proofs.receive.add_frames.Goals.{In-Some-2}

-- the frame's packet
module _ (c : In-Some-2) where
  kept : Some c.in-Some-2.packet ≡ kept_packet c.args.config.now c.in-Some.frame.now
  kept = sym c.in-Some-2.is ∙ c.in_ok-packet.ensures.packet

pub loop-frame-preserved-in-Continue-branch-3 : goal.loop-frame-preserved-in-Continue-branch-3
loop-frame-preserved-in-Continue-branch-3 c =
    let at = (goal.at.loop-frame-preserved-in-Continue-branch-3 c).In-Some-2 in
    let kept_so = c.loop-frame.invariant in
    let step = c.in-Some.ensures.steps in
    let added = turns_take _ _ c.in-Some-2.packet _ c.in_ok-add_new_packet-in-Some-2.ensures in
    record {
      wide = kept_so.wide;
      size = step.0 ∙ kept_so.size;
      configuration = added.1.elsewhere.configuration ∙ kept_so.configuration;
      taken = taken_packet _ _ _ _ c.in-Some.frame.now _ _ _ _ kept_so.size step.1 kept_so.taken c.in-Some-2.packet _ kept_so.configuration (kept at) added.0 added.1;
    }

pub loop-frame-preserved : goal.loop-frame-preserved
loop-frame-preserved c =
    let kept_so = c.loop-frame.invariant in
    let step = c.in-Some.ensures.steps in
    record {
      wide = kept_so.wide;
      size = step.0 ∙ kept_so.size;
      configuration = kept_so.configuration;
      taken = taken_skipped _ _ _ _ c.in-Some.frame.now _ _ _ _ kept_so.size step.1 kept_so.taken (sym c.in-None-2.is ∙ c.in_ok-packet.ensures.packet);
    }

pub returns-in_err-add_new_packet-in-Some-2-clause-refused : goal.returns-in_err-add_new_packet-in-Some-2-clause-refused
returns-in_err-add_new_packet-in-Some-2-clause-refused c =
    let at = (goal.at.returns-in_err-add_new_packet-in-Some-2-clause-refused c).In-Some-2 in
    let kept_so = c.loop-frame.invariant in
    let p = err_from_is_err_and c.from_residual-in_err-add_new_packet-in-Some-2.result c.from_residual-in_err-add_new_packet-in-Some-2.ensures.1 in
    rw (p.1, p.2) (stopped_frames _ _ _ _ c.in-Some.frame.now _ _ _ _ kept_so.size c.in-Some.ensures.steps.1 kept_so.taken c.in-Some-2.packet _ _ kept_so.configuration (kept at)
    (turns_take _ _ c.in-Some-2.packet _ c.in_err-add_new_packet-in-Some-2.ensures))

pub returns-in_err-add_new_packet-in-Some-2-clause-honest : goal.returns-in_err-add_new_packet-in-Some-2-clause-honest
returns-in_err-add_new_packet-in-Some-2-clause-honest c =
    let at = (goal.at.returns-in_err-add_new_packet-in-Some-2-clause-honest c).In-Some-2 in
    let kept_so = c.loop-frame.invariant in
    let p = err_from_is_err_and c.from_residual-in_err-add_new_packet-in-Some-2.result c.from_residual-in_err-add_new_packet-in-Some-2.ensures.1 in
    let stops = turns_take _ _ c.in-Some-2.packet _ c.in_err-add_new_packet-in-Some-2.ensures in
    rw (p.1, p.2) (λ table object none run. honest_is_taken _ c.in-Some-2.packet _ _
    (honest_packet _ _ _ _ c.in-Some.frame.now _ _ _ _ kept_so.size c.in-Some.ensures.steps.1 kept_so.taken c.in-Some-2.packet kept_so.configuration (kept at) table object none run) stops)

pub returns-clause-skipped : goal.returns-clause-skipped
returns-clause-skipped c = taken_count _ _ _ _ _ _ c.in-None.ensures.steps.1.0 c.loop-frame.invariant.taken

pub returns-clause-follows : goal.returns-clause-follows
returns-clause-follows c = taken_follows _ _ _ _ _ _ c.in-None.ensures.steps.1.0 c.loop-frame.invariant.taken

pub returns-in_err-packet-clause-refused : goal.returns-in_err-packet-clause-refused
returns-in_err-packet-clause-refused c =
    let p = err_from_is_err_and c.from_residual.result c.from_residual.ensures.1 in
    rw (p.1, p.2) (inl c.in_err-packet.ensures.memory)

pub returns-clause-refused : goal.returns-clause-refused
returns-clause-refused c = taken_passed _ _ _ _ _ _ c.in-None.ensures.steps.1.0 c.loop-frame.invariant.taken
