use Rattle.raptorq_c.proofs.Names.{ap, ◌∙◌, length, min, err_from_is_err_and, chunks_rest, chunks_size, frames_in}
use Rattle.rq_standard.proofs.FrameLaws.{frames_in-next, frames_in-none}
use Rattle.raptorq_c.proofs.FrameSteps.{taken_none, taken_all, taken_more, taken_some}
use Rattle.raptorq_c.proofs.frames.add_frames.Goals as goal

pub loop-frame-init : goal.loop-frame-init
loop-frame-init g c =
    let same = c.into_iter-frame-iterator.ensures.into_iter_gives in
    record {
      size = ap (λ d. chunks_size d) same ∙ c.chunks-frame-items.ensures.size;
      taken = taken_none _ c.args.receiver.now (frames_in c.args.size c.args.packets.now) _ (ap (frames_in c.args.size) (ap (λ d. chunks_rest d) same ∙ c.chunks-frame-items.ensures.rest));
    }

pub returns-in_err-add_bytes : goal.returns-in_err-add_bytes
returns-in_err-add_bytes g c =
    let kept = c.loop-frame.invariant in
    let step = c.in-Some.ensures.steps in
    let long = step.1.1 ∙ ap (λ n. min n (length (chunks_rest c.loop-frame.frame-iterator))) kept.size in
    let p = err_from_is_err_and c.from_residual.result c.from_residual.ensures.1 in
    rw (p.1, p.2) (taken_some _ _ _ _ _ kept.taken _ _ (frames_in-next c.args.size _ c.in-Some.frame.now _ c.requires step.1.0 long step.1.2) _ c.in_err-add_bytes.field-0.0 c.in_err-add_bytes.ensures)

pub loop-frame-preserved : goal.loop-frame-preserved
loop-frame-preserved g c =
    let kept = c.loop-frame.invariant in
    let step = c.in-Some.ensures.steps in
    let long = step.1.1 ∙ ap (λ n. min n (length (chunks_rest c.loop-frame.frame-iterator))) kept.size in
    record {
      size = step.0 ∙ kept.size;
      taken = taken_more _ _ _ _ _ kept.taken _ _ (frames_in-next c.args.size _ c.in-Some.frame.now _ c.requires step.1.0 long step.1.2) _ c.in_ok-add_bytes.ensures;
    }

pub returns : goal.returns
returns g c = taken_all _ _ _ _ _ c.loop-frame.invariant.taken (frames_in-none c.args.size _ c.in-None.ensures.steps.1.0)
