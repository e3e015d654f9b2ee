use Rattle.std.proofs.Common.{take, ap, ◌∙◌, ◌*◌}
use Rattle.rq_guard.proofs.ListBytes.{pieces_more, rest_of}
use Rattle.rq_guard.proofs.list.listed_behind.Goals as goal

pub loop-i-preserved : goal.loop-i-preserved
loop-i-preserved c =
    let next = c.first_bytes.ensures ∙ ap (take 16) (rest_of c.args.bytes.now (c.loop-i.i * 16)) in
    pieces_more c.args.bytes.now c.loop-i.i _ _ _ c.loop-i.invariant next c.in_ok-push.ensures.items
