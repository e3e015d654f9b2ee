use Rattle.rq_cells.specs.Cells.{head_bytes}
use Rattle.rq_guard.proofs.ListBytes.{bytes_more}
use Rattle.rq_guard.proofs.list.DigestList.serialize.Goals as goal

pub loop-digest-preserved : goal.loop-digest-preserved
loop-digest-preserved c =
    bytes_more (head_bytes c.args.key.now c.args.self.now.head) _ _ c.deref-digest-items.result.now c.loop-digest.digest-index c.loop-digest-test.true
    c.loop-digest.invariant c.in_ok-extend_from_slice.ensures.items
