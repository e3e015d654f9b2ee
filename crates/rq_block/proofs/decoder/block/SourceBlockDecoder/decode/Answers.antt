use Rattle.std.proofs.Common.{◌++◌, ◌∷◌, [], inr}
use Rattle.std.proofs.lemmas.Result.{err_from_is_err_and}
use Rattle.rq_block.proofs.TakenPackets.{decodes_by, recorded_more, stopped, Yields-push}
use Rattle.rq_block.proofs.decoder.block.SourceBlockDecoder.decode.Goals as goal

pub loop-packet-preserved : goal.loop-packet-preserved
loop-packet-preserved g c =
    let added = c.in_ok-add.ensures in
    record { recorded = recorded_more c.args.self.now c.loop-packet.self c.add.new.self c.loop-packet.yielded c.in-Some.packet c.loop-packet.invariant.recorded added.tested added.ok added.solving }

pub returns-in_err-add : goal.returns-in_err-add
returns-in_err-add g c =
    let gives = g.I.IntoIter.Iterator.next_gives in
    let iterator = c.into_iter-packet-iterator.result in
    let packets = c.loop-packet.yielded in
    let added = c.in_err-add.ensures in
    let p = err_from_is_err_and c.from_residual.result c.from_residual.ensures.1 in
    rw (p.1, p.2) (record {
      iterator = iterator;
      packets = packets ++ c.in-Some.packet ∷ [];
      made = c.into_iter-packet-iterator.ensures.into_iter_gives;
      decodes = inr (stopped c.args.self.now c.loop-packet.self c.add.new.self packets c.in-Some.packet c.loop-packet.invariant.recorded gives iterator c.next.new.self c.in_err-add.field-0.0
          (Yields-push gives iterator packets c.loop-packet.packet-iterator c.in-Some.packet c.next.new.self c.loop-packet.yielded_by c.in-Some.ensures.steps)
          added.err added.kept added.tested);
    })

pub returns : goal.returns
returns g c =
    let iterator = c.into_iter-packet-iterator.result in
    record {
      iterator = iterator;
      packets = c.loop-packet.yielded;
      made = c.into_iter-packet-iterator.ensures.into_iter_gives;
      decodes = decodes_by g.I.IntoIter.Iterator.next_gives iterator _ c.args.self.now c.loop-packet.yielded c.answer.result c.answer.new.self
          (record { drained = (c.next.new.self, (c.loop-packet.packet-iterator, c.loop-packet.yielded_by, c.in-None.ensures.steps)); middle = c.loop-packet.self; recorded = c.loop-packet.invariant.recorded; answers = c.answer.ensures });
    }
