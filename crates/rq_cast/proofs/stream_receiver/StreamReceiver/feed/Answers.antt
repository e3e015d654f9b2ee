use Rattle.std.proofs.lemmas.Result.{on_ok_weaker}
use Rattle.rq_cast.proofs.Receiving.{reads_piece}
use Rattle.rq_cast.proofs.stream_receiver.StreamReceiver.feed.Goals as goal

pub returns-clause-reads : goal.returns-clause-reads
returns-clause-reads c = on_ok_weaker c.take_cells.result
    (λ takes key width found all given has.
    takes key width found _ given
    (reads_piece c.args.table.now key width found all given c.args.self.now c.extend_from_slice.new.self c.args.piece.now c.in_ok-extend_from_slice.ensures.items has.read))
    c.take_cells.ensures.reads
