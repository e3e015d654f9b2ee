use Rattle.std.proofs.Common.{[]}
use Rattle.rq_cast.proofs.stream_receiver.StreamReceiver.new.Goals as goal

pub returns-clause-read : goal.returns-clause-read
returns-clause-read c =
    c.in_ok-take_cells.ensures.reads c.args.key.now c.args.width c.args.found c.args.found.bytes.items [] (c.in_ok-receiver.ensures.read c.args.table.now)
