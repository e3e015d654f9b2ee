use Rattle.rq_cast.proofs.Receiving.{hands_out}
use Rattle.rq_cast.proofs.stream_receiver.StreamReceiver.take_ready.Goals as goal

pub returns-clause-hands : goal.returns-clause-hands
returns-clause-hands c = λ table key width found all given has.
    hands_out table key width found all given c.take_ready.result.items c.args.self.now c.take_ready.new.self c.take_ready.ensures.hands has
