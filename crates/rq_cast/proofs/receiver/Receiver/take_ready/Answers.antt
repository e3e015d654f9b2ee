use Rattle.std.proofs.Common.{◌≡◌, ◌++◌, refl, subst, Option}
use Rattle.std.specs.Prelude.{MatchOption}
use Rattle.rq_cast.specs.declared.stream_receiver.StreamReceiver.{StreamReceiver}
use Rattle.rq_cast.specs.Receiving.{SeesAll}
use Rattle.rq_cast.proofs.Fed.{receiving_of, receives_less, fed_stream}
use Rattle.rq_cast.proofs.receiver.Receiver.take_ready.Goals as goal

pub returns-in-Some-clause-hands : goal.returns-in-Some-clause-hands
returns-in-Some-clause-hands c = λ table w width most past given f.
    let old = c.args.self.now in
    fed_stream table w width most past given past (given ++ c.take_ready.result.items) old _ c.take_ready.new.self f refl refl refl refl
    (receives_less table w width most past given c.take_ready.result.items c.in-Some.stream c.take_ready.new.self c.take_ready.ensures.hands
    (receiving_of table w width most past given old c.in-Some.stream c.in-Some.is f))

pub returns-in-Some-clause-shows : goal.returns-in-Some-clause-shows
returns-in-Some-clause-shows c = λ seen shows.
    let old = c.args.self.now in
    c.take_ready.ensures.sees seen
    (subst (λ (o : Option StreamReceiver). MatchOption o (seen ≡ old.seen) (λ s. SeesAll s seen)) c.in-Some.is shows)
