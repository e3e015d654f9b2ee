use Rattle.std.proofs.Common.{◌≡◌, ◌++◌, refl, ap, subst, ◌∙◌, Option, None, Some}
use Rattle.std.proofs.lemmas.Result.{on_ok_weaker}
use Rattle.rq_cells.specs.declared.wanted.Search.TheVariants.{Found, NotYet}
use Rattle.rq_cells.specs.Wanted.{IsSearch}
use Rattle.rq_cells.specs.Search.{left_behind}
use Rattle.rq_cast.specs.declared.stream_receiver.StreamReceiver.{StreamReceiver}
use Rattle.rq_cast.specs.Receiving.{ReadsMore}
use Rattle.rq_cast.proofs.Searched.{fed}
use Rattle.rq_cast.proofs.Fed.{receiving_of, receives_more, fed_stream, fed_found, fed_unfound}
use Rattle.rq_cast.proofs.receiver.Receiver.feed.Goals as goal

none_of : (o : Option StreamReceiver) → ((s : StreamReceiver) → o ≡ Some s → ⊥) → o ≡ None
none_of None not = refl
none_of (Some s) not = absurd (not s refl)

pub returns-in-Some-clause-fed : goal.returns-in-Some-clause-fed
returns-in-Some-clause-fed c = on_ok_weaker c.feed.result
    (λ more table w width most past given few f.
    let old = c.args.self.now in
    let piece = c.args.piece.now in
    fed_stream table w width most past given (past ++ piece) given old _ c.feed.new.self f refl refl refl refl
    (receives_more table w width most past given piece c.in-Some.stream c.feed.new.self
    (subst (λ k. ReadsMore k piece c.in-Some.stream c.feed.new.self) f.table_is more)
    (receiving_of table w width most past given old c.in-Some.stream c.in-Some.is f)))
    c.feed.ensures.reads

pub returns-in-Found-clause-fed : goal.returns-in-Found-clause-fed
returns-in-Found-clause-fed c = on_ok_weaker c.begin.result
    (λ begins table w width most past given few f.
    let old = c.args.self.now in
    let piece = c.args.piece.now in
    let found = c.in-Found in
    let k = fed w old.search c.feed-2.new.self piece piece (Found found.at found.head found.before) f.wish refl
    (subst (IsSearch old.search.wish (old.search.bytes ++ piece)) found.is c.in_ok-head.ensures.search)
    (c.in_ok-head.ensures.left ∙ ap (left_behind old.search piece) found.is) in
    fed_found table w width most past given piece old f (none_of old.stream c.in_default.not-Some) _ c.begin.new.self refl refl refl few
    found.head found.before found.at k.0.0 k.0.1 k.2 begins)
    c.begin.ensures.begins

pub returns-in-NotYet-clause-fed : goal.returns-in-NotYet-clause-fed
returns-in-NotYet-clause-fed c = λ table w width most past given few f.
    let old = c.args.self.now in
    let piece = c.args.piece.now in
    let left = c.in-NotYet in
    let none = none_of old.stream c.in_default.not-Some in
    let k = fed w old.search c.feed-2.new.self piece piece (NotYet left.from left.before left.all) f.wish refl
    (subst (IsSearch old.search.wish (old.search.bytes ++ piece)) left.is c.in_ok-head.ensures.search)
    (c.in_ok-head.ensures.left ∙ ap (left_behind old.search piece) left.is) in
    fed_unfound table w width most past given piece old f none _ k.1 refl refl none left.from left.before left.all k.0 k.2
    c.with-self-in-NotYet.ensures c.with-self.ensures
