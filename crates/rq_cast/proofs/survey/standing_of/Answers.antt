use Rattle.std.proofs.Common.{[], ◌++◌, length, sym, ap, ◌∙◌, append-nil}
use Rattle.rq_cast.specs.Reading.{chunk_length}
use Rattle.rq_cast.specs.Received.{wish_over}
use Rattle.rq_cast.specs.Searching.{counted}
use Rattle.rq_cast.proofs.Ended.{ends}
use Rattle.rq_cast.proofs.survey.standing_of.Goals as goal

pub returns-clause-standing : goal.returns-clause-standing
returns-clause-standing c =
    let w = wish_over c.args.table.now c.args.key.now c.args.head.now.stream [] in
    let (given, fed, count) = c.in_ok-written.ensures.feeds c.args.table.now w c.args.window (c.new-receiver.ensures.fed chunk_length) in
    let e = ends c.args.table.now w c.args.window chunk_length c.args.bytes.now given c.feed_all.new.receiver fed c.all_seen.result c.all_seen.ensures
    c.in_ok-written.ensures.sound c.ending.result c.ending.ensures in
    let out = e.far.out ∙ ap (λ xs. given ++ xs) c.in_ok-written.ensures.none ∙ append-nil given in
    record {
      parts = e.parts;
      receives = e.receives_parts;
      length_is = count ∙ ap (λ xs. counted (length xs)) (sym out);
      ends = e.ends_with;
    }
