use Rattle.std.proofs.Common.{sym, ◌∙◌}
use Rattle.rq_cast.proofs.PartNames.{none_named, some_named, stream_of_first, stream_of_more}
use Rattle.rq_cast.proofs.names.Names.stream_behind.Goals as goal

pub returns-then-self-eq0 : goal.returns-then-self-eq0
returns-then-self-eq0 c names are =
    let name = c.args.name.now in
    c.stream_of_name.ensures ∙ sym (stream_of_first names name (none_named names c.args.self.now.count are.count c.if-self-eq0.true))

pub returns : goal.returns
returns c names are =
    let name = c.args.name.now in
    let some = some_named names c.args.self.now.count are.count c.if-self-eq0.false in
    are.stream some ∙ sym (stream_of_more names name are.long some)
