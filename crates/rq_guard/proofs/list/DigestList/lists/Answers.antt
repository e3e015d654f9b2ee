use Rattle.rq_guard.proofs.ListBytes.{listed_there}
use Rattle.std.proofs.Common.{take, ap, ◌∙◌}
use Rattle.std.specs.Cmp.Lexicographic.{pointwise}
use Rattle.std.specs.Prelude.{nat_eq}
use Rattle.rq_guard.proofs.list.DigestList.lists.Goals as goal

pub returns : goal.returns
returns c =
    let there = c.index.result.now in
    listed_there c.eq.result c.args.self.now.digests.items c.args.number there (take 16 c.args.digest.now) c.requires c.index.ensures
    (c.eq.ensures ∙ ap (pointwise nat_eq there) c.first_bytes.ensures)
