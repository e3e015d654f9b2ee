use Rattle.std.proofs.Common.{[], length, get_or, ap, ◌∙◌, arith}
use Rattle.rq_parts.proofs.KeyedLists.{list_read, key_within}
use Rattle.rq_parts.proofs.arraymap.lists.ImmutableListMap.get.Goals as goal

pub bounds-starts-key : goal.bounds-starts-key
bounds-starts-key c = omega (arith, key_within _ _ _ c.args.key c.self.view_is c.requires, ap length c.as_slice-starts.ensures.value, c.from-key.ensures)

pub bounds-starts-key-2 : goal.bounds-starts-key-2
bounds-starts-key-2 c = omega (arith, key_within _ _ _ c.args.key c.self.view_is c.requires, ap length c.as_slice-starts.ensures.value, c.from-key.ensures)

pub part-requires-clause-order : goal.part-requires-clause-order
part-requires-clause-order c =
    let enough = key_within _ _ _ c.args.key c.self.view_is c.requires in
    rw (c.as_slice-starts.ensures.value, c.from-key.ensures) (c.self.invariant.rise c.args.key enough)

pub returns : goal.returns
returns c =
    let enough = key_within _ _ _ c.args.key c.self.view_is c.requires in
    c.part.ensures
    ∙ rw (c.as_slice-starts.ensures.value, c.as_slice.ensures.value, c.from-key.ensures) (list_read c.self.inside.starts.items c.self.inside.values.items c.args.key enough)
    ∙ ap (λ lists. get_or lists c.args.key []) c.self.view_is
