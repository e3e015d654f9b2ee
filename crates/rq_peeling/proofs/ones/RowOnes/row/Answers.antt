-- What the check leaves to show of `ones::RowOnes::row`.
use Rattle.std.proofs.Common.{ℕ, List, length, ap, ◌∙◌, arith}
use Rattle.rq_parts.proofs.KeyedLists.{list_read, key_within}
use Rattle.rq_peeling.specs.RowOnes.{ones_of}
use Rattle.rq_peeling.proofs.ones.RowOnes.row.Goals as goal

pub returns : goal.returns
returns c =
    let enough = key_within _ _ _ c.args.row c.self.view_is c.requires in
    c.part.ensures
    ∙ rw (c.as_slice-starts.ensures.value, c.as_slice.ensures.value) (list_read c.self.inside.starts.items c.self.inside.columns.items c.args.row enough)
    ∙ ap (λ (lists : List (List ℕ)). ones_of lists c.args.row) c.self.view_is

pub offset_bounds-starts-row : goal.offset_bounds-starts-row
offset_bounds-starts-row c = omega (arith, key_within _ _ _ c.args.row c.self.view_is c.requires, ap length c.as_slice-starts.ensures.value, c.as_slice-starts.type_inv)

pub bounds-starts-row : goal.bounds-starts-row
bounds-starts-row c = omega (arith, key_within _ _ _ c.args.row c.self.view_is c.requires, ap length c.as_slice-starts.ensures.value)

pub overflow_add-row : goal.overflow_add-row
overflow_add-row c = omega (arith, key_within _ _ _ c.args.row c.self.view_is c.requires, ap length c.as_slice-starts.ensures.value, c.as_slice-starts.type_inv)

pub offset_bounds-starts-row-2 : goal.offset_bounds-starts-row-2
offset_bounds-starts-row-2 c = omega (arith, key_within _ _ _ c.args.row c.self.view_is c.requires, ap length c.as_slice-starts.ensures.value, c.as_slice-starts.type_inv)

pub bounds-starts-row-2 : goal.bounds-starts-row-2
bounds-starts-row-2 c = omega (arith, key_within _ _ _ c.args.row c.self.view_is c.requires, ap length c.as_slice-starts.ensures.value)

pub part-requires-clause-order : goal.part-requires-clause-order
part-requires-clause-order c =
    let enough = key_within _ _ _ c.args.row c.self.view_is c.requires in
    rw c.as_slice-starts.ensures.value (c.self.invariant.rise.rise c.args.row enough)
