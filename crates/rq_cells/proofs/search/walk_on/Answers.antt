use Rattle.std.proofs.Common.{subst, Some}
use Rattle.rq_cells.specs.Found.{IsNextHead}
use Rattle.rq_cells.specs.Wanted.{wish_of}
use Rattle.rq_cells.proofs.Walks.{walk_within, walk_to_head, walk_to_end, noted_at, found_at}
use Rattle.rq_cells.proofs.search.walk_on.Goals as goal

pub next_head-requires : goal.next_head-requires
next_head-requires c = walk_within (wish_of c.args.wanted.now) c.args.bytes.now c.heads.walk c.heads.invariant

pub heads-preserved : goal.heads-preserved
heads-preserved c =
    let w = wish_of c.args.wanted.now in
    let bytes = c.args.bytes.now in
    let next : IsNextHead w.key bytes c.heads.walk.at (Some (c.in-Some.at, c.in-Some.head)) = subst (IsNextHead w.key bytes c.heads.walk.at) c.in-Some.is c.next_head.ensures in
    let there = walk_to_head w bytes c.heads.walk c.in-Some.at c.in-Some.head c.heads.invariant next in
    noted_at w bytes c.heads.walk c.in-Some.at there.0 c.in_ok-note.field-0 c.in_ok-note.ensures.sight c.in-Noted.note c.note.new.self c.in-Noted.is
    c.in_ok-note-in-Noted.ensures.noted

pub returns-in-Found-clause-finds : goal.returns-in-Found-clause-finds
returns-in-Found-clause-finds c =
    let w = wish_of c.args.wanted.now in
    let bytes = c.args.bytes.now in
    let next : IsNextHead w.key bytes c.heads.walk.at (Some (c.in-Some.at, c.in-Some.head)) = subst (IsNextHead w.key bytes c.heads.walk.at) c.in-Some.is c.next_head.ensures in
    let there = walk_to_head w bytes c.heads.walk c.in-Some.at c.in-Some.head c.heads.invariant next in
    found_at w bytes c.heads.walk c.in-Some.at there.0 c.in_ok-note.field-0 c.in_ok-note.ensures.sight c.in-Found.head there.1 c.in-Found.is

pub returns-clause-finds : goal.returns-clause-finds
returns-clause-finds c =
    walk_to_end (wish_of c.args.wanted.now) c.args.bytes.now c.heads.walk c.saturating_sub-walk.result c.saturating_sub-walk.ensures c.heads.invariant
    (subst (IsNextHead (wish_of c.args.wanted.now).key c.args.bytes.now c.heads.walk.at) c.in_default.is c.next_head.ensures)
