use Rattle.std.proofs.Common.{◌<◌, ◌≤◌, length, arith, sym, subst}
use Rattle.std.proofs.lemmas.List.{take_rest}
use Rattle.rq_cells.specs.Wanted.{wish_of, WasNoted}
use Rattle.rq_cells.proofs.Walks.{IsNext, moved, can_note, next_is, behind_is, behind_all, noted_at, found_at}
use Rattle.rq_cells.proofs.search.walk_known.Goals as goal
use Rattle.rq_cells.proofs.search.walk_known.Goals.{After-noted-item}

module _ (c : After-noted-item) where
  below : c.loop-noted.noted-index < length c.args.known.now
  below = omega arith

  next : IsNext (wish_of c.args.wanted.now) c.args.bytes.now c.loop-noted.walk c.noted-item.result
  next =
      next_is (wish_of c.args.wanted.now) c.args.bytes.now c.args.looked c.args.known.now c.loop-noted.walk c.loop-noted.noted-index c.noted-item.result
      c.noted-item.is below c.loop-noted.invariant

pub slice_bounds-sight_again-count : goal.slice_bounds-sight_again-count
slice_bounds-sight_again-count c = omega (arith, (next (goal.at.slice_bounds-sight_again-count c).After-noted-item).below)

pub slice_bounds-sight_again-start : goal.slice_bounds-sight_again-start
slice_bounds-sight_again-start c = omega (arith, (next (goal.at.slice_bounds-sight_again-start c).After-noted-item).below)

pub sight_again-requires : goal.sight_again-requires
sight_again-requires c =
    let w = wish_of c.args.wanted.now in
    let e = c.noted-item.result in
    let there = next (goal.at.sight_again-requires c).After-noted-item in
    subst (λ xs. WasNoted w xs e.note) (sym (take_rest c.args.bytes.now e.at)) there.was

pub note-requires : goal.note-requires
note-requires c =
    let there = next (goal.at.note-requires c).After-noted-item in
    can_note (wish_of c.args.wanted.now) c.args.bytes.now (moved c.loop-noted.walk c.noted-item.result.at) there.walk_is (omega (arith, there.below))

pub loop-noted-preserved : goal.loop-noted-preserved
loop-noted-preserved c =
    let w = wish_of c.args.wanted.now in
    let bytes = c.args.bytes.now in
    let e = c.noted-item.result in
    let at = (goal.at.loop-noted-preserved c).After-noted-item in
    let notes = c.in_ok-note-in-Noted.ensures.noted in
    behind_is w bytes c.args.looked c.args.known.now c.loop-noted.walk c.loop-noted.noted-index e c.noted-item.is (below at) c.loop-noted.invariant c.note.new.self
    (noted_at w bytes c.loop-noted.walk e.at (next at).walk_is c.in_ok-note.field-0 c.in_ok-note.ensures.sight c.in-Noted.note c.note.new.self c.in-Noted.is notes)
    notes.at

pub returns-in-Found-clause-finds : goal.returns-in-Found-clause-finds
returns-in-Found-clause-finds c =
    let there = next (goal.at.returns-in-Found-clause-finds c).After-noted-item in
    found_at (wish_of c.args.wanted.now) c.args.bytes.now c.loop-noted.walk c.noted-item.result.at there.walk_is c.in_ok-note.field-0 c.in_ok-note.ensures.sight
    c.in-Found.head there.below c.in-Found.is

pub returns-clause-finds : goal.returns-clause-finds
returns-clause-finds c =
    let all : length c.args.known.now ≤ c.loop-noted.noted-index = omega arith in
    behind_all (wish_of c.args.wanted.now) c.args.bytes.now c.args.looked c.args.known.now c.loop-noted.walk c.loop-noted.noted-index all c.loop-noted.invariant
