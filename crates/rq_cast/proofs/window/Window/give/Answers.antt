use Rattle.std.proofs.Common.{◌≡◌, ◌<◌, None, length, sym, subst, refl, arith}
use Rattle.std.specs.Prelude.{IfSome}
use Rattle.std.proofs.lemmas.List.{get_or_read}
use Rattle.rq_cast.specs.Taken.{part_index}
use Rattle.rq_cast.specs.PartReceiving.{IsSound}
use Rattle.rq_cast.specs.Windows.{open_at, ReceivesCell}
use Rattle.rq_cast.proofs.WindowPlaces.{sound_set}
use Rattle.rq_cast.proofs.WindowSteps.{taken_given}
use Rattle.rq_cast.proofs.window.Window.give.Goals as goal
use Rattle.rq_cast.proofs.window.Window.give.Goals.{After-index_mut}

module _ (c : After-index_mut) where
  within : c.args.place < length c.args.self.now.parts.items
  within = omega (arith, c.requires.within, c.args.self.now.parts.ok.0)

  slot : c.index_mut.result.now ≡ open_at c.args.self.now c.args.place
  slot = get_or_read c.args.self.now.parts.items c.args.place c.index_mut.result.now within c.index_mut.ensures.value None

pub receive_cell-requires-clause-sound : goal.receive_cell-requires-clause-sound
receive_cell-requires-clause-sound c =
    let at = (goal.at.receive_cell-requires-clause-sound c).After-index_mut in
    subst (λ o. IfSome o (IsSound c.args.table.now (part_index c.args.found.cell.head))) (sym (slot at))
    (subst (λ n. IfSome (open_at c.args.self.now c.args.place) (IsSound c.args.table.now n)) (sym c.requires.here) (c.requires.sound.each c.args.place))

pub returns-clause-gives : goal.returns-clause-gives
returns-clause-gives c = λ stream width came given has.
    let at = (goal.at.returns-clause-gives c).After-index_mut in
    let table = c.args.table.now in
    let receives = subst (λ o. ReceivesCell table o c.args.found.cell c.receive_cell.new.place) (slot at) c.in_ok-anew.ensures.receives in
    taken_given table stream width came given c.args.found.cell c.args.self.now _ has c.requires.sound refl refl refl c.args.place c.receive_cell.new.place refl
    (within at) c.requires.open_still c.requires.here receives (omega (arith, c.in_ok-anew.ensures.anew)) refl refl

pub returns-clause-sound : goal.returns-clause-sound
returns-clause-sound c =
    let at = (goal.at.returns-clause-sound c).After-index_mut in
    let table = c.args.table.now in
    let this = subst (λ n. IfSome c.receive_cell.new.place (IsSound table n)) c.requires.here c.in_ok-anew.ensures.sound in
    sound_set table c.args.self.now _ c.args.place c.receive_cell.new.place refl (within at) refl this c.requires.sound
