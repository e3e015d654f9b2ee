use Rattle.std.proofs.Common.{◌≡◌, ◌+◌, ◌<◌, ◌++◌, ◌∷◌, [], List, Option, None, length, sym, ap, subst, refl, ◌∙◌, arith}
use Rattle.std.specs.Prelude.{IfSome}
use Rattle.std.proofs.lemmas.List.{get_or_read, get_or_past, drop-set-lt}
use Rattle.rq_cast.specs.declared.part_receiver.PartReceiver.{PartReceiver}
use Rattle.rq_cast.specs.declared.settled.Settling.{Settling}
use Rattle.rq_cast.specs.declared.settled.Settling.TheVariants.{Waits, Anew, Settled}
use Rattle.rq_cast.specs.PartReceiving.{IsSound}
use Rattle.rq_cast.specs.Windows.{open_at, SettlesIn}
use Rattle.rq_cast.proofs.WindowPlaces.{sound_slid}
use Rattle.rq_cast.proofs.WindowSteps.{rested, moved_on}
use Rattle.rq_cast.proofs.WindowFirst.{first_waits, first_anew, in_settled}
use Rattle.rq_cast.proofs.window.Window.settle_first.Goals as goal
use Rattle.rq_cast.proofs.window.Window.settle_first.Goals.{After-index_mut}

pub returns-then-is_empty-clause-settles : goal.returns-then-is_empty-clause-settles
returns-then-is_empty-clause-settles c = λ stream width came cell given m.
    let old = c.args.self.now in
    let none : open_at old 0 ≡ None = get_or_past old.parts.items 0 None (grind (arith, c.if-is_empty.true, c.is_empty.ensures, old.parts.ok.0)) in
    rested c.args.table.now stream width came cell given old m c.requires.sound
    (λ still. subst (λ (o : Option PartReceiver). IfSome o (λ p. p.attempt.object ≡ None)) (sym none) tt)

module _ (c : After-index_mut) where
  some : 0 < length c.args.self.now.parts.items
  some = grind (arith, c.if-is_empty.false, c.is_empty.ensures, c.args.self.now.parts.ok.0)

  slot : c.index_mut.result.now ≡ open_at c.args.self.now 0
  slot = get_or_read c.args.self.now.parts.items 0 c.index_mut.result.now some c.index_mut.ensures.value None

pub settle_in-requires : goal.settle_in-requires
settle_in-requires c =
    let at = (goal.at.settle_in-requires c).After-index_mut in
    let old = c.args.self.now in
    let index : old.names.count + 0 ≡ old.names.count = omega arith in
    record {
      sound = subst (λ (o : Option PartReceiver). IfSome o (IsSound c.args.table.now old.names.count)) (sym (slot at))
          (subst (λ n. IfSome (open_at old 0) (IsSound c.args.table.now n)) index (c.requires.sound.each 0));
    }

-- what becomes of the first part
settles : (c : After-index_mut) (found s : Settling) (after : Option PartReceiver) → found ≡ s
    → SettlesIn c.args.table.now c.args.self.now.names c.index_mut.result.now found after
    → SettlesIn c.args.table.now c.args.self.now.names (open_at c.args.self.now 0) s after
settles c found s after is so =
    let table = c.args.table.now in
    let names = c.args.self.now.names in
    subst (λ o. SettlesIn table names o s after) (slot c) (subst (λ x. SettlesIn table names c.index_mut.result.now x after) is so)

pub returns-in-Waits-clause-settles : goal.returns-in-Waits-clause-settles
returns-in-Waits-clause-settles c = λ stream width came cell given m.
    let at = (goal.at.returns-in-Waits-clause-settles c).After-index_mut in
    let after = c.settle_in.new.place in
    first_waits c.args.table.now stream width came cell given c.args.self.now _ m c.requires.sound after refl (some at) refl refl refl refl refl refl
    (settles at c.in_ok-settle_in.field-0 Waits after c.in-Waits.is c.in_ok-settle_in.ensures.settles)

pub returns-in-Anew-clause-settles : goal.returns-in-Anew-clause-settles
returns-in-Anew-clause-settles c = λ stream width came cell given m.
    let at = (goal.at.returns-in-Anew-clause-settles c).After-index_mut in
    let after = c.settle_in.new.place in
    first_anew c.args.table.now stream width came cell given c.args.self.now _ m c.requires.sound after refl (some at) refl refl refl refl refl
    c.requires.open_still (settles at c.in_ok-settle_in.field-0 Anew after c.in-Anew.is c.in_ok-settle_in.ensures.settles)

pub returns-in_ok-move_on-in-Settled-clause-settles : goal.returns-in_ok-move_on-in-Settled-clause-settles
returns-in_ok-move_on-in-Settled-clause-settles c = λ stream width came cell given m.
    let at = (goal.at.returns-in_ok-move_on-in-Settled-clause-settles c).After-index_mut in
    let table = c.args.table.now in
    let old = c.args.self.now in
    let after = c.settle_in.new.place in
    let part = c.in-Settled.part in
    let is = in_settled table old.names (open_at old 0) after part
    (settles at c.in_ok-settle_in.field-0 (Settled part) after c.in-Settled.is c.in_ok-settle_in.ensures.settles) in
    moved_on table stream width came cell given old m c.requires.sound c.requires.open_still is.0 is.1 part is.2 _ c.move_on.new.self after refl (some at)
    refl refl refl refl refl c.in_ok-move_on-in-Settled.ensures.moves c.in_ok-move_on-in-Settled.ensures.counts

pub returns-in_ok-move_on-in-Settled-clause-sound : goal.returns-in_ok-move_on-in-Settled-clause-sound
returns-in_ok-move_on-in-Settled-clause-sound c =
    let at = (goal.at.returns-in_ok-move_on-in-Settled-clause-sound c).After-index_mut in
    let old = c.args.self.now in
    let after = c.settle_in.new.place in
    let moves = c.in_ok-move_on-in-Settled.ensures.moves in
    let none : Option PartReceiver = None in
    let places = moves.places ∙ ap (λ (xs : List (Option PartReceiver)). xs ++ none ∷ []) (drop-set-lt 1 old.parts.items 0 after (omega arith)) in
    sound_slid c.args.table.now old c.move_on.new.self places moves.count c.requires.sound
