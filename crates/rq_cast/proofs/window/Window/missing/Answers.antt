use Rattle.std.proofs.Common.{◌≡◌, ◌<◌, Some, None, length, refl, sym, subst, ◌∙◌, arith}
use Rattle.std.proofs.lemmas.List.{get_or_read, get_or_past}
use Rattle.rq_cast.specs.Windows.{open_at}
use Rattle.rq_cast.proofs.WindowLacks.{Told, lacks}
use Rattle.rq_cast.proofs.window.Window.missing.Goals as goal
use Rattle.rq_cast.proofs.window.Window.missing.Goals.{After-index}

pub returns-then-is_empty : goal.returns-then-is_empty
returns-then-is_empty c = λ table stream width came given sound open_still has.
    let w = c.args.self.now in
    let none : open_at w 0 ≡ None = get_or_past w.parts.items 0 None (grind (arith, c.if-is_empty.true, c.is_empty.ensures, w.parts.ok.0)) in
    lacks table w sound stream width came given open_still has None (subst (λ o. Told o None) (sym none) refl)

module _ (c : After-index) where
  some : 0 < length c.args.self.now.parts.items
  some = grind (arith, c.if-is_empty.false, c.is_empty.ensures, c.args.self.now.parts.ok.0)

  slot : c.index.result.now ≡ open_at c.args.self.now 0
  slot = get_or_read c.args.self.now.parts.items 0 c.index.result.now some c.index.ensures None

pub returns-in-Some : goal.returns-in-Some
returns-in-Some c = λ table stream width came given sound open_still has.
    let at = (goal.at.returns-in-Some c).After-index in
    let missing = Some c.missing_packets.result in
    lacks table c.args.self.now sound stream width came given open_still has missing
    (subst (λ o. Told o missing) (sym c.in-Some.is ∙ slot at) c.missing_packets.ensures)

pub returns-in-None : goal.returns-in-None
returns-in-None c = λ table stream width came given sound open_still has.
    let at = (goal.at.returns-in-None c).After-index in
    lacks table c.args.self.now sound stream width came given open_still has None (subst (λ o. Told o None) (sym c.in-None.is ∙ slot at) refl)
