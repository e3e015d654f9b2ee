-- What becomes of the first part of a window.
use Rattle.std.proofs.Common.{◌≡◌, ℕ, ◌+◌, ◌^◌, ◌<◌, List, [], ◌∷◌, ◌++◌, false, Option, Some, None, refl, sym, ap, subst, ◌∙◌, arith, length, set}
use Rattle.std.specs.Prelude.{IfSome}
use Rattle.rq_standard.specs.declared.row.TableRow.{TableRow}
use Rattle.rq_cells.specs.declared.cell.Cell.{Cell}
use Rattle.rq_cast.specs.declared.names.Names.{Names}
use Rattle.rq_cast.specs.declared.part_receiver.PartReceiver.{PartReceiver}
use Rattle.rq_cast.specs.declared.settled.SettledPart.{SettledPart}
use Rattle.rq_cast.specs.declared.settled.Settling.TheVariants.{Waits, Anew, Settled}
use Rattle.rq_cast.specs.declared.window.Window.{Window}
use Rattle.rq_cast.specs.PartReceiving.{IsAttempt, IsSound, GivesUp}
use Rattle.rq_cast.specs.Settling.{SettlesAs, IsMisplaced}
use Rattle.rq_cast.specs.Windows.{names_of, open_at, IsSoundWindow, IsOpen, HasVoted, HasAll, HasTaken, IsMoving, SettlesIn}
use Rattle.rq_cast.proofs.PartTaken.{sound_begun}
use Rattle.rq_cast.proofs.WindowPlaces.{place_here, sound_set, open_begun}
use Rattle.rq_cast.proofs.WindowSenders.{at_first}
use Rattle.rq_cast.proofs.LedParts.{misplaced_votes}
use Rattle.rq_cast.proofs.WindowSteps.{attempt_first, rested, first_changed, not_misplaced}

-- ---- what becomes of its place

module _ (table : List TableRow) (names : Names) where
  in_waits : (o slot : Option PartReceiver) → SettlesIn table names o Waits slot → (slot ≡ o) × IfSome slot (λ p. p.attempt.object ≡ None)
  in_waits None slot settles = (settles.1, subst (λ (x : Option PartReceiver). IfSome x (λ p. p.attempt.object ≡ None)) (sym settles.1) tt)
  in_waits (Some p) None settles = absurd settles
  in_waits (Some p) (Some q) settles =
      (ap Some settles.0, subst (λ (x : PartReceiver). x.attempt.object ≡ None) (sym settles.0) settles.1)

  pub record IsAnew (o slot : Option PartReceiver) : Type 0 where
    pub old : PartReceiver
    pub was : o ≡ Some old
    pub new : PartReceiver
    pub is : slot ≡ Some new
    pub misplaced : IsMisplaced names old
    pub gives_up : GivesUp table old new

  in_anew : (o slot : Option PartReceiver) → SettlesIn table names o Anew slot → IsAnew o slot
  in_anew None slot settles = absurd (cc settles.0)
  in_anew (Some p) None settles = absurd settles
  in_anew (Some p) (Some q) settles = record { old = p; was = refl; new = q; is = refl; misplaced = settles.0; gives_up = settles.1 }

  pub in_settled : (o slot : Option PartReceiver) (part : SettledPart) → SettlesIn table names o (Settled part) slot
      → (p : PartReceiver) × (o ≡ Some p) × SettlesAs names p part
  in_settled None slot part settles = absurd (cc settles.0)
  in_settled (Some p) None part settles = absurd settles
  in_settled (Some p) (Some q) part settles = (p, refl, settles)

  -- it is still one of its index
  pub sound_waiting : (index : ℕ) (o slot : Option PartReceiver) → SettlesIn table names o Waits slot → IfSome o (IsSound table index)
      → IfSome slot (IsSound table index)
  sound_waiting index o slot settles sound = subst (λ x. IfSome x (IsSound table index)) (sym (in_waits o slot settles).0) sound

  pub sound_anew : (index : ℕ) (o slot : Option PartReceiver) → SettlesIn table names o Anew slot → IfSome o (IsSound table index)
      → IfSome slot (IsSound table index)
  sound_anew index o slot settles sound =
      let anew = in_anew o slot settles in
      let was : IsSound table index anew.old = subst (λ x. IfSome x (IsSound table index)) anew.was sound in
      subst (λ x. IfSome x (IsSound table index)) (sym anew.is) (sound_begun table index anew.old anew.new was.heads anew.gives_up.anew)

-- an index has 31 bits
pub few_parts : (table : List TableRow) (w : Window) (p : PartReceiver) → IsSoundWindow table w → open_at w 0 ≡ Some p → w.names.count < 2 ^ 31
few_parts table w p sound opened =
    let is : IsSound table (w.names.count + 0) p = subst (λ o. IfSome o (IsSound table (w.names.count + 0))) opened (sound.each 0) in
    omega (arith, is.heads.0.place)

-- ---- where it isn't settled

module _ (table : List TableRow) (stream : List ℕ) (width : ℕ) (came : List Cell) (cell : Cell) (given : List ℕ) (old new : Window)
    (m : IsMoving table stream width came cell given old) (sound : IsSoundWindow table old) (slot : Option PartReceiver)
    (places : new.parts.items ≡ set old.parts.items 0 slot) (some : 0 < length old.parts.items) (names : new.names ≡ old.names)
    (ready : new.ready.items ≡ old.ready.items) (ended : new.ended ≡ old.ended) (behind : new.behind ≡ old.behind) (ahead : new.ahead ≡ old.ahead) where
  abbrev seen : List Cell
  seen = came ++ cell ∷ []

  count : new.names.count ≡ old.names.count
  count = ap (λ (n : Names). n.count) names

  waits_now : IfSome slot (λ p. p.attempt.object ≡ None) → IfSome (open_at new 0) (λ p. p.attempt.object ≡ None)
  waits_now waits = subst (λ (o : Option PartReceiver). IfSome o (λ p. p.attempt.object ≡ None)) (sym (place_here old new 0 slot places some)) waits

  pub first_waits : new.restarted ≡ old.restarted → SettlesIn table old.names (open_at old 0) Waits slot → HasTaken table stream width seen given new
  first_waits restarted settles =
      let waits = in_waits table old.names (open_at old 0) slot settles in
      let moving = first_changed table stream width came cell given old m sound new slot places some names ready ended behind ahead
      (λ is. subst (λ o. IfSome o (IsOpen table seen)) (sym waits.0) is)
      (λ cells has. subst (HasVoted table (Some (names_of m.parts)) cells) (sym waits.0) has)
      (λ s senders b st. (
        subst (HasAll table (s.head b.first) (b.came b.first)) (sym waits.0) (at_first table stream s seen senders b m.parts old st),
        restarted ∙ st.restarted,
      )) in
      rested table stream width came cell given new moving
      (sound_set table old new 0 slot places some count (sound_waiting table old.names (old.names.count + 0) (open_at old 0) slot settles (sound.each 0)) sound)
      (λ open_still. waits_now waits.1)

  pub first_anew : old.ended ≡ false → SettlesIn table old.names (open_at old 0) Anew slot → HasTaken table stream width seen given new
  first_anew open_still settles =
      let anew = in_anew table old.names (open_at old 0) slot settles in
      let moving = first_changed table stream width came cell given old m sound new slot places some names ready ended behind ahead
      (λ is. subst (λ o. IfSome o (IsOpen table seen)) (sym anew.is)
      (open_begun table seen anew.old anew.new anew.gives_up.anew (subst (λ o. IfSome o (IsOpen table seen)) anew.was is)))
      (λ cells has. subst (HasVoted table (Some (names_of m.parts)) cells) (sym anew.is)
      (misplaced_votes table anew.old (subst (λ (o : Option PartReceiver). IfSome o (λ p. IsAttempt p.choice.head p.attempt)) anew.was (attempt_first table old sound))
      (names_of m.parts) cells (subst (HasVoted table (Some (names_of m.parts)) cells) anew.was has)
      old.names m.names anew.misplaced anew.new anew.gives_up))
      (λ s senders b st. absurd (not_misplaced table stream width came cell given old m sound open_still anew.old anew.was anew.misplaced s senders b st)) in
      rested table stream width came cell given new moving
      (sound_set table old new 0 slot places some count (sound_anew table old.names (old.names.count + 0) (open_at old 0) slot settles (sound.each 0)) sound)
      (λ still. waits_now (subst (λ (o : Option PartReceiver). IfSome o (λ p. p.attempt.object ≡ None)) (sym anew.is) anew.gives_up.anew.open_still))
