-- What a part's receiver has taken, cell by cell.
use Rattle.std.proofs.Common.{◌≡◌, ℕ, ◌+◌, ◌≤◌, List, [], ◌∷◌, ◌++◌, true, false, Option, Some, None, refl, sym, ap, subst, ◌∙◌, arith, length, drop, map, inl, inr, append-nil, length-append}
use Rattle.std.specs.Prelude.{IfSome, MatchOption, Contains}
use Rattle.std.proofs.lemmas.Bool.{true≢false}
use Rattle.std.proofs.lemmas.List.{map-append}
use Rattle.std.proofs.lemmas.List.Elements.{Contains-push, Contains-append_left}
use Rattle.rq_standard.specs.declared.row.TableRow.{TableRow}
use Rattle.rq_standard.specs.Packet.{Packet}
use Rattle.rq_standard.specs.Headline.{IsHonestRun}
use Rattle.rq_standard.specs.Following.{FollowsRun}
use Rattle.raptorq.specs.Decoder.{state_of}
use Rattle.rq_cells.specs.declared.head.Head.{Head}
use Rattle.rq_cells.specs.declared.cell.Cell.{Cell}
use Rattle.rq_cast.specs.declared.choice.Choice.{Choice}
use Rattle.rq_cast.specs.declared.choice.Rival.{Rival}
use Rattle.rq_cast.specs.declared.part_receiver.PartReceiver.{PartReceiver}
use Rattle.rq_cast.specs.Taken.{has_head, IsTakenHead, known_packets, received_packets, IsOneSender}
use Rattle.rq_cast.specs.PartReceiving.{EachHead, IsHeadOf, IsHeadBehind, IsAttempt, IsSound, IsUnused, IsForeign, BeginsAnew, GoesOnWith, AddsPacket, HasReceived, HasReceivedAll}
use Rattle.rq_cast.proofs.SameHead.{own_head}
use Rattle.rq_cast.proofs.TakenPackets.{received_both, received_own, received_other, received_since, received_since_all, last_head}

-- ---- heads

rival_all : (P Q : Head → Type 0) → ((h : Head) → P h → Q h) → (o : Option Rival) → IfSome o (λ r. P r.head) → IfSome o (λ r. Q r.head)
rival_all P Q all None p = tt
rival_all P Q all (Some r) p = all r.head p

pub each_all : (P Q : Head → Type 0) → ((h : Head) → P h → Q h) → (c : Choice) → EachHead P c → EachHead Q c
each_all P Q all c each = (all c.head each.0, rival_all P Q all c.rival each.1)

pub each_same : (P : Head → Type 0) (old new : Choice) → new.head ≡ old.head → new.rival ≡ old.rival → EachHead P old → EachHead P new
each_same P old new head rival each = (subst P (sym head) each.0, subst (λ (o : Option Rival). IfSome o (λ r. P r.head)) (sym rival) each.1)

-- what holds of the heads that were there, and of a further one, where coders take it, holds of those behind it
module _ (P : Head → Type 0) (table : List TableRow) (old : Choice) (h : Head) (each : EachHead P old) (here : IsTakenHead table h → P h) where
  of_rival : (o : Option Rival) → IfSome o (λ r. P r.head) → (k : Head) → MatchOption o ⊥ (λ r. k ≡ r.head) → P k
  of_rival None p k is = absurd is
  of_rival (Some r) p k is = subst P (sym is) p

  one_behind : (k : Head) → IsHeadBehind table old h k → P k
  one_behind k (inl is) = subst P (sym is) each.0
  one_behind k (inr (inl is)) = of_rival old.rival each.1 k is
  one_behind k (inr (inr (is, taken))) = subst P (sym is) (here taken)

  pub each_behind : (new : Choice) → EachHead (IsHeadBehind table old h) new → EachHead P new
  each_behind new = each_all (IsHeadBehind table old h) P one_behind new

-- ---- heads of the part that coders take, and the attempt

module _ (table : List TableRow) (index : ℕ) (old : PartReceiver) where
  -- a receiver with other heads
  abbrev pub with_choice : Choice → PartReceiver
  with_choice choice = record old { choice = choice }

  pub sound_choice : (choice : Choice) → EachHead (IsHeadOf table index) choice → choice.head ≡ old.choice.head → IsSound table index old
      → IsSound table index (with_choice choice)
  sound_choice choice heads same sound =
      record { heads = heads; attempt = subst (λ (h : Head). IsAttempt h old.attempt) (sym same) sound.attempt }

  pub sound_begun : (new : PartReceiver) → EachHead (IsHeadOf table index) old.choice → BeginsAnew table old new → IsSound table index new
  sound_begun new heads anew = record {
    heads = each_same (IsHeadOf table index) old.choice new.choice anew.head anew.rival heads;
    attempt = subst (λ (h : Head). IsAttempt h new.attempt) (sym anew.head) anew.attempt;
  }

  pub sound_added : (p : Packet) (new : PartReceiver) → IsSound table index old → AddsPacket table old p new → IsSound table index new
  sound_added p new sound (inl on) = record {
    heads = subst (EachHead (IsHeadOf table index)) (sym on.choice) sound.heads;
    attempt = subst (λ (c : Choice). IsAttempt c.head new.attempt) (sym on.choice) on.attempt.is;
  }
  sound_added p new sound (inr (foreign, up)) = sound_begun new sound.heads up.anew

-- ---- which heads came

abbrev pub head_of : Cell → Head
head_of c = c.head

-- the first head, and those of the cells that came
abbrev pub heads_of : Head → List Cell → List Head
heads_of first came = first ∷ map head_of came

module _ (first : Head) (came : List Cell) (cell : Cell) where
  abbrev pub with_cell : List Cell
  with_cell = came ++ cell ∷ []

  one_head_more : heads_of first with_cell ≡ heads_of first came ++ cell.head ∷ []
  one_head_more = ap (λ hs. first ∷ hs) (map-append head_of came (cell ∷ []))

  pub still_among : (h : Head) → Contains (heads_of first came) h → Contains (heads_of first with_cell) h
  still_among h is = subst (λ hs. Contains hs h) (sym one_head_more) (Contains-append_left (heads_of first came) (cell.head ∷ []) h is)

  pub cell_among : Contains (heads_of first with_cell) cell.head
  cell_among = subst (λ hs. Contains hs cell.head) (sym one_head_more) (Contains-push (heads_of first came) cell.head)

  longer : length with_cell ≡ length came + 1
  longer = length-append came (cell ∷ [])

-- ---- before its first cell

module _ (table : List TableRow) (h : Head) (p : PartReceiver) (unused : IsUnused table h p) where
  pub unused_received : (came : List Cell) → HasReceived table h came p
  unused_received came = record {
    heads = (
      (0, omega arith, sym unused.head),
      subst (λ (o : Option Rival). IfSome o (λ r. Contains (heads_of h came) r.head)) (sym unused.alone) tt,
    );
    begun = length came;
    within = omega arith;
    follows = subst (λ ps. FollowsRun table ps (state_of p.attempt.decoder)) (sym (received_since_all p.choice.head came)) unused.follows;
  }

  pub unused_all : HasReceivedAll table h [] p
  unused_all = record { head = unused.head; follows = unused.follows; restarted = unused.restarted }

-- ---- begun anew

module _ (table : List TableRow) (first : Head) (came : List Cell) (old new : PartReceiver) (anew : BeginsAnew table old new) where
  pub begun_received : EachHead (Contains (heads_of first came)) old.choice → HasReceived table first came new
  begun_received heads = record {
    heads = each_same (Contains (heads_of first came)) old.choice new.choice anew.head anew.rival heads;
    begun = length came;
    within = omega arith;
    follows = subst (λ ps. FollowsRun table ps (state_of new.attempt.decoder)) (sym (received_since_all new.choice.head came)) anew.follows;
  }

-- ---- a cell with the head in use

module _ (table : List TableRow) (first : Head) (came : List Cell) (cell : Cell) (old new : PartReceiver) (own : has_head old.choice.head cell ≡ true)
    (heads : EachHead (Contains (heads_of first (with_cell first came cell))) old.choice)
    (begun : ℕ) (within : begun ≤ length came)
    (follows : FollowsRun table (received_packets old.choice.head (drop begun came)) (state_of old.attempt.decoder)) where
  abbrev h : Head
  h = old.choice.head

  abbrev all : List Cell
  all = with_cell first came cell

  abbrev packets : List Packet
  packets = received_packets h (drop begun came)

  more : received_packets h (drop begun all) ≡ packets ++ known_packets h.configuration (cell.packet ∷ [])
  more = received_since h begun came (cell ∷ []) within ∙ ap (λ ps. packets ++ ps) (received_own h cell own)

  goes_on : GoesOnWith old cell.packet new → HasReceived table first all new
  goes_on on = record {
    heads = subst (EachHead (Contains (heads_of first all))) (sym on.choice) heads;
    begun = begun;
    within = omega (arith, within, longer first came cell);
    follows = subst (λ (c : Choice). FollowsRun table (received_packets c.head (drop begun all)) (state_of new.attempt.decoder)) (sym on.choice)
        (subst (λ ps. FollowsRun table ps (state_of new.attempt.decoder)) (sym more) (on.attempt.follows table packets follows));
  }

  pub added : AddsPacket table old cell.packet new → HasReceived table first all new
  added (inl on) = goes_on on
  added (inr (foreign, up)) = begun_received table first all old new up.anew heads

-- ---- the next cell, whoever sent it

module _ (table : List TableRow) (first : Head) (came : List Cell) (cell : Cell) (old : PartReceiver) (has : HasReceived table first came old) where
  abbrev among : Head → Type 0
  among = Contains (heads_of first (with_cell first came cell))

  still : EachHead among old.choice
  still = each_all (Contains (heads_of first came)) among (still_among first came cell) old.choice has.heads

  -- it has the head in use
  pub received_same : has_head old.choice.head cell ≡ true → (choice : Choice) → choice.head ≡ old.choice.head → choice.rival ≡ old.choice.rival
      → (new : PartReceiver) → AddsPacket table (record old { choice = choice }) cell.packet new → HasReceived table first (with_cell first came cell) new
  received_same own choice head rival new adds =
      added table first came cell (record old { choice = choice }) new (subst (λ (h : Head). has_head h cell ≡ true) (sym head) own)
      (each_same among old.choice choice head rival still) has.begun has.within
      (subst (λ (h : Head). FollowsRun table (received_packets h (drop has.begun came)) (state_of old.attempt.decoder)) (sym head) has.follows) adds

  -- it has another one
  module _ (other : has_head old.choice.head cell ≡ false) where
    nothing_more : received_packets old.choice.head (drop has.begun (with_cell first came cell)) ≡ received_packets old.choice.head (drop has.begun came)
    nothing_more =
        received_since old.choice.head has.begun came (cell ∷ []) has.within
        ∙ ap (λ ps. received_packets old.choice.head (drop has.begun came) ++ ps) (received_other old.choice.head cell other)
        ∙ append-nil (received_packets old.choice.head (drop has.begun came))

    passed_with : (choice : Choice) → EachHead among choice → choice.head ≡ old.choice.head
        → HasReceived table first (with_cell first came cell) (record old { choice = choice })
    passed_with choice heads same = record {
      heads = heads;
      begun = has.begun;
      within = omega (arith, has.within, longer first came cell);
      follows = subst (λ (k : Head). FollowsRun table (received_packets k (drop has.begun (with_cell first came cell))) (state_of old.attempt.decoder)) (sym same)
          (subst (λ ps. FollowsRun table ps (state_of old.attempt.decoder)) (sym nothing_more) has.follows);
    }

    -- which isn't looked at
    pub received_passed : HasReceived table first (with_cell first came cell) old
    received_passed = passed_with old.choice still refl

    module _ (choice : Choice) (heads : EachHead (IsHeadBehind table old.choice cell.head) choice) where
      heads_among : EachHead among choice
      heads_among = each_behind among table old.choice cell.head still (λ taken. cell_among first came cell) choice heads

      -- which is counted
      pub received_counted : choice.head ≡ old.choice.head → HasReceived table first (with_cell first came cell) (record old { choice = choice })
      received_counted same = passed_with choice heads_among same

      -- or is in use now
      pub received_anew : choice.head ≡ cell.head → (mid : PartReceiver) → BeginsAnew table (record old { choice = choice }) mid
          → (new : PartReceiver) → AddsPacket table mid cell.packet new → HasReceived table first (with_cell first came cell) new
      received_anew same mid anew new adds =
          let head : mid.choice.head ≡ cell.head = anew.head ∙ same in
          added table first came cell mid new (subst (λ (h : Head). has_head h cell ≡ true) (sym head) (own_head cell))
          (each_same among choice mid.choice anew.head anew.rival heads_among) (length came) (omega arith)
          (subst (λ ps. FollowsRun table ps (state_of mid.attempt.decoder)) (sym (received_since_all mid.choice.head came)) anew.follows) adds

-- ---- the next cell of one sender

module _ (table : List TableRow) (h : Head) (came : List Cell) (cell : Cell) (old : PartReceiver) (one : IsOneSender table h (came ++ cell ∷ []))
    (has : HasReceivedAll table h came old) where
  own : has_head h cell ≡ true
  own = subst (λ (k : Head). has_head k cell ≡ true) (last_head h came cell one.heads) (own_head cell)

  -- it has the head in use
  pub no_other : has_head old.choice.head cell ≡ false → ⊥
  no_other other = true≢false (sym own ∙ subst (λ (k : Head). has_head k cell ≡ false) has.head other)

  more_of_one : received_packets h (came ++ cell ∷ []) ≡ received_packets h came ++ known_packets h.configuration (cell.packet ∷ [])
  more_of_one = received_both h came (cell ∷ []) ∙ ap (λ ps. received_packets h came ++ ps) (received_own h cell own)

  module _ (choice : Choice) (head : choice.head ≡ old.choice.head) (new : PartReceiver) where
    same : choice.head ≡ h
    same = head ∙ has.head

    goes_on_all : GoesOnWith (record old { choice = choice }) cell.packet new → HasReceivedAll table h (came ++ cell ∷ []) new
    goes_on_all on = record {
      head = ap (λ (c : Choice). c.head) on.choice ∙ same;
      follows = subst (λ ps. FollowsRun table ps (state_of new.attempt.decoder)) (sym more_of_one)
          (subst (λ (k : Head). FollowsRun table (received_packets h came ++ known_packets k.configuration (cell.packet ∷ [])) (state_of new.attempt.decoder))
          same (on.attempt.follows table (received_packets h came) has.follows));
      restarted = on.restarted ∙ has.restarted;
    }

    -- and its packet isn't foreign
    not_foreign : IsForeign choice.head old.attempt cell.packet → ⊥
    not_foreign foreign =
        let run = subst (IsHonestRun table h.configuration one.object) more_of_one one.honest in
        subst (λ (k : Head). IsForeign k old.attempt cell.packet) same foreign table one.object (received_packets h came) has.follows one.named run

    pub added_all : AddsPacket table (record old { choice = choice }) cell.packet new → HasReceivedAll table h (came ++ cell ∷ []) new
    added_all (inl on) = goes_on_all on
    added_all (inr (foreign, up)) = absurd (not_foreign foreign)
