-- What a receiver of a part makes of its cells, whoever sent them.
use Rattle.std.specs.Prelude.{◌≡◌, ◌≢◌, ◌⊎◌, ℕ, ◌+◌, ◌-◌, ◌<◌, ◌≤◌, List, [], ◌∷◌, ◌++◌, length, map, drop, Contains, Option, Some, None, IfSome, MatchOption, option_map, vec_items, Bool, true, false}
use Rattle.rq_standard.specs.declared.row.TableRow.{TableRow}
use Rattle.rq_standard.specs.Configuration.{largest_block}
use Rattle.rq_standard.specs.Packet.{Packet}
use Rattle.rq_standard.specs.Headline.{IsHonestRun}
use Rattle.rq_standard.specs.DecoderState.{result_of}
use Rattle.rq_standard.specs.Following.{FollowsRun}
use Rattle.raptorq.specs.Decoder.{state_of}
use Rattle.rq_cells.specs.declared.head.Head.{Head}
use Rattle.rq_cells.specs.declared.cell.Cell.{Cell}
use Rattle.rq_cast.specs.declared.choice.Choice.{Choice}
use Rattle.rq_cast.specs.declared.choice.Rival.{Rival}
use Rattle.rq_cast.specs.declared.attempt.Attempt.{Attempt}
use Rattle.rq_cast.specs.declared.part_receiver.PartReceiver.{PartReceiver}
use Rattle.rq_cast.specs.Digests.{KnowsDigests}
use Rattle.rq_cast.specs.Searching.{counted}
use Rattle.rq_cast.specs.Votes.{HasVotes}
use Rattle.rq_cast.specs.Taken.{part_index, IsTakenHead, known_packets, received_packets, IsNamed, IsNotNamed, IsNamedIn, IsOneSender}

-- ---- whose cells are received

-- coders take the configuration of a head, which is one of the part of an index
pub record IsHeadOf (table : List TableRow) (index : ℕ) (h : Head) : Type 0 where
  pub taken : IsTakenHead table h
  pub place : part_index h ≡ index

-- so it is of the head in use and of its rival
abbrev pub EachHead : (Head → Type 0) → Choice → Type 0
EachHead P c = P c.head × IfSome c.rival (λ r. P r.head)

-- behind a cell with a head: one of those that were there, or that head, where coders take it
abbrev pub IsHeadBehind : List TableRow → Choice → Head → Head → Type 0
IsHeadBehind table old h k = (k ≡ old.head) ⊎ (MatchOption old.rival ⊥ (λ r. k ≡ r.head) ⊎ ((k ≡ h) × IsTakenHead table h))

-- As in a majority vote a further head's cells count for it, and against it those of any others: so is the rival behind one more cell with a head that isn't
-- in use. It is let go with the last one that counts.
abbrev pub IsNextRival : Option Rival → Head → Option Rival → Type 0
IsNextRival None h new = new ≡ Some (record { head = h; cells = 1 })
IsNextRival (Some old) h new =
    (old.head ≡ h → new ≡ Some (record { head = h; cells = counted (old.cells + 1) }))
    × (old.head ≢ h → 1 < old.cells → new ≡ Some (record { head = old.head; cells = old.cells - 1 }))
    × (old.head ≢ h → old.cells ≤ 1 → new ≡ None)

-- The rival takes the place of the head in use with a cell of its own, where more of its cells count. That one is its rival then, if any of its cells counts.
abbrev pub TakesPlace : Choice → Head → Bool → Choice → Type 0
TakesPlace old h true new =
    (n : ℕ) × (old.rival ≡ Some (record { head = h; cells = n })) × (old.cells < n) × (new.head ≡ h) × (new.cells ≡ n)
    × (0 < old.cells → new.rival ≡ Some (record { head = old.head; cells = old.cells })) × (old.cells ≡ 0 → new.rival ≡ None)
TakesPlace old h false new = (new ≡ old) × IfSome old.rival (λ r. r.head ≡ h → r.cells ≤ old.cells)

-- One more cell has a head that isn't in use. It counts, if coders take its configuration, and that head may be in use now.
abbrev pub CountsOther : List TableRow → Choice → Head → Bool → Choice → Type 0
CountsOther table old h changed new =
    ((IsTakenHead table h → ⊥) × (new ≡ old) × (changed ≡ false))
    ⊎ (IsTakenHead table h × (rival : Option Rival) × IsNextRival old.rival h rival × TakesPlace (record old { rival = rival }) h changed new)

-- ---- an attempt at a part, which takes its packets

-- Of the part with this head it has the object that its packets determine, and the digests of the symbols that came.
pub record IsAttempt (h : Head) (a : Attempt) : Type 0 where
  pub few : largest_block h.configuration < 65536
  pub configuration : (state_of a.decoder).configuration ≡ h.configuration
  pub knows : KnowsDigests (state_of a.decoder) a.known
  pub object : IsNamedIn h (result_of (state_of a.decoder)) (option_map vec_items a.object)

-- Its object may be determined by what it took last.
pub record IsUnlooked (h : Head) (a : Attempt) : Type 0 where
  pub few : largest_block h.configuration < 65536
  pub configuration : (state_of a.decoder).configuration ≡ h.configuration
  pub knows : KnowsDigests (state_of a.decoder) a.known
  pub object : IfSome (option_map vec_items a.object) (λ object. IsNamedIn h (result_of (state_of a.decoder)) (Some object))

-- whether it goes on, or its packets determine what isn't named so
abbrev pub LooksAt : Head → Attempt → Attempt → Bool → Type 0
LooksAt h old new true = IsAttempt h new × (new.decoder ≡ old.decoder)
LooksAt h old new false = (object : List ℕ) × (result_of (state_of old.decoder) ≡ Some object) × IsNotNamed h (Some object)

-- It takes one packet more, if the part has its block.
pub record GoesOn (h : Head) (old : Attempt) (p : Packet) (new : Attempt) : Type 0 where
  pub is : IsAttempt h new
  pub follows : (table : List TableRow) (packets : List Packet) → FollowsRun table packets (state_of old.decoder)
      → FollowsRun table (packets ++ known_packets h.configuration (p ∷ [])) (state_of new.decoder)

-- Its packets with this one aren't those of an object that is named as this head says.
abbrev pub IsForeign : Head → Attempt → Packet → Type 0
IsForeign h old p =
    (table : List TableRow) (object : List ℕ) (packets : List Packet) → FollowsRun table packets (state_of old.decoder)
    → IsNamed h object → IsHonestRun table h.configuration object (packets ++ known_packets h.configuration (p ∷ [])) → ⊥

abbrev pub TakesOrFails : Head → Attempt → Packet → Attempt → Bool → Type 0
TakesOrFails h old p new true = GoesOn h old p new
TakesOrFails h old p new false = IsForeign h old p

-- ---- attempt after attempt

-- coders take the heads, which are of the part of an index, and the attempt is one at the part with the head in use
pub record IsSound (table : List TableRow) (index : ℕ) (p : PartReceiver) : Type 0 where
  pub heads : EachHead (IsHeadOf table index) p.choice
  pub attempt : IsAttempt p.choice.head p.attempt

-- before any cell, with this head
pub record IsUnused (table : List TableRow) (h : Head) (p : PartReceiver) : Type 0 where
  pub head : p.choice.head ≡ h
  pub uncounted : p.choice.cells ≡ 0
  pub alone : p.choice.rival ≡ None
  pub follows : FollowsRun table [] (state_of p.attempt.decoder)
  pub restarted : p.restarted ≡ 0

-- a new attempt with the same heads, which has taken no packet
pub record BeginsAnew (table : List TableRow) (old new : PartReceiver) : Type 0 where
  pub head : new.choice.head ≡ old.choice.head
  pub rival : new.choice.rival ≡ old.choice.rival
  pub attempt : IsAttempt old.choice.head new.attempt
  pub follows : FollowsRun table [] (state_of new.attempt.decoder)
  pub open_still : new.attempt.object ≡ None
  pub restarted : new.restarted ≡ counted (old.restarted + 1)

-- so it is where an attempt fails, and none of the cells with the head in use counts from then on
pub record GivesUp (table : List TableRow) (old new : PartReceiver) : Type 0 where
  pub anew : BeginsAnew table old new
  pub uncounted : new.choice.cells ≡ 0

-- the packet is taken
pub record GoesOnWith (old : PartReceiver) (p : Packet) (new : PartReceiver) : Type 0 where
  pub choice : new.choice ≡ old.choice
  pub attempt : GoesOn old.choice.head old.attempt p new.attempt
  pub restarted : new.restarted ≡ old.restarted

-- or the attempt is given up
abbrev pub AddsPacket : List TableRow → PartReceiver → Packet → PartReceiver → Type 0
AddsPacket table old p new = GoesOnWith old p new ⊎ (IsForeign old.choice.head old.attempt p × GivesUp table old new)

-- ---- what it has of the cells that came

-- Of cells that came, the first of which had one head, it has taken the packets of those that have the head in use and came since it began.
pub record HasReceived (table : List TableRow) (first : Head) (came : List Cell) (p : PartReceiver) : Type 0 where
  pub heads : EachHead (Contains (first ∷ map (λ cell. cell.head) came)) p.choice
  pub begun : ℕ
  pub within : begun ≤ length came
  pub follows : FollowsRun table (received_packets p.choice.head (drop begun came)) (state_of p.attempt.decoder)

-- it has taken the packets of all cells, which have one head
pub record HasReceivedAll (table : List TableRow) (h : Head) (came : List Cell) (p : PartReceiver) : Type 0 where
  pub head : p.choice.head ≡ h
  pub follows : FollowsRun table (received_packets h came) (state_of p.attempt.decoder)
  pub restarted : p.restarted ≡ 0

-- It takes one cell more: of one sender's cells each, and of any with a head that leads.
pub record TakesCell (table : List TableRow) (old : PartReceiver) (cell : Cell) (new : PartReceiver) : Type 0 where
  pub whoever : (first : Head) (came : List Cell) → HasReceived table first came old → HasReceived table first (came ++ cell ∷ []) new
  pub one_sender : (h : Head) (came : List Cell) → IsOneSender table h (came ++ cell ∷ []) → HasReceivedAll table h came old
      → HasReceivedAll table h (came ++ cell ∷ []) new
  pub votes : (names : Option (List (List ℕ))) (came : List Cell) → HasVotes table names came old → HasVotes table names (came ++ cell ∷ []) new
