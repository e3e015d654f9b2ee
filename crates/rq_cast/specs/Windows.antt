-- What a receiver with a window makes of the cells of a stream, whoever sent them.
use Rattle.std.specs.Prelude.{◌≡◌, ⊤, ℕ, zero, suc, ◌+◌, ◌^◌, ◌<◌, ◌≤◌, List, [], ◌∷◌, ◌++◌, length, map, take, drop, All, Contains, get_or, Option, Some, None, IfSome, Bool, true, false, ◌==◌}
use Rattle.std.specs.List.{flat_map, list_any, range_with_len}
use Rattle.rq_standard.specs.declared.row.TableRow.{TableRow}
use Rattle.rq_standard.specs.Packet.{Packet}
use Rattle.rq_standard.specs.Headline.{IsHonestRun, IsOnlyObject}
use Rattle.rq_cells.specs.declared.head.Head.{Head}
use Rattle.rq_cells.specs.declared.cell.Cell.{Cell}
use Rattle.rq_cast.specs.declared.names.Names.{Names}
use Rattle.rq_cast.specs.declared.part_receiver.PartReceiver.{PartReceiver}
use Rattle.rq_cast.specs.declared.settled.SettledPart.{SettledPart}
use Rattle.rq_cast.specs.declared.settled.Settling.{Settling}
use Rattle.rq_cast.specs.declared.settled.Settling.TheVariants.{Waits}
use Rattle.rq_cast.specs.declared.window.Window.{Window}
use Rattle.rq_cast.specs.Parts.{IsPart}
use Rattle.rq_cast.specs.Names.{AreNames}
use Rattle.rq_cast.specs.Streams.{Parts, names_before, Reached, reached_none, AreSenders, Writes, MovesOver, stand, stand_at, stands_over, is_late, is_early, dropped_where, cells_of}
use Rattle.rq_cast.specs.Searching.{counted}
use Rattle.rq_cast.specs.Taken.{part_index, IsTakenHead, received_packets, IsNotNamed, IsAnswered}
use Rattle.rq_cast.specs.Votes.{votes_for, LeadsFrom, IsHonestHead, HasVotes}
use Rattle.rq_cast.specs.Missing.{NeedsPackets}
use Rattle.rq_cast.specs.PartReceiving.{IsSound, IsUnused, HasReceived, HasReceivedAll, TakesCell}
use Rattle.rq_cast.specs.Settling.{SettlesPart}

-- ---- parts that are settled

-- a part: the head that its cells had, the packets that determined it, its object and its bytes, and whether it is the last one
pub record Settled : Type 0 where
  pub is_last : Bool
  pub head : Head
  pub packets : List Packet
  pub object : List ℕ
  pub bytes : List ℕ

abbrev pub names_of : List Settled → List (List ℕ)
names_of parts = map (λ p. p.head.name) parts

-- the bytes of parts one behind another
abbrev pub bytes_of : List Settled → List ℕ
bytes_of parts = flat_map (λ p. p.bytes) parts

abbrev pub has_last : List Settled → Bool
has_last parts = list_any (λ p. p.is_last) parts

-- These came one behind another.
abbrev pub IsStretch : List Cell → List Cell → Type 0
IsStretch cells came = (before : List Cell) × (after : List Cell) × (came ≡ before ++ (cells ++ after))

-- Of cells that came, those of a stretch that have its head determined it, and it is the part behind parts of these names.
pub record IsSettled (table : List TableRow) (came : List Cell) (names : List (List ℕ)) (p : Settled) : Type 0 where
  pub part : IsPart p.is_last names p.head p.object p.bytes
  pub headed : Contains (map (λ cell. cell.head) came) p.head
  pub stretch : List Cell
  pub within : IsStretch stretch came
  pub packets_are : p.packets ≡ received_packets p.head stretch
  pub answered : IsAnswered table p.head.configuration p.packets (Some p.object)

-- parts one behind another, from those of some names on; none is behind the last one
abbrev pub AreSettled : List TableRow → List Cell → List (List ℕ) → List Settled → Type 0
AreSettled table came names [] = ⊤
AreSettled table came names (p ∷ parts) =
    IsSettled table came names p × (p.is_last ≡ true → parts ≡ []) × AreSettled table came (names ++ (p.head.name ∷ [])) parts

-- Of one sender's cells those parts are settled that the cells determine which came while they were in the window, one behind another.
pub record SettlesExactly (table : List TableRow) (s : Parts) (width : ℕ) (came : List Cell) (parts : List Settled) : Type 0 where
  pub reached : Reached
  pub moves : MovesOver table s width reached_none came reached
  pub count : length parts ≡ reached.first
  pub same : map (λ p. p.bytes) parts ≡ map s.bytes (range_with_len 0 reached.first)

-- what of the cells of a stream is settled, with a window of so many parts
pub record Settles (table : List TableRow) (stream : List ℕ) (width : ℕ) (came : List Cell) (parts : List Settled) : Type 0 where
  pub settled : AreSettled table came [] parts
  pub exactly : (s : Parts) → AreSenders table stream s came → SettlesExactly table s width came parts

-- ---- a head that leads

-- The next part's head leads, of its cells that came while it was in the window, from a place on from which they determine it: no other object makes their
-- packets.
pub record IsLed (table : List TableRow) (width : ℕ) (came : List Cell) (stands : List (Option ℕ)) (parts : List Settled) : Type 0 where
  pub is_last : Bool
  pub head : Head
  pub object : List ℕ
  pub bytes : List ℕ
  pub part : IsPart is_last (names_of parts) head object bytes
  pub honest : IsHonestHead table head object (cells_of width (length parts) stands came)
  pub few : length (cells_of width (length parts) stands came) < 2 ^ 64
  pub from : ℕ
  pub within : from ≤ length (cells_of width (length parts) stands came)
  pub leads : LeadsFrom head from (cells_of width (length parts) stands came)
  pub only : IsOnlyObject table head.configuration (received_packets head (drop from (cells_of width (length parts) stands came))) object

-- ---- cells that are dropped

-- As a cell came, some first parts were settled, by the cells before it, and there the window stood. The head of the next one didn't lead by cells that
-- determine it.
pub record StoodBehind (table : List TableRow) (width : ℕ) (before : List Cell) (stands : List (Option ℕ)) (parts : List Settled) (there : Option ℕ) : Type 0
  where
    pub earlier : List Settled
    pub later : List Settled
    pub cut : parts ≡ earlier ++ later
    pub settled : AreSettled table before [] earlier
    pub unled : has_last earlier ≡ false → IsLed table width before stands earlier → ⊥
    pub is : there ≡ stand (has_last earlier) (length earlier)

-- Of the cells that came so many were of parts that were settled then, and so many of parts behind the window, by where that stood as each came.
pub record CountsDropped (table : List TableRow) (width : ℕ) (came : List Cell) (parts : List Settled) (behind ahead : ℕ) : Type 0 where
  pub stands : List (Option ℕ)
  pub as_many : length stands ≡ length came
  pub each : (k : ℕ) → k < length came → StoodBehind table width (take k came) (take k stands) parts (get_or stands k None)
  pub behind_is : behind ≡ counted (dropped_where is_late stands came)
  pub ahead_is : ahead ≡ counted (dropped_where (is_early width) stands came)

-- Of one sender's cells the window stood at the first part that wasn't settled.
pub record StandsExactly (table : List TableRow) (s : Parts) (width : ℕ) (came : List Cell) (stands : List (Option ℕ)) : Type 0 where
  pub reached : Reached
  pub moves : MovesOver table s width reached_none came reached
  pub same : stands ≡ stands_over table s width reached_none came reached moves

-- ---- parts that are open

-- what is received of the part at a place of the window, if cells of it came
abbrev pub open_at : Window → ℕ → Option PartReceiver
open_at w place = get_or w.parts.items place None

-- Coders take the heads of each open part, which are of the index that its place has.
pub record IsSoundWindow (table : List TableRow) (w : Window) : Type 0 where
  pub each : (place : ℕ) → IfSome (open_at w place) (IsSound table (w.names.count + place))

-- Of the cells that came it has taken the packets of those that have its head and came since it began.
pub record IsOpen (table : List TableRow) (came : List Cell) (p : PartReceiver) : Type 0 where
  pub first : Head
  pub among : Contains (map (λ cell. cell.head) came) first
  pub received : HasReceived table first came p

-- so many places, and each open part
pub record AreOpen (table : List TableRow) (width : ℕ) (came : List Cell) (w : Window) : Type 0 where
  pub wide : length w.parts.items ≡ width
  pub each : (place : ℕ) → IfSome (open_at w place) (IsOpen table came)

-- ---- of cells with several heads

-- None of these cells of a part has a head that coders take, or it has of each head what the votes for that one say.
abbrev pub HasVoted : List TableRow → Option (List (List ℕ)) → List Cell → Option PartReceiver → Type 0
HasVoted table names cells None = (h : Head) → IsTakenHead table h → votes_for h cells ≡ 0
HasVoted table names cells (Some p) = HasVotes table names cells p

-- behind which names a part is asked to be that is at a place: the first one behind those that are settled
abbrev pub names_at : List Settled → ℕ → Option (List (List ℕ))
names_at parts zero = Some (names_of parts)
names_at parts (suc place) = None

-- ---- of one sender's cells

-- a part has received all its cells, and isn't open without one
abbrev pub HasAll : List TableRow → Head → List Cell → Option PartReceiver → Type 0
HasAll table h cells None = cells ≡ []
HasAll table h cells (Some p) = HasReceivedAll table h cells p

-- It has settled the first parts, and of each part in the window it has received the cells that came since it is there.
pub record StandsAt (table : List TableRow) (s : Parts) (reached : Reached) (parts : List Settled) (w : Window) : Type 0 where
  pub count : length parts ≡ reached.first
  pub names : names_of parts ≡ names_before s reached.first
  pub same : map (λ p. p.bytes) parts ≡ map s.bytes (range_with_len 0 reached.first)
  pub heads : (i : ℕ) → All (λ cell. cell.head ≡ s.head i) (reached.came i)
  pub honest : (i : ℕ) → i < s.count → IsHonestRun table (s.head i).configuration (s.object i) (received_packets (s.head i) (reached.came i))
  pub received : (place : ℕ) → HasAll table (s.head (reached.first + place)) (reached.came (reached.first + place)) (open_at w place)
  pub within : reached.first ≤ s.count
  pub ended : w.ended ≡ (reached.first == s.count)
  pub restarted : w.restarted ≡ 0

-- ---- a window

-- A window has taken these cells, and has handed out these bytes of parts that are settled.
pub record HasTaken (table : List TableRow) (stream : List ℕ) (width : ℕ) (came : List Cell) (given : List ℕ) (w : Window) : Type 0 where
  pub parts : List Settled
  pub settles : Settles table stream width came parts
  pub names : AreNames (names_of parts) w.names
  pub out : bytes_of parts ≡ given ++ w.ready.items
  pub ended : w.ended ≡ has_last parts
  -- cells behind the last part aren't looked at
  pub are_open : w.ended ≡ false → AreOpen table width came w
  -- the first part that isn't settled isn't determined
  pub waits : w.ended ≡ false → IfSome (open_at w 0) (λ p. p.attempt.object ≡ None)
  pub drops : CountsDropped table width came parts w.behind w.ahead
  pub standing : (s : Parts) → AreSenders table stream s came
      → (reached : Reached) × (moves : MovesOver table s width reached_none came reached) × StandsAt table s reached parts w
      × (drops.stands ≡ stands_over table s width reached_none came reached moves)
  pub voted : w.ended ≡ false → (place : ℕ)
      → HasVoted table (names_at parts place) (cells_of width (length parts + place) drops.stands came) (open_at w place)
  -- whoever sent them
  pub unled : w.ended ≡ false → IsLed table width came drops.stands parts → ⊥

-- One cell more came, and parts may be settled by it that aren't yet.
pub record IsMoving (table : List TableRow) (stream : List ℕ) (width : ℕ) (came : List Cell) (cell : Cell) (given : List ℕ) (w : Window) : Type 0 where
  pub parts : List Settled
  pub settled : AreSettled table (came ++ cell ∷ []) [] parts
  pub names : AreNames (names_of parts) w.names
  pub out : bytes_of parts ≡ given ++ w.ready.items
  pub ended : w.ended ≡ has_last parts
  pub are_open : w.ended ≡ false → AreOpen table width (came ++ cell ∷ []) w
  pub drops : CountsDropped table width (came ++ cell ∷ []) parts w.behind w.ahead
  pub standing : (s : Parts) → AreSenders table stream s (came ++ cell ∷ [])
      → (old : Reached) × (new : Reached) × (moves : MovesOver table s width reached_none came old) × Writes table s width old cell new
      × StandsAt table s new parts w × (drops.stands ≡ stands_over table s width reached_none came old moves ++ (stand_at s old ∷ []))
  pub voted : w.ended ≡ false → (place : ℕ)
      → HasVoted table (names_at parts place) (cells_of width (length parts + place) drops.stands (came ++ cell ∷ [])) (open_at w place)

-- ---- what a window does

-- It counts no cell as dropped.
pub record KeepsCounts (old new : Window) : Type 0 where
  pub behind : new.behind ≡ old.behind
  pub ahead : new.ahead ≡ old.ahead

-- it takes the next cells of the stream
abbrev pub TakesCells : List TableRow → Window → List Cell → Window → Type 0
TakesCells table old cells new =
    (stream : List ℕ) (width : ℕ) (came : List Cell) (given : List ℕ)
    → HasTaken table stream width came given old → HasTaken table stream width (came ++ cells) given new

-- it gives the next cell to its part
abbrev pub GivesCell : List TableRow → Window → Cell → Window → Type 0
GivesCell table old cell new =
    (stream : List ℕ) (width : ℕ) (came : List Cell) (given : List ℕ)
    → HasTaken table stream width came given old → IsMoving table stream width came cell given new

-- it settles all parts that can be
abbrev pub SettlesAll : List TableRow → Window → Window → Type 0
SettlesAll table old new =
    (stream : List ℕ) (width : ℕ) (came : List Cell) (cell : Cell) (given : List ℕ)
    → IsMoving table stream width came cell given old → HasTaken table stream width (came ++ cell ∷ []) given new

-- it settles the first part, where it can be
abbrev pub SettlesFirst : List TableRow → Window → Bool → Window → Type 0
SettlesFirst table old true new =
    (stream : List ℕ) (width : ℕ) (came : List Cell) (cell : Cell) (given : List ℕ)
    → IsMoving table stream width came cell given old → IsMoving table stream width came cell given new
SettlesFirst table old false new = SettlesAll table old new

-- it hands out bytes
abbrev pub HandsOut : Window → List ℕ → Window → Type 0
HandsOut old bytes new =
    (table : List TableRow) (stream : List ℕ) (width : ℕ) (came : List Cell) (given : List ℕ)
    → HasTaken table stream width came given old → HasTaken table stream width came (given ++ bytes) new

-- ---- what becomes of one place

-- A cell opens a part, where coders take its configuration, and an open one takes it.
abbrev pub ReceivesCell : List TableRow → Option PartReceiver → Cell → Option PartReceiver → Type 0
ReceivesCell table None cell None = IsTakenHead table cell.head → ⊥
ReceivesCell table None cell (Some new) = (unused : PartReceiver) × IsUnused table cell.head unused × TakesCell table unused cell new
ReceivesCell table (Some old) cell None = ⊥
ReceivesCell table (Some old) cell (Some new) = TakesCell table old cell new

-- how often it began anew
abbrev pub restarted_of : Option PartReceiver → ℕ
restarted_of None = 0
restarted_of (Some p) = p.restarted

-- what becomes of the first place, where parts with these names are settled
abbrev pub SettlesIn : List TableRow → Names → Option PartReceiver → Settling → Option PartReceiver → Type 0
SettlesIn table names None s new = (s ≡ Waits) × (new ≡ None)
SettlesIn table names (Some old) s None = ⊥
SettlesIn table names (Some old) s (Some new) = SettlesPart table names old s new

-- the window slides by the part at its first place
pub record MovesOn (old : Window) (part : SettledPart) (new : Window) : Type 0 where
  pub count : new.names.count ≡ old.names.count + 1
  pub names : (names : List (List ℕ)) → AreNames names old.names → AreNames (names ++ (part.name ∷ [])) new.names
  pub places : new.parts.items ≡ drop 1 old.parts.items ++ None ∷ []
  pub ready : new.ready.items ≡ old.ready.items ++ part.bytes.items
  pub ended : new.ended ≡ part.is_last
  pub restarted : new.restarted ≡ old.restarted

-- ---- what the first part lacks that isn't settled

-- Of cells that came, those from a place on that have one of its heads determine no object that is named so. So many packets more are needed.
pub record IsUndetermined (table : List TableRow) (came : List Cell) (index missing : ℕ) : Type 0 where
  pub head : Head
  pub place : part_index head ≡ index
  pub headed : Contains (map (λ cell. cell.head) came) head
  pub begun : ℕ
  pub within : begun ≤ length came
  pub answer : Option (List ℕ)
  pub answered : IsAnswered table head.configuration (received_packets head (drop begun came)) answer
  pub none : IsNotNamed head answer
  pub needs : NeedsPackets table head.configuration (received_packets head (drop begun came)) missing

-- of one sender's cells: none of it came while it was in the window, or so many packets more are needed
abbrev pub LacksOf : List TableRow → Head → List Cell → Option ℕ → Type 0
LacksOf table h cells None = cells ≡ []
LacksOf table h cells (Some missing) = NeedsPackets table h.configuration (received_packets h cells) missing

-- What is said of the part of an index, if a cell of it came while it was in the window whose configuration coders take.
pub record Lacks (table : List TableRow) (stream : List ℕ) (width : ℕ) (came : List Cell) (stands : List (Option ℕ)) (index : ℕ) (missing : Option ℕ) : Type 0
  where
    pub whoever : IfSome missing (IsUndetermined table came index)
    pub nothing : missing ≡ None → (h : Head) → IsTakenHead table h → votes_for h (cells_of width index stands came) ≡ 0
    pub one_sender : (s : Parts) → AreSenders table stream s came
        → (reached : Reached) × MovesOver table s width reached_none came reached × (reached.first ≡ index)
        × LacksOf table (s.head reached.first) (reached.came reached.first) missing

abbrev pub TellsLacks : Window → Option ℕ → Type 0
TellsLacks w missing =
    (table : List TableRow) (stream : List ℕ) (width : ℕ) (came : List Cell) (given : List ℕ) → IsSoundWindow table w → w.ended ≡ false
    → (has : HasTaken table stream width came given w) → Lacks table stream width came has.drops.stands w.names.count missing

-- ---- no receiver with such a window does better

-- Where the cells that came while the first part that isn't settled was in the window don't determine it, another object makes the same packets.
abbrev pub NoWindowDoesBetter : Type 0
NoWindowDoesBetter =
    (table : List TableRow) (stream : List ℕ) (s : Parts) (width : ℕ) (came : List Cell) (reached : Reached)
    → AreSenders table stream s came → MovesOver table s width reached_none came reached → reached.first < s.count
    → IsOnlyObject table (s.head reached.first).configuration (received_packets (s.head reached.first) (reached.came reached.first)) (s.object reached.first) → ⊥
