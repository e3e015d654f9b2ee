-- What a receiver makes of bytes that come in pieces, among which cells of its stream stand.
use Rattle.std.specs.Prelude.{◌≡◌, ℕ, ◌+◌, ◌<◌, ◌≤◌, List, [], ◌++◌, length, drop, Option, None, Some, MatchOption, IfSome, Bool, true, false, unwrap_or, option_map}
use Rattle.std.specs.Option.{IsSomeAnd}
use Rattle.rq_standard.specs.declared.row.TableRow.{TableRow}
use Rattle.rq_cells.specs.declared.head.Head.{Head}
use Rattle.rq_cells.specs.declared.cell.Cell.{Cell}
use Rattle.rq_cells.specs.declared.wanted.Heads.{Heads}
use Rattle.rq_cells.specs.Cells.{Key}
use Rattle.rq_cells.specs.Found.{Source, source_of, cells_in, damaged_in, others_in}
use Rattle.rq_cells.specs.Wanted.{Wish, wish_of, IsFirstWanted, NoneBefore, wanted_at}
use Rattle.rq_cast.specs.declared.receiver.Receiver.{Receiver}
use Rattle.rq_cast.specs.declared.stream_receiver.Found.{Found}
use Rattle.rq_cast.specs.declared.stream_receiver.StreamReceiver.{StreamReceiver}
use Rattle.rq_cast.specs.declared.seen.Seen.{Seen}
use Rattle.rq_cast.specs.declared.run.Ending.{Ending}
use Rattle.rq_cast.specs.declared.run.Ending.TheVariants.{Written, Incomplete, GivenUp}
use Rattle.rq_cast.specs.Windows.{IsSoundWindow, HasTaken, TellsLacks}
use Rattle.rq_cast.specs.Reading.{chunk_length}
use Rattle.rq_cast.specs.Searching.{SeesBefore, counted}

-- with heads more
pub record SeesHeads (old : Seen) (heads : Heads) (new : Seen) : Type 0 where
  pub cells : new.cells ≡ old.cells
  pub damaged : new.damaged ≡ counted (old.damaged + heads.damaged)
  pub others : new.others ≡ counted (old.others + heads.others)
  pub restarted : new.restarted ≡ old.restarted
  pub ahead : new.ahead ≡ old.ahead
  pub behind : new.behind ≡ old.behind

-- what was seen, with what the window counts, and heads of other streams in the bytes that are kept
pub record SeesAll (r : StreamReceiver) (seen : Seen) : Type 0 where
  pub cells : seen.cells ≡ r.seen.cells
  pub damaged : seen.damaged ≡ counted r.seen.damaged
  pub others : seen.others ≡ counted (r.seen.others + others_in r.scanner r.bytes.items)
  pub restarted : seen.restarted ≡ r.window.restarted
  pub ahead : seen.ahead ≡ r.window.ahead
  pub behind : seen.behind ≡ r.window.behind

-- ---- what it has seen of bytes

-- A receiver of what was found has seen all that stands in these bytes before those that it keeps, whatever comes behind them: these cells among it.
pub record HasSeen (key : Key) (found : Found) (all : List ℕ) (came : List Cell) (r : StreamReceiver) : Type 0 where
  pub scans : r.scanner ≡ source_of key found.head
  pub cells_found : (rest : List ℕ) → cells_in (source_of key found.head) (all ++ rest) ≡ came ++ cells_in (source_of key found.head) (r.bytes.items ++ rest)
  pub cells : r.seen.cells ≡ counted (found.seen.cells + length came)
  pub damaged_before : ℕ
  pub damaged_found : (rest : List ℕ) → damaged_in (source_of key found.head) (all ++ rest)
      ≡ damaged_before + damaged_in (source_of key found.head) (r.bytes.items ++ rest)
  pub damaged : r.seen.damaged ≡ counted (found.seen.damaged + damaged_before)
  pub others_before : ℕ
  pub others_found : (rest : List ℕ) → others_in (source_of key found.head) (all ++ rest)
      ≡ others_before + others_in (source_of key found.head) (r.bytes.items ++ rest)
  pub others : r.seen.others ≡ counted (found.seen.others + others_before)

-- Its window has taken these cells, and has handed out these bytes.
pub record HasRead (table : List TableRow) (key : Key) (width : ℕ) (found : Found) (all given : List ℕ) (r : StreamReceiver) : Type 0 where
  pub came : List Cell
  pub seen : HasSeen key found all came r
  pub taken : HasTaken table found.head.stream width came given r.window

-- no cell is whole in bytes, nor damaged
pub record HoldNone (s : Source) (bytes : List ℕ) : Type 0 where
  pub no_cells : cells_in s bytes ≡ []
  pub no_damaged : damaged_in s bytes ≡ 0

-- its window has taken all cells that are whole in these bytes
pub record HasReadAll (table : List TableRow) (key : Key) (width : ℕ) (found : Found) (all given : List ℕ) (r : StreamReceiver) : Type 0 where
  pub read : HasRead table key width found all given r
  pub none : HoldNone (source_of key found.head) r.bytes.items

-- it takes the cells that are whole in what it has
abbrev pub ReadsAll : List TableRow → StreamReceiver → StreamReceiver → Type 0
ReadsAll table old new =
    (key : Key) (width : ℕ) (found : Found) (all given : List ℕ) → HasRead table key width found all given old → HasReadAll table key width found all given new

-- and in what comes behind that
abbrev pub ReadsMore : List TableRow → List ℕ → StreamReceiver → StreamReceiver → Type 0
ReadsMore table piece old new =
    (key : Key) (width : ℕ) (found : Found) (all given : List ℕ) → HasReadAll table key width found all given old
    → HasReadAll table key width found (all ++ piece) given new

-- it hands out bytes
abbrev pub HandsOut : StreamReceiver → List ℕ → StreamReceiver → Type 0
HandsOut old bytes new =
    (table : List TableRow) (key : Key) (width : ℕ) (found : Found) (all given : List ℕ) → HasReadAll table key width found all given old
    → HasReadAll table key width found all (given ++ bytes) new

-- ---- which stream that is

-- No wanted cell is whole in what came. What is kept are the bytes from a place on, before which none begins, whatever comes behind. What was seen before
-- that place, and in all.
pub record IsSearching (w : Wish) (past kept : List ℕ) (settled every : Seen) : Type 0 where
  pub from : ℕ
  pub within : from ≤ length past
  pub from_there : kept ≡ drop from past
  pub never : (rest : List ℕ) (i : ℕ) → i < from → wanted_at w (drop i past ++ rest) ≡ None
  pub none : NoneBefore w past (length past)
  pub seen : (rest : List ℕ) → SeesBefore w (past ++ rest) from settled
  pub all_seen : SeesBefore w past (length past) every

-- A wanted cell was whole when these bytes had come, the last of which were of one piece, and none before that piece. What is kept are the bytes from that
-- cell on.
pub record IsFoundIn (w : Wish) (most : ℕ) (earlier last : List ℕ) (found : Found) : Type 0 where
  pub few : length last ≤ most
  pub none_earlier : NoneBefore w earlier (length earlier)
  pub at : ℕ
  pub first : IsFirstWanted w (earlier ++ last) at found.head
  pub from_there : found.bytes.items ≡ drop at (earlier ++ last)
  pub seen : SeesBefore w (earlier ++ last) at found.seen

-- So a stream was found in what came, and all its cells in that are taken.
pub record IsReceiving (table : List TableRow) (w : Wish) (width most : ℕ) (past given : List ℕ) (r : StreamReceiver) : Type 0 where
  pub found : Found
  pub earlier : List ℕ
  pub last : List ℕ
  pub later : List ℕ
  pub cut : past ≡ earlier ++ last ++ later
  pub is_found : IsFoundIn w most earlier last found
  pub read : HasReadAll table w.key width found (found.bytes.items ++ later) given r

-- What came is searched, or the stream that was found there is received.
abbrev pub HasFound : List TableRow → Wish → ℕ → ℕ → List ℕ → List ℕ → Receiver → Option StreamReceiver → Type 0
HasFound table w width most past given r None = IsSearching w past r.search.bytes r.settled r.seen × (given ≡ [])
HasFound table w width most past given r (Some stream) = IsReceiving table w width most past given stream

-- its open parts are sound
abbrev pub IsSoundReceiver : Receiver → Type 0
IsSoundReceiver r = IfSome r.stream (λ s. IsSoundWindow r.wanted.table.now s.window)

-- These bytes have come, in pieces of so many at most, and these were handed out.
pub record HasFed (table : List TableRow) (w : Wish) (width most : ℕ) (past given : List ℕ) (r : Receiver) : Type 0 where
  pub wish : r.search.wish ≡ w
  pub wanted_is : wish_of r.wanted ≡ w
  pub table_is : r.wanted.table.now ≡ table
  pub width_is : r.window ≡ width
  pub found : HasFound table w width most past given r r.stream

-- it takes a piece more
abbrev pub Feeds : List ℕ → Receiver → Receiver → Type 0
Feeds piece old new =
    (table : List TableRow) (w : Wish) (width most : ℕ) (past given : List ℕ) → length piece ≤ most → HasFed table w width most past given old
    → HasFed table w width most (past ++ piece) given new

-- The stream of a wanted cell with this head is received, of the bytes that the search keeps, before which these heads stand.
pub record Begins (h : Head) (before : Heads) (old new : Receiver) : Type 0 where
  pub wanted_is : new.wanted ≡ old.wanted
  pub width_is : new.window ≡ old.window
  pub wish : new.search.wish ≡ wish_of old.wanted
  pub stream : StreamReceiver
  pub is : new.stream ≡ Some stream
  pub found : Found
  pub head : found.head ≡ h
  pub bytes : found.bytes.items ≡ old.search.bytes
  pub sees : SeesHeads old.settled before found.seen
  pub read : HasReadAll old.wanted.table.now old.wanted.key.now old.window found found.bytes.items [] stream

-- it hands out bytes
abbrev pub HandsOutOf : Receiver → List ℕ → Receiver → Type 0
HandsOutOf old bytes new =
    (table : List TableRow) (w : Wish) (width most : ℕ) (past given : List ℕ) → HasFed table w width most past given old
    → HasFed table w width most past (given ++ bytes) new

-- These bytes are fed to a receiver to which none were yet, in pieces of as many as a read brings, and so many are handed out.
abbrev pub FeedsAll : List ℕ → Receiver → ℕ → Receiver → Type 0
FeedsAll bytes old written new =
    (table : List TableRow) (w : Wish) (width : ℕ) → HasFed table w width chunk_length [] [] old
    → (given : List ℕ) × HasFed table w width chunk_length bytes given new × (written ≡ counted (length given))

-- ---- what it tells

abbrev pub has_ended : Receiver → Bool
has_ended r = unwrap_or (option_map (λ s. s.window.ended) r.stream) false

-- the bytes that are ready
abbrev pub ready_of : Receiver → List ℕ
ready_of r = unwrap_or (option_map (λ s. s.window.ready.items) r.stream) []

-- what was seen in all that came
abbrev pub Shows : Receiver → Seen → Type 0
Shows r seen = MatchOption r.stream (seen ≡ r.seen) (λ s. SeesAll s seen)

-- how many parts are settled, and what the next one lacks
abbrev pub TellsLacked : Receiver → ℕ → Option ℕ → Type 0
TellsLacked r number missing =
    MatchOption r.stream ((number ≡ 0) × (missing ≡ None)) (λ s. (number ≡ s.window.names.count) × TellsLacks s.window missing)

-- how a run ends that reads no more
abbrev pub TellsEnding : Receiver → Ending → Type 0
TellsEnding r (Written stream) = (has_ended r ≡ true) × IsSomeAnd r.stream (λ s. stream ≡ s.scanner.stream)
TellsEnding r (Incomplete number missing) = (has_ended r ≡ false) × TellsLacked r number missing
TellsEnding r (GivenUp stream number missing) = ⊥

-- and one that gives up the stream that it receives
abbrev pub TellsGivenUp : Receiver → Ending → Type 0
TellsGivenUp r (GivenUp stream number missing) = TellsEnding r (Incomplete number missing) × IsSomeAnd r.stream (λ s. stream ≡ s.scanner.stream)
TellsGivenUp r _ = ⊥
