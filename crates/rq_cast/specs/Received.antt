-- What a run writes of the cells among the bytes that it reads.
use Rattle.std.specs.Prelude.{◌≡◌, ◌⊎◌, ◌↔◌, ℕ, ◌+◌, ◌-◌, ◌^◌, ◌<◌, ◌≤◌, List, [], ◌++◌, length, take, drop, Option, Some, None, Result, Ok, Err, Bool, true, false}
use Rattle.std.specs.Option.{IsSomeAnd}
use Rattle.std.specs.Io.KnownBytes.{Consumes, Appends, IsAtEnd}
use Rattle.rq_bytes.specs.declared.error.Error.TheVariants.{OutOfMemory}
use Rattle.rq_standard.specs.declared.row.TableRow.{TableRow}
use Rattle.rq_standard.specs.TableRows.{greatest_size}
use Rattle.rq_streams.specs.declared.counted.Counted.{Counted}
use Rattle.rq_streams.specs.Counted.{failed_count}
use Rattle.rq_streams.specs.Ends.{failed_calls}
use Rattle.rq_streams.specs.declared.run.Stop.{Stop}
use Rattle.rq_streams.specs.declared.run.Stop.TheVariants.{Fault, Refused}
use Rattle.rq_cells.specs.declared.head.Head.{Head}
use Rattle.rq_cells.specs.declared.cell.Cell.{Cell}
use Rattle.rq_cells.specs.Cells.{Key}
use Rattle.rq_cells.specs.Found.{source_of, cells_in, damaged_in, others_in}
use Rattle.rq_cells.specs.Wanted.{Wish, IsFirstWanted, NoneBefore, damaged_before, unwanted_before}
use Rattle.rq_cast.specs.declared.run.Ending.{Ending}
use Rattle.rq_cast.specs.declared.run.Ending.TheVariants.{Written, Incomplete, GivenUp}
use Rattle.rq_cast.specs.declared.seen.Seen.{Seen}
use Rattle.rq_cast.specs.Searching.{counted, SeesNoWanted}
use Rattle.rq_cast.specs.Reading.{chunk_length, IsLastRead}
use Rattle.rq_cast.specs.Streams.{Parts, AreSenders}
use Rattle.rq_cast.specs.Windows.{Settled, bytes_of, has_last, Settles, CountsDropped, StandsExactly, IsLed, Lacks}

-- which cells are wanted, over a table
abbrev pub wish_over : List TableRow → Key → List ℕ → List (List ℕ) → Wish
wish_over table key name passed = record { key = key; greatest = greatest_size table; name = name; passed = passed }

-- ---- which cells are received

-- The first wanted cell in a beginning of what came says which stream's cells are received: that beginning is at most one piece's bytes longer than one in
-- which no wanted cell is whole.
pub record IsReceived (w : Wish) (most : ℕ) (past : List ℕ) (first : Head) : Type 0 where
  pub earlier : List ℕ
  pub last : List ℕ
  pub later : List ℕ
  pub cut : past ≡ earlier ++ last ++ later
  pub few : length last ≤ most
  pub none_earlier : NoneBefore w earlier (length earlier)
  pub at : ℕ
  pub is_first : IsFirstWanted w (earlier ++ last) at first

-- that beginning, and the bytes from its first wanted cell on
abbrev pub beginning : {w : Wish} {most : ℕ} {past : List ℕ} {first : Head} → IsReceived w most past first → List ℕ
beginning r = r.earlier ++ r.last

abbrev pub from_first : {w : Wish} {most : ℕ} {past : List ℕ} {first : Head} → IsReceived w most past first → List ℕ
from_first r = drop r.at (beginning r) ++ r.later

-- the cells of its stream from there on, at all places: those whose symbols are as long
abbrev pub cells_from : (w : Wish) (most : ℕ) (past : List ℕ) (first : Head) → IsReceived w most past first → List Cell
cells_from w most past first r = cells_in (source_of w.key first) (from_first r)

-- What was seen in all that came. From the first wanted cell on, each cell of its stream counts, and each other stream's head as another one's. Before it a
-- wanted head counts as the stream's and one that isn't as another's, since nothing said yet what is received.
pub record IsSeen (table : List TableRow) (w : Wish) (most : ℕ) (past : List ℕ) (first : Head) (r : IsReceived w most past first) (seen : Seen) : Type 0 where
  pub cells : seen.cells ≡ counted (length (cells_from w most past first r))
  pub damaged : seen.damaged ≡ counted (damaged_before w (beginning r) r.at + damaged_in (source_of w.key first) (from_first r))
  pub others : seen.others ≡ counted (unwanted_before w (beginning r) r.at + others_in (source_of w.key first) (from_first r))
  pub one_sender : (s : Parts) → AreSenders table first.stream s (cells_from w most past first r) → seen.restarted ≡ 0

-- ---- what is settled

-- These parts are settled of the cells of the stream that was found, with a window of so many parts, and this was seen. Cells count as dropped that were of
-- parts settled when they came, or of parts behind the window as it stood then. As long as the last part isn't settled, the next one's head doesn't lead by
-- cells that determine it.
pub record Receives (table : List TableRow) (w : Wish) (width most : ℕ) (past : List ℕ) (first : Head) (parts : List Settled) (seen : Seen) : Type 0 where
  pub received : IsReceived w most past first
  pub settles : Settles table first.stream width (cells_from w most past first received) parts
  pub sees : IsSeen table w most past first received seen
  pub drops : CountsDropped table width (cells_from w most past first received) parts seen.behind seen.ahead
  pub exactly : (s : Parts) → AreSenders table first.stream s (cells_from w most past first received)
      → StandsExactly table s width (cells_from w most past first received) drops.stands
  -- whoever sent them
  pub unled : has_last parts ≡ false → IsLed table width (cells_from w most past first received) drops.stands parts → ⊥

-- So it is of what came, or no wanted cell is whole in it and nothing settled.
abbrev pub ReceivesOf : List TableRow → Wish → ℕ → ℕ → List ℕ → List Settled → Seen → Option Head → Type 0
ReceivesOf table w width most past parts seen None = SeesNoWanted w past seen × (parts ≡ [])
ReceivesOf table w width most past parts seen (Some first) = Receives table w width most past first parts seen

abbrev pub ReceivesSoFar : List TableRow → Wish → ℕ → ℕ → List ℕ → List Settled → Seen → Type 0
ReceivesSoFar table w width most past parts seen = (first : Option Head) × ReceivesOf table w width most past parts seen first

-- what the first part lacks that isn't settled
abbrev pub LacksBehind : (table : List TableRow) (w : Wish) (width most : ℕ) (past : List ℕ) (parts : List Settled) (seen : Seen) (first : Option Head)
    → ReceivesOf table w width most past parts seen first → Option ℕ → Type 0
LacksBehind table w width most past parts seen None none missing = missing ≡ None
LacksBehind table w width most past parts seen (Some first) receives missing =
    Lacks table first.stream width (cells_from w most past first receives.received) receives.drops.stands (length parts) missing

abbrev pub LacksSoFar : (table : List TableRow) (w : Wish) (width most : ℕ) (past : List ℕ) (parts : List Settled) (seen : Seen)
    → ReceivesSoFar table w width most past parts seen → Option ℕ → Type 0
LacksSoFar table w width most past parts seen receives missing = LacksBehind table w width most past parts seen receives.0 receives.1 missing

-- it is the stream that was found
abbrev pub IsNameOf : Option Head → List ℕ → Type 0
IsNameOf first stream = IsSomeAnd first (λ h. stream ≡ h.stream)

-- How a run ends with these parts settled that reads no more.
abbrev pub EndsWith : (table : List TableRow) (w : Wish) (width most : ℕ) (past : List ℕ) (parts : List Settled) (seen : Seen)
    → ReceivesSoFar table w width most past parts seen → Ending → Type 0
EndsWith table w width most past parts seen receives (Written stream) = (has_last parts ≡ true) × IsNameOf receives.0 stream
EndsWith table w width most past parts seen receives (Incomplete number missing) =
    (has_last parts ≡ false) × (number ≡ length parts) × LacksSoFar table w width most past parts seen receives missing
EndsWith table w width most past parts seen receives (GivenUp stream number missing) = ⊥

-- So it is of all that was read but for what the last read brought at most. The last part isn't settled by it.
pub record StopsReceiving (table : List TableRow) (w : Wish) (width : ℕ) (before after : Option (List ℕ)) (came : List ℕ) (parts : List Settled) (seen : Seen) : Type 0
  where
    pub past : List ℕ
    pub last : List ℕ
    pub read : Consumes before after (past ++ last)
    pub brought : IsLastRead last came
    pub receives : ReceivesSoFar table w width chunk_length past parts seen
    pub not_all : has_last parts ≡ false

-- A call failed. All parts are written that what was read settles without what the last read brought at most, and the last one isn't among
-- them. Behind these stands a beginning of what all that was read settles more.
pub record FailsReceiving (table : List TableRow) (w : Wish) (width : ℕ) (before after : Option (List ℕ)) (came : List ℕ) (seen : Seen)
    (there then : Option (List ℕ))
    : Type 0 where
  pub earlier : List ℕ
  pub last : List ℕ
  pub read : Consumes before after (earlier ++ last)
  pub brought : IsLastRead last came
  pub parts_before : List Settled
  pub seen_before : Seen
  pub before_last : ReceivesSoFar table w width chunk_length earlier parts_before seen_before
  pub not_all : has_last parts_before ≡ false
  pub parts : List Settled
  pub receives : ReceivesSoFar table w width chunk_length (earlier ++ last) parts seen
  pub more : List ℕ
  pub longer : bytes_of parts ≡ bytes_of parts_before ++ more
  pub count : ℕ
  pub written : Appends there then (bytes_of parts_before ++ take count more)

-- All parts are written that what was read settles.
pub record WritesAllRead (table : List TableRow) (w : Wish) (width : ℕ) (before after : Option (List ℕ)) (seen : Seen) (there then : Option (List ℕ)) : Type 0
  where
    pub past : List ℕ
    pub read : Consumes before after past
    pub parts : List Settled
    pub receives : ReceivesSoFar table w width chunk_length past parts seen
    pub written : Appends there then (bytes_of parts)

-- The last part of the stream is settled by what was read, and without the last read it wasn't.
pub record ReceivesAll (table : List TableRow) (w : Wish) (width : ℕ) (before after : Option (List ℕ)) (last : List ℕ) (parts : List Settled) (stream : List ℕ)
    (seen : Seen) : Type 0 where
  pub earlier : List ℕ
  pub read : Consumes before after (earlier ++ last)
  pub some : 0 < length last
  pub few : length last ≤ chunk_length
  pub first : Head
  pub named : stream ≡ first.stream
  pub receives : Receives table w width chunk_length (earlier ++ last) first parts seen
  pub all : has_last parts ≡ true
  pub parts_before : List Settled
  pub seen_before : Seen
  pub before_last : ReceivesSoFar table w width chunk_length earlier parts_before seen_before
  pub not_all : has_last parts_before ≡ false

-- All was read, or more bytes than a u64 counts, and the last part isn't settled.
pub record ReceivesSome (table : List TableRow) (w : Wish) (width : ℕ) (before after : Option (List ℕ)) (parts : List Settled) (ending : Ending) (seen : Seen)
    : Type 0 where
  pub past : List ℕ
  pub read : Consumes before after past
  pub ended : IsAtEnd after ⊎ (2 ^ 64 - 1 ≤ length past)
  pub receives : ReceivesSoFar table w width chunk_length past parts seen
  pub ends : EndsWith table w width chunk_length past parts seen receives ending

-- The stream is given up with what was read: the last part isn't settled, as for a run that reads no more.
pub record GivesUp (table : List TableRow) (w : Wish) (width : ℕ) (before after : Option (List ℕ)) (last : List ℕ) (parts : List Settled) (stream : List ℕ)
    (number : ℕ) (missing : Option ℕ) (seen : Seen) : Type 0 where
  pub earlier : List ℕ
  pub read : Consumes before after (earlier ++ last)
  pub few : length last ≤ chunk_length
  pub receives : ReceivesSoFar table w width chunk_length (earlier ++ last) parts seen
  pub named : IsNameOf receives.0 stream
  pub ends : EndsWith table w width chunk_length (earlier ++ last) parts seen receives (Incomplete number missing)

-- a run has given its stream up
abbrev pub is_given_up : Result Ending Stop → Bool
is_given_up (Ok (GivenUp stream number missing)) = true
is_given_up _ = false

-- How a run ends that reads this input, whose last read brought these bytes, and behind whose writer this stood before and after: with all parts written; with
-- those that are settled at the end of the input, or as it gives its stream up; for want of memory with those that were settled before the last read; or at a failed call, where of what
-- the last read settled a beginning may be written. And what was seen.
abbrev pub EndsReceiving : List TableRow → Wish → ℕ → Result Ending Stop → Seen → Option (List ℕ) → Option (List ℕ) → List ℕ
    → Option (List ℕ) → Option (List ℕ) → Type 0
EndsReceiving table w width (Ok (Written stream)) seen before after came there then =
    (parts : List Settled) × ReceivesAll table w width before after came parts stream seen × Appends there then (bytes_of parts)
EndsReceiving table w width (Ok (Incomplete number missing)) seen before after came there then =
    (parts : List Settled) × ReceivesSome table w width before after parts (Incomplete number missing) seen
    × Appends there then (bytes_of parts)
EndsReceiving table w width (Ok (GivenUp stream number missing)) seen before after came there then =
    (parts : List Settled) × GivesUp table w width before after came parts stream number missing seen × Appends there then (bytes_of parts)
EndsReceiving table w width (Err (Refused e)) seen before after came there then =
    (e ≡ OutOfMemory) × (parts : List Settled) × StopsReceiving table w width before after came parts seen
    × Appends there then (bytes_of parts)
EndsReceiving table w width (Err Fault) seen before after came there then = FailsReceiving table w width before after came seen there then

-- ---- failed calls

-- The first failed call of a run ends it.
pub record EndsAtFailedCall {R W X : Type 0} (reader : Counted R) (writer : Counted W) (result : Result X Stop) (reader' : Counted R) (writer' : Counted W) : Type 0
  where
    pub counts : failed_count reader' + failed_count writer' ≡ failed_count reader + failed_count writer + failed_calls result
    pub fault : (result ≡ Err Fault) ↔ ((failed_count reader < failed_count reader') ⊎ (failed_count writer < failed_count writer'))
