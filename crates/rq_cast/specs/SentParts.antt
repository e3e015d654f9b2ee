-- A stream that is sent in parts, in a round of it: what each part is, and what is written.
use Rattle.std.specs.Prelude.{◌≡◌, ◌⊎◌, ⊤, ℕ, zero, suc, ◌+◌, ◌*◌, ◌/◌, ◌<◌, ◌≤◌, ◌==◌, List, [], ◌++◌, length, take, drop, map, Option, Err}
use Rattle.std.specs.List.{range_with_len, sum_by}
use Rattle.std.specs.Io.KnownBytes.{Consumes, Appends, IsAtEnd}
use Rattle.rq_bytes.specs.declared.error.Error.TheVariants.{OutOfMemory, TransferTooLong}
use Rattle.rq_streams.specs.declared.counted.Counted.{Counted}
use Rattle.rq_streams.specs.declared.run.Stop.{Stop}
use Rattle.rq_streams.specs.declared.run.Stop.TheVariants.{Fault, Refused}
use Rattle.rq_streams.specs.Counted.{failed_count}
use Rattle.rq_streams.specs.Ends.{failed_calls}
use Rattle.rq_cells.specs.Cells.{Key}
use Rattle.rq_cast.specs.declared.halt.Halt.{Halt}
use Rattle.rq_cast.specs.declared.halt.Halt.TheVariants.{By, Changed}
use Rattle.rq_cast.specs.declared.known.Known.{Known}
use Rattle.rq_cast.specs.declared.order.Order.{Order}
use Rattle.rq_cast.specs.declared.output.Output.{Output}
use Rattle.rq_cast.specs.declared.stream_sending.Sent.{Sent}
use Rattle.rq_cast.specs.Calls.{Call, Tells, lost_in}
use Rattle.rq_cast.specs.Output.{CountsLost}
use Rattle.rq_cast.specs.Parts.{greatest_count, object_of}
use Rattle.rq_cast.specs.Preparing.{IsPrepared, RefusesObject}
use Rattle.rq_cast.specs.Rounds.{IsAsKnown, KnowsAll}
use Rattle.rq_cast.specs.Sent.{Sending, cell_count, AreSent, StopsBehind}

-- ---- the parts of an input, of so many bytes each

-- the bytes of the part of an index: the last one has fewer
abbrev pub bytes_of_part : ℕ → List ℕ → ℕ → List ℕ
bytes_of_part size input index = take size (drop (index * size) input)

-- the index of the last one, which may have none
abbrev pub last_index : ℕ → List ℕ → ℕ
last_index size input = length input / size

-- the part of an index is read as soon as all its bytes are, and the last one at the end
abbrev pub IsRead : ℕ → List ℕ → ℕ → Option (List ℕ) → Type 0
IsRead size input index after = (length input ≡ (index + 1) * size) ⊎ (IsAtEnd after × (last_index size input ≡ index))

-- ---- what sends them

-- the names of the first n
abbrev pub names_of : (ℕ → Sending) → ℕ → List (List ℕ)
names_of of n = map (λ i. (of i).head.name) (range_with_len 0 n)

-- the part of an index is made ready to be sent, behind those before it, and the last one as such
abbrev pub IsPreparedPart : Order → Key → List ℕ → (ℕ → Sending) → ℕ → Sending → Type 0
IsPreparedPart order key input of index s =
    IsPrepared order key (index == last_index order.part input) (names_of of index) (bytes_of_part order.part input index) s

-- the part of an index has the name that an earlier round has it by, where there was one, and is the last one where it was
abbrev pub IsAsKnownIn : Order → Known → List ℕ → ℕ → Sending → Type 0
IsAsKnownIn order known input index s = IsAsKnown known index (index == last_index order.part input) s.head.name

-- ---- what is written

-- all cells of the first n parts, one part behind another, but for those whose calls lost them
abbrev pub AreSentParts : (ℕ → Sending) → ℕ → List ℕ → List Call → Type 0
AreSentParts of zero written calls = (written ≡ []) × (calls ≡ [])
AreSentParts of (suc n) written calls =
    (front : List ℕ) × (bytes : List ℕ) × (before : List Call) × (more : List Call)
    × AreSentParts of n front before × AreSent (of n) (cell_count (of n)) bytes more × (written ≡ front ++ bytes) × (calls ≡ before ++ more)

-- The first n parts of an input are made ready, are what they were, and are sent.
pub record SendsParts (order : Order) (key : Key) (known : Known) (input : List ℕ) (of : ℕ → Sending) (n : ℕ) (written : List ℕ) (calls : List Call) : Type 0 where
  pub prepared : (i : ℕ) → i < n → IsPreparedPart order key input of i (of i)
  pub same : (i : ℕ) → i < n → IsAsKnownIn order known input i (of i)
  pub sent : AreSentParts of n written calls

-- What is read to its end is sent in parts, in a round of it.
pub record SendsStream (order : Order) (key : Key) (known : Known) (before after there then : Option (List ℕ)) (told told' : Option (List Call))
    (sent : Sent) (behind : Known) : Type 0 where
  pub input : List ℕ
  pub taken : Consumes before after input
  pub at_end : IsAtEnd after
  pub of : ℕ → Sending
  pub written : List ℕ
  pub appended : Appends there then written
  pub parts : sent.parts ≡ last_index order.part input + 1
  pub calls : List Call
  pub is_told : Tells told told' calls
  pub sends : SendsParts order key known input of sent.parts written calls
  pub lost : sent.lost ≡ lost_in calls
  pub cells : sent.cells ≡ sum_by cell_count (map of (range_with_len 0 sent.parts))
  pub names : KnowsAll known (names_of of sent.parts) behind

-- ---- where something stops it

-- Nothing of the part of an index is sent: a call failed, memory is refused, its object is when it is read, it has no number, or it isn't what it was.
abbrev pub StopsUnsent : Order → Key → Known → List ℕ → (ℕ → Sending) → ℕ → Option (List ℕ) → Halt → Type 0
StopsUnsent order key known input of index after (By Fault) = ⊤
StopsUnsent order key known input of index after (By (Refused e)) =
    (e ≡ OutOfMemory)
    ⊎ ((IsRead order.part input index after
    × RefusesObject order (object_of (index == last_index order.part input) (names_of of index) (bytes_of_part order.part input index)) e)
    ⊎ ((e ≡ TransferTooLong) × (index ≡ greatest_count) × (length input ≡ index * order.part)))
StopsUnsent order key known input of index after (Changed part) =
    (part ≡ index) × IsRead order.part input index after
    × ((s : Sending) × IsPreparedPart order key input of index s × (IsAsKnownIn order known input index s → ⊥))

-- Some first cells of the part of an index are sent as these calls began them, and perhaps a beginning of the next one by one more.
pub record StopsWithin (order : Order) (key : Key) (known : Known) (input : List ℕ) (of : ℕ → Sending) (index : ℕ) (after : Option (List ℕ)) (halt : Halt)
    (written : List ℕ) (calls more : List Call) : Type 0 where
  pub stop : Stop
  pub by : halt ≡ By stop
  pub read : IsRead order.part input index after
  pub sending : Sending
  pub prepared : IsPreparedPart order key input of index sending
  pub same : IsAsKnownIn order known input index sending
  pub number : ℕ
  pub within : number ≤ cell_count sending
  pub cells : List ℕ
  pub sent : AreSent sending number cells calls
  pub behind : List ℕ
  pub stopped : StopsBehind sending number behind more stop
  pub is : written ≡ cells ++ behind

-- The first parts of what was read are sent, and of the next one what could be. Nothing behind that is read.
pub record StopsStream (order : Order) (key : Key) (known : Known) (before after there then : Option (List ℕ)) (told told' : Option (List Call))
    (halt : Halt) (lost : ℕ) : Type 0 where
  pub input : List ℕ
  pub taken : Consumes before after input
  pub of : ℕ → Sending
  pub index : ℕ
  pub whole : index * order.part ≤ length input
  pub no_further : length input ≤ (index + 1) * order.part
  pub front : List ℕ
  pub calls_before : List Call
  pub sends : SendsParts order key known input of index front calls_before
  pub next : List ℕ
  pub calls_next : List Call
  pub more : List Call
  pub stopped :
      (StopsUnsent order key known input of index after halt × (next ≡ []) × (calls_next ≡ []) × (more ≡ []))
      ⊎ StopsWithin order key known input of index after halt next calls_next more
  pub appended : Appends there then (front ++ next)
  pub is_told : Tells told told' (calls_before ++ (calls_next ++ more))
  pub lost_in_all : lost ≡ lost_in calls_before + lost_in calls_next

-- how many calls failed where this stops it
abbrev pub halted_calls : Halt → ℕ
halted_calls (By stop) = failed_calls {X = ℕ} (Err stop)
halted_calls (Changed part) = 0

-- So many cells are lost, each by a call that was refused. Beside these one call failed where that stops it, of the reader or of the writer.
abbrev pub CountsStop : {R W : Type 0} → Counted R → Counted R → Output W → Output W → Halt → ℕ → Type 0
CountsStop reader reader' output output' halt lost =
    ((failed_count reader' ≡ failed_count reader) × CountsLost output output' lost (halted_calls halt))
    ⊎ ((failed_count reader' ≡ failed_count reader + halted_calls halt) × CountsLost output output' lost 0)
