-- How a guard is written: of each part of a file the cells of its list, and between the halves of these repair packets.
use Rattle.std.specs.Prelude.{◌≡◌, ◌⊎◌, ⊤, ℕ, zero, suc, ◌+◌, ◌*◌, ◌<◌, ◌≤◌, ◌==◌, Bool, List, [], ◌++◌, length, take, map, Option, Some}
use Rattle.std.specs.List.{range_with_len, sum_by}
use Rattle.std.specs.Io.KnownBytes.{Consumes, Appends, IsAtEnd}
use Rattle.rq_bytes.specs.declared.error.Error.{Error}
use Rattle.rq_bytes.specs.declared.error.Error.TheVariants.{OutOfMemory, TransferTooLong}
use Rattle.rq_standard.specs.declared.row.TableRow.{TableRow}
use Rattle.rq_standard.specs.Configuration.{Configuration, largest_block}
use Rattle.rq_rows.specs.FullTable.{full_rows}
use Rattle.raptorq.specs.Refused.{RefusesEncoder}
use Rattle.rq_streams.specs.declared.counted.Counted.{Counted}
use Rattle.rq_streams.specs.declared.run.Stop.{Stop}
use Rattle.rq_streams.specs.declared.run.Stop.TheVariants.{Fault, Refused}
use Rattle.rq_streams.specs.Counted.{failed_count}
use Rattle.rq_cells.specs.declared.head.Head.{Head}
use Rattle.rq_cells.specs.Cells.{Key}
use Rattle.rq_cast.specs.declared.output.Output.{Output}
use Rattle.rq_cast.specs.declared.series.Repair.{Repair}
use Rattle.rq_cast.specs.declared.series.Series.{Series}
use Rattle.rq_cast.specs.Ids.{IsIdEnd}
use Rattle.rq_cast.specs.Laws.{SendAllParts, HaveBytes}
use Rattle.rq_cast.specs.Output.{counting}
use Rattle.rq_cast.specs.Parts.{greatest_count, object_of, source_digests, name_of_part, part_head}
use Rattle.rq_cast.specs.Preparing.{IsFitting, RefusesFitting}
use Rattle.rq_cast.specs.Calls.{Call, lost_in}
use Rattle.rq_cast.specs.Sent.{Sending, Encodes, IsSendingOf, IsSeries, cell_count, AreSent, StopsBehind}
use Rattle.rq_cast.specs.SentParts.{bytes_of_part, last_index, IsRead, names_of}
use Rattle.rq_guard.specs.declared.protecting.GuardOrder.{GuardOrder}
use Rattle.rq_guard.specs.declared.protecting.Guarded.{Guarded}
use Rattle.rq_guard.specs.declared.protecting.Half.{Half}
use Rattle.rq_guard.specs.declared.protecting.Half.TheVariants.{Source, Spare}
use Rattle.rq_guard.specs.Layout.{IsLayout}
use Rattle.rq_guard.specs.Lists.{Listed, listed_length, list_symbol_size, list_number, list_bytes, list_at}

-- ---- the list of a part

-- what is listed of a part with this head that is this object
abbrev pub list_of_part : Head → List ℕ → Listed
list_of_part h object = record { head = h; digests = map (take listed_length) (source_digests h.configuration object) }

-- the head of the cells of a list that is this object, of a part with this head
abbrev pub list_head : Head → Configuration → List ℕ → Head
list_head h c object =
    let number = list_number h.number in
    record { stream = h.stream; number = number; name = name_of_part number c object; configuration = c }

-- which packets of blocks of k source symbols at most: their source packets, or repair packets alone, two more than k
abbrev pub IsListSeries : Half → ℕ → Series → Type 0
IsListSeries Source k s = IsSeries 0 1 k s
IsListSeries Spare k s = IsSeries k 1 (2 * k + 2) s

-- It sends a half of a list, in its default configuration.
pub record IsListSending (key : Key) (l : Listed) (half : Half) (s : Sending) : Type 0 where
  pub table : List TableRow
  pub fitting : IsFitting (length (list_bytes key l)) list_symbol_size table s.encoded.configuration
  pub encodes : Encodes table (list_bytes key l) s.encoded
  pub head : s.head ≡ list_head l.head s.encoded.configuration (list_bytes key l)
  pub keyed : s.key ≡ key
  pub series : IsListSeries half (largest_block s.encoded.configuration) s.series

-- what is refused of a list: its configuration, or its encoder
abbrev pub RefusesList : Key → Listed → Error → Type 0
RefusesList key l e =
    let size = length (list_bytes key l) in
    RefusesFitting size list_symbol_size e
    ⊎ ((table : List TableRow) × (c : Configuration) × IsFitting size list_symbol_size table c × RefusesEncoder table c size e)

-- ---- a part

-- the ids of the repair packets alone, of a block of k source symbols
abbrev pub IsRepairSeries : Repair → ℕ → Series → Type 0
IsRepairSeries repair k s = (end : ℕ) × IsIdEnd k repair end × IsSeries k 1 end s

-- It sends repair packets of an object, as the part behind parts of these names, in its layout.
pub record IsRepairSending (repair : Repair) (key : Key) (is_last : Bool) (names : List (List ℕ)) (object : List ℕ) (s : Sending) : Type 0 where
  pub layout : IsLayout (length object) s.encoded.configuration
  pub sends : IsSendingOf full_rows is_last names object s
  pub keyed : s.key ≡ key
  pub series : IsRepairSeries repair (largest_block s.encoded.configuration) s.series

-- what sends the source cells of a part's list, then the part's, and then the list's repair cells
pub record Guarding : Type 0 where
  pub list : Sending
  pub part : Sending
  pub spare : Sending

-- They send what guards bytes, as the part behind parts of these names.
pub record IsGuarding (order : GuardOrder) (key : Key) (is_last : Bool) (names : List (List ℕ)) (bytes : List ℕ) (g : Guarding) : Type 0 where
  pub part : IsRepairSending order.repair key is_last names (object_of is_last names bytes) g.part
  pub list : IsListSending key (list_of_part g.part.head (object_of is_last names bytes)) Source g.list
  pub spare : IsListSending key (list_of_part g.part.head (object_of is_last names bytes)) Spare g.spare

-- what is refused of a part: memory, its layout, its encoder, or its list
abbrev pub RefusesGuarding : Key → Bool → List (List ℕ) → List ℕ → Error → Type 0
RefusesGuarding key is_last names bytes e =
    let object = object_of is_last names bytes in
    (e ≡ OutOfMemory)
    ⊎ (((e ≡ TransferTooLong) × (1006632960 < length object))
    ⊎ ((c : Configuration) × IsLayout (length object) c
    × (RefusesEncoder full_rows c (length object) e ⊎ RefusesList key (list_of_part (part_head is_last names c object) object) e)))

-- how many cells are sent of all
abbrev pub guard_cells : Guarding → ℕ
guard_cells g = cell_count g.list + cell_count g.part + cell_count g.spare

-- ---- what is written

-- all cells, none of which is lost
abbrev pub AreAllSent : Sending → List ℕ → Type 0
AreAllSent s written = (calls : List Call) × AreSent s (cell_count s) written calls × (lost_in calls ≡ 0)

-- all of one sender's, and behind them what has a property
abbrev pub AllThen : Sending → (List ℕ → Type 0) → List ℕ → Type 0
AllThen s P written = (front : List ℕ) × (rest : List ℕ) × AreAllSent s front × P rest × (written ≡ front ++ rest)

-- all that guard a part, in their order
abbrev pub IsGuardOf : Guarding → List ℕ → Type 0
IsGuardOf g = AllThen g.list (AllThen g.part (AreAllSent g.spare))

-- those of the first n parts, one part behind another
abbrev pub AreGuarded : (ℕ → Guarding) → ℕ → List ℕ → Type 0
AreGuarded of zero written = written ≡ []
AreGuarded of (suc n) written = (front : List ℕ) × (bytes : List ℕ) × AreGuarded of n front × IsGuardOf (of n) bytes × (written ≡ front ++ bytes)

-- the names of the first n parts
abbrev pub guarded_names : (ℕ → Guarding) → ℕ → List (List ℕ)
guarded_names of n = names_of (λ i. (of i).part) n

-- the part of an index is guarded, behind those before it, and the last one as such
abbrev pub IsGuardedPart : GuardOrder → Key → List ℕ → (ℕ → Guarding) → ℕ → Guarding → Type 0
IsGuardedPart order key input of index g =
    IsGuarding order key (index == last_index order.part input) (guarded_names of index) (bytes_of_part order.part input index) g

-- The first n parts of an input are guarded, and this is written of them.
pub record GuardsParts (order : GuardOrder) (key : Key) (input : List ℕ) (of : ℕ → Guarding) (n : ℕ) (written : List ℕ) : Type 0 where
  pub prepared : (i : ℕ) → i < n → IsGuardedPart order key input of i (of i)
  pub sent : AreGuarded of n written

-- What is read to its end is guarded.
pub record Protects (order : GuardOrder) (key : Key) (before after there then : Option (List ℕ)) (made : Guarded) : Type 0 where
  pub input : List ℕ
  pub taken : Consumes before after input
  pub at_end : IsAtEnd after
  pub of : ℕ → Guarding
  pub written : List ℕ
  pub appended : Appends there then written
  pub parts : made.parts ≡ last_index order.part input + 1
  pub guards : GuardsParts order key input of made.parts written
  pub cells : made.cells ≡ sum_by guard_cells (map of (range_with_len 0 made.parts))

-- ---- where something stops it

-- Some first cells are written as these calls began them, and perhaps a beginning of the next one by one more.
pub record StopsCells (s : Sending) (stop : Stop) (written : List ℕ) : Type 0 where
  pub number : ℕ
  pub within : number ≤ cell_count s
  pub cells : List ℕ
  pub calls : List Call
  pub sent : AreSent s number cells calls
  pub behind : List ℕ
  pub more : List Call
  pub stopped : StopsBehind s number behind more stop
  pub is : written ≡ cells ++ behind

-- Some first cells of one sender, behind all of those before it.
abbrev pub StopsIn : Guarding → Stop → List ℕ → Type 0
StopsIn g stop written =
    StopsCells g.list stop written
    ⊎ (AllThen g.list (StopsCells g.part stop) written
    ⊎ AllThen g.list (AllThen g.part (StopsCells g.spare stop)) written)

-- Nothing of the part of an index is written: a call failed, memory is refused, its object is when it is read, or it has no number.
abbrev pub StopsUnguarded : GuardOrder → Key → List ℕ → (ℕ → Guarding) → ℕ → Option (List ℕ) → Stop → Type 0
StopsUnguarded order key input of index after Fault = ⊤
StopsUnguarded order key input of index after (Refused e) =
    (e ≡ OutOfMemory)
    ⊎ ((IsRead order.part input index after
    × RefusesGuarding key (index == last_index order.part input) (guarded_names of index) (bytes_of_part order.part input index) e)
    ⊎ ((e ≡ TransferTooLong) × (index ≡ greatest_count) × (length input ≡ index * order.part)))

-- Some of what guards the part of an index is written.
pub record StopsInPart (order : GuardOrder) (key : Key) (input : List ℕ) (of : ℕ → Guarding) (index : ℕ) (after : Option (List ℕ)) (stop : Stop)
    (written : List ℕ) : Type 0 where
  pub read : IsRead order.part input index after
  pub guarding : Guarding
  pub prepared : IsGuardedPart order key input of index guarding
  pub stopped : StopsIn guarding stop written

-- The first parts of what was read are guarded, and of the next one what could be. Nothing behind that is read.
pub record StopsProtecting (order : GuardOrder) (key : Key) (before after there then : Option (List ℕ)) (stop : Stop) : Type 0 where
  pub input : List ℕ
  pub taken : Consumes before after input
  pub of : ℕ → Guarding
  pub index : ℕ
  pub whole : index * order.part ≤ length input
  pub no_further : length input ≤ (index + 1) * order.part
  pub front : List ℕ
  pub guards : GuardsParts order key input of index front
  pub next : List ℕ
  pub stopped : (StopsUnguarded order key input of index after stop × (next ≡ [])) ⊎ StopsInPart order key input of index after stop next
  pub appended : Appends there then (front ++ next)

-- ---- what senders do

-- Bytes with a property are written behind what stood there.
abbrev pub Adds : (List ℕ → Type 0) → Option (List ℕ) → Option (List ℕ) → Type 0
Adds P there then = (written : List ℕ) × P written × Appends there then written

-- All cells of one are written, none of which is lost.
abbrev pub SendsAll : Sending → Option (List ℕ) → Option (List ℕ) → Type 0
SendsAll s = Adds (AreAllSent s)

-- Some first ones are, and then something stops it.
abbrev pub StopsAll : Sending → Option (List ℕ) → Option (List ℕ) → Stop → Type 0
StopsAll s there then stop = Adds (StopsCells s stop) there then

-- so it is of all that guard a part
abbrev pub SendsGuard : Guarding → Option (List ℕ) → Option (List ℕ) → Type 0
SendsGuard g = Adds (IsGuardOf g)

abbrev pub StopsGuard : Guarding → Option (List ℕ) → Option (List ℕ) → Stop → Type 0
StopsGuard g there then stop = Adds (StopsIn g stop) there then

-- ---- failed calls

-- a fault is a failed call of the writer, and a refusal is none
abbrev pub CountsFault : {W : Type 0} → Output W → Output W → Stop → Type 0
CountsFault output output' Fault = failed_count (counting output) < failed_count (counting output')
CountsFault output output' (Refused e) = failed_count (counting output') ≡ failed_count (counting output)

-- of the reader or of the writer
abbrev pub CountsStop : {R W : Type 0} → Counted R → Counted R → Output W → Output W → Stop → Type 0
CountsStop reader reader' output output' Fault = failed_count reader + failed_count (counting output) < failed_count reader' + failed_count (counting output')
CountsStop reader reader' output output' (Refused e) =
    (failed_count reader' ≡ failed_count reader) × (failed_count (counting output') ≡ failed_count (counting output))

-- ---- what is promised of it

-- The list that is sent of a part is read from its bytes, over each table for blocks of 16,384 symbols.
abbrev pub SentListsAreRead : Type 0
SentListsAreRead =
    (order : GuardOrder) (key : Key) (is_last : Bool) (names : List (List ℕ)) (bytes : List ℕ) (g : Guarding) → IsGuarding order key is_last names bytes g
    → (greatest : ℕ) → 16384 ≤ greatest
    → let l = list_of_part g.part.head (object_of is_last names bytes) in list_at key greatest (list_bytes key l) ≡ Some l

-- What guards the parts of an input, up to the last one, sends them as a stream over all rows: so its cells and those of the symbols that stay are one sender's.
abbrev pub GuardedPartsAreSent : Type 0
GuardedPartsAreSent =
    (order : GuardOrder) (key : Key) (input : List ℕ) (of : ℕ → Guarding)
    → ((i : ℕ) → i ≤ last_index order.part input → IsGuardedPart order key input of i (of i))
    → let last = last_index order.part input in
    let bytes = bytes_of_part order.part input in
    SendAllParts full_rows (λ i. (of i).part) last bytes × HaveBytes last bytes
