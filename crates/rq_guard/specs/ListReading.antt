-- Which lists stand in a guard: what its cells say of them, one receiver for each.
use Rattle.std.specs.Prelude.{◌≡◌, ◌⊎◌, ℕ, ◌+◌, ◌^◌, ◌<◌, ◌≤◌, List, [], ◌∷◌, ◌++◌, length, drop, map, filter, Contains, Option, Some, None, IfSome, option_and_then, Bool, false, ◌==◌, ◌&&◌, nat_eq, if◌then◌else◌, slice_index_or}
use Rattle.std.specs.Io.KnownBytes.{Consumes}
use Rattle.std.specs.Cmp.Lexicographic.{pointwise}
use Rattle.std.specs.Ordering.{nat_cmp}
use Rattle.std.specs.BTreeMap.{get}
use Rattle.rq_standard.specs.declared.row.TableRow.{TableRow}
use Rattle.rq_standard.specs.Headline.{IsOnlyObject}
use Rattle.rq_standard.specs.TableRows.{greatest_size}
use Rattle.rq_cells.specs.declared.head.Head.{Head}
use Rattle.rq_cells.specs.declared.cell.Cell.{Cell}
use Rattle.rq_cells.specs.Cells.{Key}
use Rattle.rq_cells.specs.Found.{Source, cells_in}
use Rattle.rq_cast.specs.declared.part_receiver.PartReceiver.{PartReceiver}
use Rattle.rq_cast.specs.Taken.{part_index, IsTakenHead, received_packets, IsNamedIn, IsOneSender, IsAnswered}
use Rattle.rq_cast.specs.PartReceiving.{IsSound}
use Rattle.rq_cast.specs.Votes.{LeadsFrom, IsHonestHead}
use Rattle.rq_cast.specs.Windows.{IsOpen, HasVoted, HasAll}
use Rattle.rq_cast.specs.Parts.{greatest_count}
use Rattle.rq_guard.specs.declared.list.DigestList.{DigestList}
use Rattle.rq_guard.specs.declared.reading.CellPass.{CellPass}
use Rattle.rq_guard.specs.declared.reading_lists.ListReceivers.{ListReceivers}
use Rattle.rq_guard.specs.Lists.{Listed, listed_of, list_at}
use Rattle.rq_guard.specs.Damage.{is_last_part}
use Rattle.rq_guard.specs.Reading.{HasPassed, IsRead}

-- the index of the cells of the list of part 0: those of part i's have one that is i more
abbrev pub first_list : ℕ
first_list = 2 ^ 30

-- the cells of the list of a part among others
abbrev pub is_list_cell : ℕ → Cell → Bool
is_list_cell i cell = part_index cell.head == first_list + i

abbrev pub list_cells : ℕ → List Cell → List Cell
list_cells i cells = filter (is_list_cell i) cells

-- ---- what is received of a list

-- of these cells those with the head in use since it began, of one sender's all, and of each head what the votes for it say
pub record HasListCells (table : List TableRow) (cells : List Cell) (o : Option PartReceiver) : Type 0 where
  pub are_open : IfSome o (IsOpen table cells)
  pub voted : HasVoted table None cells o
  pub one_sender : (h : Head) → IsTakenHead table h → IsOneSender table h cells → HasAll table h cells o

abbrev pub receiver_of : ListReceivers → ℕ → Option PartReceiver
receiver_of r i = get nat_cmp r.of (first_list + i)

-- so it is of each list, of cells that came
abbrev pub HasLists : List TableRow → List Cell → ListReceivers → Type 0
HasLists table came r = (i : ℕ) → HasListCells table (list_cells i came) (receiver_of r i)

-- coders take their heads, which have the index that is theirs
abbrev pub AreSound : List TableRow → ListReceivers → Type 0
AreSound table r = (i : ℕ) → IfSome (receiver_of r i) (IsSound table (first_list + i))

abbrev pub TakesListCell : List TableRow → ListReceivers → Cell → ListReceivers → Type 0
TakesListCell table old cell new = (came : List Cell) → HasLists table came old → HasLists table (came ++ (cell ∷ [])) new

-- ---- the lists

-- an object that is named as the head of one of these cells says, and that those determine which have it and came since a place
pub record IsReceivedOf (table : List TableRow) (cells : List Cell) (object : List ℕ) : Type 0 where
  pub head : Head
  pub headed : Contains (map (λ cell. cell.head) cells) head
  pub begun : ℕ
  pub answer : Option (List ℕ)
  pub answered : IsAnswered table head.configuration (received_packets head (drop begun cells)) answer
  pub named : IsNamedIn head answer (Some object)

-- Of one sender's cells it is the object that they determine, and none where they determine none.
pub record IsReceivedExactly (table : List TableRow) (h : Head) (cells : List Cell) (object : Option (List ℕ)) : Type 0 where
  pub answer : Option (List ℕ)
  pub answered : IsAnswered table h.configuration (received_packets h cells) answer
  pub named : IsNamedIn h answer object

-- A head's cells are more than the others from some place on, and those since then determine its object: no other makes their packets.
pub record IsLedObject (table : List TableRow) (cells : List Cell) (object : List ℕ) : Type 0 where
  pub head : Head
  pub honest : IsHonestHead table head object cells
  pub few : length cells < 2 ^ 64
  pub from : ℕ
  pub within : from ≤ length cells
  pub leads : LeadsFrom head from cells
  pub only : IsOnlyObject table head.configuration (received_packets head (drop from cells)) object

-- What is received by the cells of a list, whoever sent them, where a head leads, and where one sender did.
pub record IsListObject (table : List TableRow) (cells : List Cell) (object : Option (List ℕ)) : Type 0 where
  pub whoever : IfSome object (IsReceivedOf table cells)
  pub led : (x : List ℕ) → IsLedObject table cells x → object ≡ Some x
  pub one_sender : (h : Head) → IsTakenHead table h → IsOneSender table h cells → ((cells ≡ []) × (object ≡ None)) ⊎ IsReceivedExactly table h cells object

-- the list that an object spells, where it is that of the part of an index of a stream
abbrev pub is_of_part : List ℕ → ℕ → Head → Bool
is_of_part stream i h = pointwise nat_eq h.stream stream && (part_index h == i)

abbrev pub list_of_part : Key → ℕ → List ℕ → ℕ → List ℕ → Option Listed
list_of_part key greatest stream i bytes = option_and_then (λ l. if is_of_part stream i l.head then Some l else None) (list_at key greatest bytes)

-- The list of the part of an index, as a stream's cells say it.
pub record IsListIn (table : List TableRow) (key : Key) (stream : List ℕ) (cells : List Cell) (i : ℕ) (o : Option Listed) : Type 0 where
  pub object : Option (List ℕ)
  pub received : IsListObject table (list_cells i cells) object
  pub list_is : o ≡ option_and_then (list_of_part key (greatest_size table) stream i) object

-- a list is that of the last part
abbrev pub is_last_of : DigestList → Bool
is_last_of l = is_last_part l.head

-- Some lists are those of the first parts.
pub record AreFirstLists (table : List TableRow) (key : Key) (stream : List ℕ) (cells : List Cell) (lists : List DigestList) : Type 0 where
  pub each : (i : ℕ) (d : DigestList) → i < length lists → IsListIn table key stream cells i (Some (listed_of (slice_index_or lists i d)))
  pub few : length lists ≤ greatest_count

-- They are those of all parts: the last one, and it alone, is that of the last part.
pub record AreAllLists (table : List TableRow) (key : Key) (stream : List ℕ) (cells : List Cell) (lists : List DigestList) : Type 0 where
  pub are : AreFirstLists table key stream cells lists
  pub some : 0 < length lists
  pub last : (i : ℕ) (d : DigestList) → i < length lists → is_last_of (slice_index_or lists i d) ≡ (i + 1 == length lists)

-- A list isn't there: none of the first ones is that of the last part, and behind them there is none, or no number for one.
pub record LacksList (table : List TableRow) (key : Key) (stream : List ℕ) (cells : List Cell) : Type 0 where
  pub first : List DigestList
  pub are : AreFirstLists table key stream cells first
  pub none_last : (i : ℕ) (d : DigestList) → i < length first → is_last_of (slice_index_or first i d) ≡ false
  pub lacks : length first < greatest_count → IsListIn table key stream cells (length first) None

-- the lists of all parts, where none is lacking
abbrev pub AreLists : List TableRow → Key → List ℕ → List Cell → Option (List DigestList) → Type 0
AreLists table key stream cells (Some lists) = AreAllLists table key stream cells lists
AreLists table key stream cells None = LacksList table key stream cells

-- ---- what is read

-- whose cells lists are: those of a stream with symbols of 1024 bytes
abbrev pub list_source : Key → List ℕ → Source
list_source key stream = record { key = key; stream = stream; symbol_size = 1024 }

-- more cells come
abbrev pub TakesListCells : List TableRow → ListReceivers → List Cell → ListReceivers → Type 0
TakesListCells table old cells new = (came : List Cell) → HasLists table came old → HasLists table (came ++ cells) new

-- The cells of all that was read are received.
pub record ReceivesLists (table : List TableRow) (key : Key) (stream : List ℕ) (before after : Option (List ℕ)) (r : ListReceivers) : Type 0 where
  pub past : List ℕ
  pub read : Consumes before after past
  pub all : IsRead past after
  pub has : HasLists table (cells_in (list_source key stream) past) r

-- so far
pub record IsReceivingLists (table : List TableRow) (key : Key) (stream : List ℕ) (before after : Option (List ℕ)) (reads : ℕ) (pass : CellPass) (r : ListReceivers)
    : Type 0 where
  pub past : List ℕ
  pub came : List Cell
  pub read : Consumes before after past
  pub many : reads ≤ length past
  pub passed : HasPassed (list_source key stream) past came pass
  pub has : HasLists table came r

-- The lists of all parts stand in what was read, or one of them doesn't.
pub record ReadsLists (table : List TableRow) (key : Key) (stream : List ℕ) (before after : Option (List ℕ)) (lists : Option (List DigestList)) : Type 0 where
  pub past : List ℕ
  pub read : Consumes before after past
  pub all : IsRead past after
  pub are : AreLists table key stream (cells_in (list_source key stream) past) lists
