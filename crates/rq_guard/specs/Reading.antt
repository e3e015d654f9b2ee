-- What is read of a guard in a pass over it, or in a part of one.
use Rattle.std.specs.Prelude.{◌≡◌, ◌⊎◌, ℕ, ◌-◌, ◌^◌, ◌<◌, ◌≤◌, List, [], ◌++◌, length, map, filter, All, Bool, false, Option, Some, None, Vec, take, slice_index_or, nat_lt}
use Rattle.std.specs.Global.{Global}
use Rattle.std.specs.Io.KnownBytes.{Consumes, Keeps, Appends, IsAtEnd}
use Rattle.rq_standard.specs.declared.row.TableRow.{TableRow}
use Rattle.rq_cells.specs.declared.head.Head.{Head}
use Rattle.rq_cells.specs.declared.cell.Cell.{Cell}
use Rattle.rq_cells.specs.declared.cell.FoundCell.{FoundCell}
use Rattle.rq_cells.specs.Cells.{Key}
use Rattle.rq_cells.specs.Found.{Source, source_of, cells_in}
use Rattle.rq_cells.specs.Scans.{HasDigest}
use Rattle.rq_cast.specs.Taken.{has_head}
use Rattle.rq_cast.specs.PartReading.{ReadsPart}
use Rattle.rq_guard.specs.declared.list.DigestList.{DigestList}
use Rattle.rq_guard.specs.declared.mending.Mending.{Mending}
use Rattle.rq_guard.specs.declared.reading.CellPass.{CellPass}
use Rattle.rq_guard.specs.Lists.{Listed, listed_of}
use Rattle.rq_guard.specs.Damage.{part_length, object_there, whole_cells}
use Rattle.rq_guard.specs.Mending.{TakesMore, mended_parts, has_mended_last}

-- ---- a pass

-- These bytes came, and these cells of a source were found among them. Bytes are kept that may still become cells.
pub record HasPassed (s : Source) (past : List ℕ) (came : List Cell) (p : CellPass) : Type 0 where
  pub scans : p.scanner ≡ s
  pub found : (rest : List ℕ) → cells_in s (past ++ rest) ≡ came ++ cells_in s (p.bytes.items ++ rest)
  pub none : cells_in s p.bytes.items ≡ []

-- a piece more comes, and these cells are found
abbrev pub Passes : CellPass → List ℕ → List Cell → CellPass → Type 0
Passes old piece cells new = (s : Source) (past : List ℕ) (came : List Cell) → HasPassed s past came old → HasPassed s (past ++ piece) (came ++ cells) new

abbrev pub cells_of : List FoundCell → List Cell
cells_of found = map (λ f. f.cell) found

-- a piece that is read
pub record ReadsPiece (before after : Option (List ℕ)) (old : CellPass) (found : List FoundCell) (new : CellPass) : Type 0 where
  pub piece : List ℕ
  pub some : 0 < length piece
  pub read : Consumes before after piece
  pub passes : Passes old piece (cells_of found) new
  pub digests : All HasDigest found

-- or the end
abbrev pub ReadsOn : Option (List ℕ) → Option (List ℕ) → CellPass → Option (Vec FoundCell Global) → CellPass → Type 0
ReadsOn before after old None new = Consumes before after [] × IsAtEnd after × (new ≡ old)
ReadsOn before after old (Some found) new = ReadsPiece before after old found.items new

-- ---- the cells of a part

-- those with its head in bytes, at all places
abbrev pub cells_with : Key → Head → List ℕ → List Cell
cells_with key head bytes = filter (has_head head) (cells_in (source_of key head) bytes)

-- All was read, or more bytes than a u64 counts.
abbrev pub IsRead : List ℕ → Option (List ℕ) → Type 0
IsRead past after = IsAtEnd after ⊎ (2 ^ 64 - 1 ≤ length past)

-- A part's cells were taken so far, and none made anything ready.
pub record IsTakingFrom (table : List TableRow) (key : Key) (head : Head) (before after : Option (List ℕ)) (reads : ℕ) (pass : CellPass) (old new : Mending) : Type 0
  where
    pub past : List ℕ
    pub came : List Cell
    pub read : Consumes before after past
    pub many : reads ≤ length past
    pub passed : HasPassed (source_of key head) past came pass
    pub takes : TakesMore table old (filter (has_head head) came) [] new

-- A part's cells are taken that stand in what is read: in all of it, where they make nothing ready.
pub record TakesFrom (table : List TableRow) (key : Key) (head : Head) (before after : Option (List ℕ)) (old : Mending) (bytes : List ℕ) (new : Mending) : Type 0
  where
    pub past : List ℕ
    pub read : Consumes before after past
    pub takes : TakesMore table old (cells_with key head past) bytes new
    pub all : bytes ≡ [] → has_mended_last new ≡ false → IsRead past after

-- ---- a part

abbrev pub names_listed : List DigestList → List (List ℕ)
names_listed lists = map (λ l. l.head.name) lists

-- The cells of the symbols of a part that are whole in what is read: so many bytes as the part has, and fewer at the end alone.
pub record ReadsWhole (names : List (List ℕ)) (l : Listed) (before after : Option (List ℕ)) (cells : List Cell) : Type 0 where
  pub bytes : List ℕ
  pub read : ReadsPart before after (part_length l.head) bytes
  pub cells_are : cells ≡ whole_cells l (object_there l.head names bytes)

-- The next part is mended, behind parts of these names, by its symbols that are whole in a file, and by its cells in a guard: in what is read of it, and in
-- all of it, where that makes nothing ready.
pub record MendsPart (table : List TableRow) (key : Key) (names : List (List ℕ)) (l : Listed) (file file' guard guard' : Option (List ℕ)) (old : Mending)
    (bytes : List ℕ) (new : Mending)
    : Type 0 where
  pub there : List ℕ
  pub read : ReadsPart file file' (part_length l.head) there
  pub past : List ℕ
  pub passed : Consumes guard guard' past
  pub takes : TakesMore table old (whole_cells l (object_there l.head names there) ++ cells_with key l.head past) bytes new
  pub all : bytes ≡ [] → has_mended_last new ≡ false → IsRead past guard'

-- so the next part is mended of those that are listed
abbrev pub MendsNext : List TableRow → Key → List DigestList → Option (List ℕ) → Option (List ℕ) → Option (List ℕ) → Option (List ℕ) → Mending → List ℕ
    → Mending → Type 0
MendsNext table key lists file file' guard guard' old bytes new =
    let next = mended_parts old in
    (d : DigestList) → MendsPart table key (names_listed (take next lists)) (listed_of (slice_index_or lists next d)) file file' guard guard' old bytes new

-- It is, and is written behind what stood there: where it is mended, and nothing where it isn't determined.
pub record RepairsPart (table : List TableRow) (key : Key) (lists : List DigestList) (file file' guard guard' there then : Option (List ℕ)) (old new : Mending)
    (mended : Bool)
    : Type 0 where
  pub bytes : List ℕ
  pub mends : MendsNext table key lists file file' guard guard' old bytes new
  pub written : Appends there then bytes
  pub mended_is : mended ≡ nat_lt (mended_parts old) (mended_parts new)

-- Something stops it: nothing is written, or a beginning of the part, which is mended so.
abbrev pub StopsRepair : List TableRow → Key → List DigestList → Option (List ℕ) → Option (List ℕ) → Option (List ℕ) → Option (List ℕ) → Option (List ℕ)
    → Option (List ℕ) → Mending → Mending → Type 0
StopsRepair table key lists file file' guard guard' there then old new =
    Keeps there then
    ⊎ ((bytes : List ℕ) × (count : ℕ) × MendsNext table key lists file file' guard guard' old bytes new × Appends there then (take count bytes))
