-- How runs end over a file and its guard.
use Rattle.std.specs.Prelude.{◌≡◌, ◌⊎◌, ⊤, ℕ, zero, suc, ◌<◌, ◌≤◌, Bool, true, false, ◌||◌, List, [], length, Option, Some, None, Result, Ok, Err, unwrap_or}
use Rattle.std.specs.Io.KnownBytes.{Appends}
use Rattle.rq_standard.specs.declared.row.TableRow.{TableRow}
use Rattle.rq_streams.specs.declared.run.Stop.{Stop}
use Rattle.rq_streams.specs.declared.run.Stop.TheVariants.{Fault, Refused}
use Rattle.rq_cells.specs.declared.head.Head.{Head}
use Rattle.rq_cells.specs.declared.cell.Cell.{Cell}
use Rattle.rq_cells.specs.Cells.{Key}
use Rattle.rq_cast.specs.Received.{wish_over}
use Rattle.rq_guard.specs.declared.list.DigestList.{DigestList}
use Rattle.rq_guard.specs.declared.mending.Mending.{Mending}
use Rattle.rq_guard.specs.Checking.{IsFileDamage}
use Rattle.rq_guard.specs.ListReading.{ReadsLists}
use Rattle.rq_guard.specs.Mending.{HasMended, Mends, mended_parts, has_mended_last}
use Rattle.rq_guard.specs.Reading.{RepairsPart}
use Rattle.rq_guard.specs.StreamReading.{FindsFirst}
use Rattle.rq_guard_runs.specs.declared.findings.Findings.{Findings}
use Rattle.rq_guard_runs.specs.Found.{is_strange, is_whole_finding}
use Rattle.rq_devices.specs.Placed.{Contents, Files, IsEmpty}
use Rattle.rq_devices.specs.Spots.{Spots, AtFile, IsFinished, StandsBeside}

-- ---- what is found of a file

-- The lists of all parts of a stream, as what stands in a guard says them. There may be no stream.
abbrev pub HasListsOf : List TableRow → Key → Contents → Option Head → Option (List DigestList) → Type 0
HasListsOf table key guard None lists = lists ≡ None
HasListsOf table key guard (Some head) lists = (after : Contents) × ReadsLists table key head.stream guard after lists

-- The stream is that of the first cell.
pub record HasLists (table : List TableRow) (key : Key) (guard : Contents) (lists : Option (List DigestList)) : Type 0 where
  pub head : Option Head
  pub after : Contents
  pub first : FindsFirst (wish_over table key [] []) guard after head
  pub listed : HasListsOf table key guard head lists

-- What stands in a file is damaged so, by the lists of its guard. Where it isn't there it has no bytes.
pub record Finds (table : List TableRow) (key : Key) (file guard : Contents) (found : Findings) : Type 0 where
  pub listed : HasLists table key guard (Some found.lists.items)
  pub after : Contents
  pub damaged : IsFileDamage found.lists.items file after found.damage
  pub absent : found.is_there ≡ false → IsEmpty file

-- ---- a file is mended

-- Some first parts that are listed are mended and written, one behind another: each by what stands in its place in the file, and by the guard from its first
-- byte on.
abbrev pub RepairsFirst : List TableRow → Key → List DigestList → Contents → ℕ → Contents → Contents → Contents → Contents → Mending → Mending → Type 0
RepairsFirst table key lists guard zero file left there then old new = (left ≡ file) × (then ≡ there) × (new ≡ old)
RepairsFirst table key lists guard (suc n) file left there then old new =
    (mid : Contents) × (between : Contents) × (now : Mending) × RepairsFirst table key lists guard n file mid there between old now
    × (guard' : Contents) × RepairsPart table key lists mid left guard guard' between then now new true

-- So it is from before the first part on. What is written are the parts that the cells settle which were taken.
pub record MendsFirst (table : List TableRow) (key : Key) (lists : List DigestList) (file left guard there then : Contents) (now : Mending) : Type 0 where
  pub first : Mending
  pub none : (stream : List ℕ) → HasMended table stream [] [] first
  pub number : ℕ
  pub repairs : RepairsFirst table key lists guard number file left there then first now
  pub came : List Cell
  pub bytes : List ℕ
  pub mends : (stream : List ℕ) → Mends table stream came bytes (mended_parts now) (has_mended_last now)
  pub written : Appends there then bytes

-- The next one isn't determined.
abbrev pub StopsMending : List TableRow → Key → List DigestList → Contents → Contents → Contents → Contents → Mending → Type 0
StopsMending table key lists left guard front then now =
    (after : Contents) × (guard' : Contents) × (new : Mending) × RepairsPart table key lists left after guard guard' front then now new false

-- All that are listed are mended, and this says whether the last part is. Or one isn't.
abbrev pub EndsMending : List TableRow → Key → List DigestList → Contents → Contents → Contents → Contents → Mending → Bool → Type 0
EndsMending table key lists left guard front then now mended =
    ((then ≡ front) × (length lists ≤ mended_parts now) × (mended ≡ has_mended_last now))
    ⊎ ((mended ≡ false) × StopsMending table key lists left guard front then now)

-- A file is mended whole, or as far as can be.
pub record RepairsFile (table : List TableRow) (key : Key) (lists : List DigestList) (file guard there then : Contents) (mended : Bool) : Type 0 where
  pub left : Contents
  pub front : Contents
  pub now : Mending
  pub mends : MendsFirst table key lists file left guard there front now
  pub ends : EndsMending table key lists left guard front then now mended

-- ---- check

-- A file that isn't whole is mended to see whether it can be. What is written then is kept nowhere.
abbrev pub CanMend : List TableRow → Key → List DigestList → Contents → Contents → Bool → Bool → Type 0
CanMend table key lists file guard true mended = mended ≡ true
CanMend table key lists file guard false mended = RepairsFile table key lists file guard None None mended

-- what is found of a file, where the lists of all parts are there
abbrev pub Checks : List TableRow → Key → Contents → Contents → Option Findings → Type 0
Checks table key file guard None = HasLists table key guard None
Checks table key file guard (Some found) =
    Finds table key file guard found × CanMend table key found.lists.items file guard (is_whole_finding found) found.is_mended

-- ---- repair

-- A file is mended beside a place, by what then stands in it and in its guard, and put there where it is mended whole.
pub record Replaces (table : List TableRow) (key : Key) (lists : List DigestList) (file guard : Files → Contents) (place : List ℕ) (stands : Files)
    (blank : Spots) (old new : Spots) (mended : Bool) : Type 0 where
  pub standing : Files
  pub others : StandsBeside (AtFile place) stands standing
  pub written : Contents
  pub repairs : RepairsFile table key lists (file standing) (guard standing) (blank (AtFile place)) written mended
  pub put : IsFinished {D = Bool} (AtFile place) mended (Ok mended) written old new

-- A file stays as it is that is whole, or may be meant to be so, unless a place is named.
abbrev pub stays : Option (List ℕ) → Findings → Bool
stays None found = is_whole_finding found || is_strange found
stays (Some output) found = false

abbrev pub RepairsBy : Bool → List TableRow → Key → (Files → Contents) → (Files → Contents) → List ℕ → Files → Spots → Findings → Spots → Spots → Type 0
RepairsBy true table key file guard place stands blank found old new = (found.is_mended ≡ is_whole_finding found) × (new ≡ old)
RepairsBy false table key file guard place stands blank found old new =
    Replaces table key found.lists.items file guard place stands blank old new found.is_mended

-- what is found of a file, where the lists of all parts are there, and done in its place, or in another one that is said
abbrev pub Repairs : List TableRow → Key → (Files → Contents) → (Files → Contents) → List ℕ → Option (List ℕ) → Files → Spots → Option Findings → Spots
    → Spots → Type 0
Repairs table key file guard place said stands blank None old new = HasLists table key (guard stands) None × (new ≡ old)
Repairs table key file guard place said stands blank (Some found) old new =
    Finds table key (file stands) (guard stands) found
    × RepairsBy (stays said found) table key file guard (unwrap_or said place) stands blank found old new

-- ---- failed calls

-- all is mended
abbrev pub is_mended : Result Bool Stop → Bool
is_mended (Ok mended) = mended
is_mended (Err stop) = false

-- So many failed where a file was to be mended: one at most at what isn't mended whole, as it was taken away.
abbrev pub FailsMended : Bool → ℕ → Type 0
FailsMended true n = n ≡ 0
FailsMended false n = n ≤ 1

-- or some, where one stopped it
abbrev pub FailsMending : Result Bool Stop → ℕ → Type 0
FailsMending (Ok mended) n = FailsMended mended n
FailsMending (Err Fault) n = 0 < n
FailsMending (Err (Refused e)) n = ⊤

abbrev pub FailsRepaired : Option Findings → ℕ → Type 0
FailsRepaired None n = n ≡ 0
FailsRepaired (Some found) n = FailsMended found.is_mended n

abbrev pub FailsRepairing : Result (Option Findings) Stop → ℕ → Type 0
FailsRepairing (Ok found) n = FailsRepaired found n
FailsRepairing (Err Fault) n = 0 < n
FailsRepairing (Err (Refused e)) n = ⊤
