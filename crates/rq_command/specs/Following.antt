-- One stream after another, each in a file that is named by it.
use Rattle.std.specs.Prelude.{◌≡◌, ℕ, ◌-◌, ◌^◌, List, [], ◌∷◌, ◌++◌, length, take, map, ◌+◌, Result, Ok, Err, Option, Some, None, IfNone}
use Rattle.std.specs.Io.KnownBytes.{prepend_known}
use Rattle.rq_standard.specs.declared.row.TableRow.{TableRow}
use Rattle.rq_tables.specs.SystematicTable.{wanted_table}
use Rattle.rq_rows.specs.declared.further_rows.TheConstants.{FURTHER_ROWS}
use Rattle.rq_streams.specs.declared.run.Stop.{Stop}
use Rattle.rq_cells.specs.Cells.{Key}
use Rattle.rq_cells.specs.Wanted.{Wish}
use Rattle.rq_cast.specs.declared.seen.Seen.{Seen}
use Rattle.rq_cast.specs.declared.run.Ending.{Ending}
use Rattle.rq_cast.specs.declared.run.Ending.TheVariants.{Written, Incomplete, GivenUp}
use Rattle.rq_cast.specs.Received.{EndsReceiving, wish_over}
use Rattle.rq_command.specs.declared.ending.Streams.{Streams}
use Rattle.rq_devices.specs.Failed.{StopsReading}
use Rattle.rq_devices.specs.Folder.{Folder, IsFiled}
use Rattle.rq_devices.specs.Keyed.{IsKeyOf}
use Rattle.rq_devices.specs.Placed.{Contents}

-- ---- a folder

-- What is all written is put there under its name, and only then.
abbrev pub FiledBy : Result Ending Stop → Contents → Folder → Folder → Type 0
FiledBy (Ok (Written stream)) written old new = IsFiled stream written old new
FiledBy _ written old new = new ≡ old

-- ---- streams

-- How a run ends over what isn't read yet, whose last read brought these bytes: a stream stands under its name where it is whole, and only then.
abbrev pub EndsOne : List TableRow → Wish → ℕ → Contents → Result Ending Stop → Seen → Contents → Contents → List ℕ → Folder → Folder → Type 0
EndsOne table w width blank (Ok (Written stream)) seen left after came old new =
    (written : Contents) × EndsReceiving table w width (Ok (Written stream)) seen left after came blank written × IsFiled stream written old new
EndsOne table w width blank (Ok (Incomplete number missing)) seen left after came old new =
    (written : Contents) × EndsReceiving table w width (Ok (Incomplete number missing)) seen left after came blank written × (new ≡ old)
EndsOne table w width blank (Ok (GivenUp stream number missing)) seen left after came old new =
    (written : Contents) × EndsReceiving table w width (Ok (GivenUp stream number missing)) seen left after came blank written × (new ≡ old)
EndsOne table w width blank (Err stop) seen left after came old new = StopsReading stop × (new ≡ old)

-- the stream that ends so, and how, where another one may begin behind it: it is whole, or given up
abbrev pub over : Result Ending Stop → Option (Ending × List ℕ)
over (Ok (Written stream)) = Some (Written stream, stream)
over (Ok (GivenUp stream number missing)) = Some (GivenUp stream number missing, stream)
over _ = None

-- which one that is
abbrev pub name_of : Ending → List ℕ
name_of (Written stream) = stream
name_of (GivenUp stream number missing) = stream
name_of (Incomplete number missing) = []

-- one stream more that ends so
abbrev pub with_one : Streams → Ending → Streams
with_one streams (Written stream) = record streams { whole = streams.whole + 1 }
with_one streams (GivenUp stream number missing) = record streams { given_up = streams.given_up + 1 }
with_one streams (Incomplete number missing) = streams

-- how many are whole, and how many given up
abbrev pub counts : List Ending → Streams
counts [] = record { whole = 0; given_up = 0 }
counts (ending ∷ earlier) = with_one (counts earlier) ending

-- Those are wanted that are none of the last eight, and aren't passed over.
abbrev pub wish_behind : List TableRow → Key → List (List ℕ) → List Ending → Wish
wish_behind table key passed earlier = wish_over table key [] (take 8 (map name_of earlier) ++ passed)

-- behind one more stream, where these and then others were passed over
abbrev pub PassesOver : ℕ → List (List ℕ) → List ℕ → List (List ℕ) → Type 0
PassesOver whole old stream new =
    (streams others : List (List ℕ)) → length streams ≡ whole → old ≡ take 8 streams ++ others → new ≡ take 8 (stream ∷ streams) ++ others

-- One stream behind these. What its last read brought is read again.
pub record FollowsOne (table : List TableRow) (key : Key) (passed : List (List ℕ)) (width : ℕ) (blank : Contents) (earlier : List Ending) (ending : Ending)
    (left left' : Contents) (old new : Folder) : Type 0 where
  pub seen : Seen
  pub after : Contents
  pub came : List ℕ
  pub is_over : over (Ok ending) ≡ Some (ending, name_of ending)
  pub ends : EndsOne table (wish_behind table key passed earlier) width blank (Ok ending) seen left after came old new
  pub again : left' ≡ prepend_known came after

-- Streams that end so, the last one first, one behind another.
abbrev pub Follows : List TableRow → Key → List (List ℕ) → ℕ → Contents → List Ending → Contents → Contents → Folder → Folder → Type 0
Follows table key passed width blank [] left left' old new = (left' ≡ left) × (new ≡ old)
Follows table key passed width blank (ending ∷ earlier) left left' old new =
    (mid : Contents) × (between : Folder) × Follows table key passed width blank earlier left mid old between
    × FollowsOne table key passed width blank earlier ending mid left' between new

-- How the run behind them ends, which is no whole stream's, but where no more can be counted.
abbrev pub EndsBehind : List TableRow → Key → List (List ℕ) → ℕ → Contents → List Ending → Result Ending Stop → Seen → Contents → Type 0
EndsBehind table key passed width blank streams (Ok (Written stream)) seen left = length streams ≡ 2 ^ 64 - 1
EndsBehind table key passed width blank streams (Ok (Incomplete number missing)) seen left =
    (after : Contents) × (came : List ℕ) × (written : Contents)
    × EndsReceiving table (wish_behind table key passed streams) width (Ok (Incomplete number missing)) seen left after came blank written
EndsBehind table key passed width blank streams (Ok (GivenUp stream number missing)) seen left = ⊥
EndsBehind table key passed width blank streams (Err stop) seen left = StopsReading stop

-- So many streams are whole and so many given up, none where no timeout is said, and how the run behind them ends.
pub record FollowsUpTo (table : List TableRow) (key : Key) (passed : List (List ℕ)) (width : ℕ) (timeout : Option ℕ) (blank input : Contents) (streams : Streams)
    (last : Result Ending Stop) (seen : Seen) (old new : Folder) : Type 0 where
  pub endings : List Ending
  pub count : streams ≡ counts endings
  pub patient : IfNone timeout (streams.given_up ≡ 0)
  pub left : Contents
  pub follows : Follows table key passed width blank endings input left old new
  pub ends : EndsBehind table key passed width blank endings last seen left

-- The streams of an input, over all rows, as far as they are whole or given up, and how the run behind them ends.
pub record FollowsAll (file : Option Contents) (passed : List (List ℕ)) (width : ℕ) (timeout : Option ℕ) (streams : Streams) (last : Result Ending Stop) (seen : Seen) (input blank : Contents)
    (old new : Folder) : Type 0 where
  pub key : Key
  pub keyed : IsKeyOf file key
  pub table : List TableRow
  pub rows : wanted_table FURTHER_ROWS ≡ Ok table
  pub by : FollowsUpTo table key passed width timeout blank input streams last seen old new
