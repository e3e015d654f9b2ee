-- What the program does, from its words to its end.
use Rattle.std.specs.Prelude.{◌≡◌, ◌⊎◌, ⊤, Bool, true, false, ℕ, ◌+◌, ◌<◌, ◌≤◌, List, [], ◌∷◌, length, Option, Some, None, Result, Ok, Err, map, option_map, IfSome}
use Rattle.std.specs.Fmt.{option_append}
use Rattle.clap.specs.Values.{kind_of}
use Rattle.rq_bytes.specs.declared.error.Error.TheVariants.{OutOfMemory}
use Rattle.rq_standard.specs.declared.row.TableRow.{TableRow}
use Rattle.rq_tables.specs.SystematicTable.{wanted_table}
use Rattle.rq_rows.specs.declared.further_rows.TheConstants.{FURTHER_ROWS}
use Rattle.rq_streams.specs.declared.run.Stop.{Stop}
use Rattle.rq_streams.specs.declared.run.Stop.TheVariants.{Fault, Refused}
use Rattle.rq_cast.specs.declared.halt.Halt.{Halt}
use Rattle.rq_cast.specs.declared.halt.Halt.TheVariants.{By, Changed as Differs}
use Rattle.rq_cast.specs.declared.order.Order.{Order}
use Rattle.rq_cast.specs.declared.seen.Seen.{Seen}
use Rattle.rq_cast.specs.declared.run.Ending.{Ending}
use Rattle.rq_cast.specs.declared.run.Ending.TheVariants.{Incomplete, Written}
use Rattle.rq_cast.specs.declared.survey.Standing.{Standing}
use Rattle.rq_cast.specs.declared.stream_sending.Sent.{Sent as SentParts}
use Rattle.rq_cast.specs.Preparing.{RefusesParts}
use Rattle.rq_cast.specs.Received.{EndsReceiving, is_given_up, wish_over}
use Rattle.rq_cells.specs.Cells.{Key}
use Rattle.rq_cast.specs.Searching.{counted}
use Rattle.rq_cast.specs.SentParts.{halted_calls}
use Rattle.rq_cast.specs.Surveyed.{IsSurvey}
use Rattle.rq_words.specs.declared.values.TheConstants.{WIDEST_WINDOW}
use Rattle.rq_words.specs.declared.jobs.Job.{Job}
use Rattle.rq_words.specs.declared.jobs.Job.TheVariants.{Send, Receive, Follow, Info, Protect, Check, Repair, Split, Join}
use Rattle.rq_words.specs.declared.jobs.SendJob.{SendJob}
use Rattle.rq_words.specs.declared.jobs.ReceiveJob.{ReceiveJob}
use Rattle.rq_words.specs.declared.jobs.CheckJob.{CheckJob}
use Rattle.rq_words.specs.declared.jobs.RepairJob.{RepairJob}
use Rattle.rq_command.specs.declared.ending.End.{End}
use Rattle.rq_command.specs.declared.ending.End.TheVariants.{Unasked, AtTerminal, EmptyKey, Sent, Changed, Received, Followed, Surveyed, Checked, Repaired, Stopped}
use Rattle.rq_command.specs.Guarding.{EndsProtecting, ByKey}
use Rattle.rq_devices.specs.Placed.{Contents, Files, guard_name}
use Rattle.rq_guard_runs.specs.Guards.{Checks, Repairs, FailsRepaired}
use Rattle.rq_words.specs.Asked.{AsksFor, IsRefused}
use Rattle.rq_words.specs.Values.{times_of}
use Rattle.rq_devices.specs.Failed.{Fails, StopsReading}
use Rattle.rq_command.specs.Following.{FollowsAll}
use Rattle.rq_devices.specs.Folder.{Folder, IsFiled, KeepsBut}
use Rattle.rq_devices.specs.Keyed.{HasKey, IsEmptyKey, IsKeyOf, key_file}
use Rattle.rq_command.specs.Outside.{Outside}
use Rattle.rq_command.specs.Placed.{is_whole}
use Rattle.rq_devices.specs.Spots.{Spot, Spots, OnOutput, AtFile, InFolder, IsFinished, output_spot}
use Rattle.rq_command.specs.Rounds.{SendsRounds, StopsRounds}
use Rattle.rq_command.specs.Splitting.{EndsSplitting}

-- ---- sending

-- the parts of an input of so many bytes are refused, before one is read
abbrev pub RefusesLength : Order → ℕ → Stop → Type 0
RefusesLength order length_of_input Fault = ⊥
RefusesLength order length_of_input (Refused e) = RefusesParts order length_of_input e

-- or there is a key, and the parts of the input are refused
abbrev pub StopsUnsent : Order → Option Contents → Contents → Stop → Type 0
StopsUnsent order file input stop = StopsReading stop ⊎ (HasKey file × IfSome input (λ bytes. RefusesLength order (length bytes) stop))

-- All that is read is sent by the key of a file in so many rounds, but for cells whose calls lost them.
pub record SendsAll (order : Order) (rounds : ℕ) (file : Option Contents) (input : Contents) (outside : Outside) (blank new : Contents) (sent : SentParts) : Type 0 where
  pub key : Key
  pub keyed : IsKeyOf file key
  pub sends : SendsRounds order key rounds input outside.told outside.told_behind blank new sent

-- Some first rounds are, some first parts of the next one, and of the next part what could be. The calls that failed are those that lost a cell, the one that
-- stopped it, and perhaps one at its end.
pub record SendsSome (order : Order) (rounds : ℕ) (file : Option Contents) (input : Contents) (outside : Outside) (blank new : Contents) (halt : Halt) : Type 0 where
  pub key : Key
  pub keyed : IsKeyOf file key
  pub lost : ℕ
  pub stops : StopsRounds order key rounds input outside.told outside.told_behind blank new halt lost
  pub at_end : ℕ
  pub once : at_end ≤ 1
  pub failed : Fails outside.failed outside.failed_behind (lost + halted_calls halt + at_end)

-- All are sent, and a call failed at the end, beside those that lost a cell.
pub record StopsAtEnd (order : Order) (rounds : ℕ) (file : Option Contents) (input : Contents) (outside : Outside) (blank new : Contents) (stop : Stop) : Type 0 where
  pub fault : stop ≡ Fault
  pub sent : SentParts
  pub all : SendsAll order rounds file input outside blank new sent
  pub lost : ℕ
  pub lost_are : sent.lost ≡ counted lost
  pub failed : Fails outside.failed outside.failed_behind (lost + 1)

-- Nothing was written, and no call told that begins a cell.
abbrev pub SendsNothing : Outside → Spots → Spots → Type 0
SendsNothing outside old new = (new ≡ old) × (outside.told_behind ≡ outside.told)

-- Nothing is sent, or some first parts are; or all are, and a call failed at the end.
abbrev pub StopsSending : Order → ℕ → Option Contents → Contents → Outside → Contents → Stop → Spots → Spots → Type 0
StopsSending order rounds file input outside blank stop old new =
    (SendsNothing outside old new × StopsUnsent order file input stop)
    ⊎ ((SendsSome order rounds file input outside blank (new OnOutput) (By stop) ⊎ StopsAtEnd order rounds file input outside blank (new OnOutput) stop)
    × KeepsBut OnOutput old new)

-- a run ended since its cells would have gone to a terminal
abbrev pub is_at_terminal : End → Bool
is_at_terminal AtTerminal = true
is_at_terminal _ = false

-- It ended so exactly where they would have, where that is known.
abbrev pub MindsTerminal : Option Bool → End → Type 0
MindsTerminal terminal ended = IfSome terminal (λ is. is ≡ is_at_terminal ended)

-- How a run ends that sends what is read by the key of a file, in so many rounds. Nothing is read where its cells would go to a terminal, and nothing but the key
-- where that is empty.
abbrev pub EndsSend : Order → ℕ → Option Contents → Contents → Outside → Contents → End → Spots → Spots → Type 0
EndsSend order rounds file input outside blank AtTerminal old new = SendsNothing outside old new
EndsSend order rounds file input outside blank EmptyKey old new = IsEmptyKey file × SendsNothing outside old new
EndsSend order rounds file input outside blank (Sent sent) old new =
    SendsAll order rounds file input outside blank (new OnOutput) sent × KeepsBut OnOutput old new
EndsSend order rounds file input outside blank (Changed part) old new =
    SendsSome order rounds file input outside blank (new OnOutput) (Differs part) × KeepsBut OnOutput old new
EndsSend order rounds file input outside blank (Stopped stop) old new = StopsSending order rounds file input outside blank stop old new
EndsSend order rounds file input outside blank _ old new = ⊥

-- ---- receiving

-- what is read: what earlier runs kept, where there is a file for that, and then the rest
abbrev pub read_behind : Option (List ℕ) → Folder → Contents → Contents
read_behind None earlier rest = rest
read_behind (Some state) earlier rest = option_append (earlier state) rest

-- What is kept of a stream is taken away where that is whole and in its place, and only then: as much is kept there as a new writer holds.
abbrev pub Forgets : Spots → Option (List ℕ) → Result Ending Stop → Folder → Folder → Type 0
Forgets blank (Some state) (Ok (Written stream)) old new = IsFiled state (blank (AtFile state)) old new
Forgets blank _ result old new = new ≡ old

-- A fault may come as it is.
abbrev pub EndsForgetting : Option (List ℕ) → Result Ending Stop → Result Ending Stop → Type 0
EndsForgetting None put result = put ≡ result
EndsForgetting (Some state) put result = (put ≡ result) ⊎ ((is_whole put ≡ true) × (result ≡ Err Fault))

-- A run over all rows ends so that takes the cells made by the key, and this is what it wrote. A fault may come when all is written, as it is put in its place,
-- and then as what was kept of it is taken away.
pub record Receives (name : List ℕ) (passed : List (List ℕ)) (window : ℕ) (file : Option Contents) (spot : Spot) (state : Option (List ℕ))
    (result : Result Ending Stop) (seen : Seen) (input : Contents) (outside : Outside) (blank old new : Spots) : Type 0 where
  pub key : Key
  pub keyed : IsKeyOf file key
  pub table : List TableRow
  pub rows : wanted_table FURTHER_ROWS ≡ Ok table
  pub after : Contents
  pub last : List ℕ
  pub written : Contents
  pub ended : Result Ending Stop
  pub ends : EndsReceiving table (wish_over table key name passed) window ended seen (read_behind state outside.earlier input) after last (blank spot) written
  pub patient : is_given_up ended ≡ false
  pub put : Result Ending Stop
  pub same : (ended ≡ put) ⊎ ((is_whole ended ≡ true) × (put ≡ Err Fault))
  pub placed : IsFinished spot (is_whole ended) put written old new
  pub behind : EndsForgetting state put result
  pub forgets : Forgets blank state result outside.earlier outside.earlier_behind

-- a call failed, memory is refused, or there is no table of all rows
abbrev pub StopsBefore : Stop → Type 0
StopsBefore Fault = ⊤
StopsBefore (Refused e) = (e ≡ OutOfMemory) ⊎ (wanted_table FURTHER_ROWS ≡ Err e)

abbrev pub EndsReceive : List ℕ → List (List ℕ) → ℕ → Option Contents → Spot → Option (List ℕ) → Contents → Outside → Spots → End → Spots → Spots → Type 0
EndsReceive name passed window file spot state input outside blank EmptyKey old new =
    IsEmptyKey file × (new ≡ old) × (outside.earlier_behind ≡ outside.earlier)
EndsReceive name passed window file spot state input outside blank (Received result seen) old new =
    Receives name passed window file spot state result seen input outside blank old new
EndsReceive name passed window file spot state input outside blank (Stopped stop) old new =
    StopsBefore stop × (new ≡ old) × (outside.earlier_behind ≡ outside.earlier)
EndsReceive name passed window file spot state input outside blank _ old new = ⊥

-- Where the key is empty, or the run is stopped before the first read, the folder is as it was.
abbrev pub EndsFollow : List (List ℕ) → ℕ → Option ℕ → Option Contents → Contents → Contents → End → Folder → Folder → Type 0
EndsFollow passed window timeout file input blank EmptyKey old new = IsEmptyKey file × (new ≡ old)
EndsFollow passed window timeout file input blank (Followed streams last seen) old new = FollowsAll file passed window timeout streams last seen input blank old new
EndsFollow passed window timeout file input blank (Stopped stop) old new = StopsBefore stop × (new ≡ old)
EndsFollow passed window timeout file input blank _ old new = ⊥

-- ---- listing

-- The streams whose cells, made by the key, stand among the bytes, over all rows and by the widest window.
pub record Lists (file : Option Contents) (bytes : List ℕ) (standings : List Standing) : Type 0 where
  pub key : Key
  pub keyed : IsKeyOf file key
  pub table : List TableRow
  pub rows : wanted_table FURTHER_ROWS ≡ Ok table
  pub survey : IsSurvey table key WIDEST_WINDOW bytes standings

abbrev pub EndsInfo : Option Contents → Contents → End → Spots → Spots → Type 0
EndsInfo file input EmptyKey old new = IsEmptyKey file × (new ≡ old)
EndsInfo file input (Surveyed standings) old new = (new ≡ old) × IfSome input (λ bytes. Lists file bytes standings.items)
EndsInfo file input (Stopped stop) old new = StopsBefore stop × (new ≡ old)
EndsInfo file input _ old new = ⊥

-- ---- a file beside its guard

-- What is found of a file by its guard. Nothing is put anywhere.
abbrev pub EndsCheck : Option Contents → Contents → Contents → End → Spots → Spots → Type 0
EndsCheck key file guard EmptyKey old new = IsEmptyKey key × (new ≡ old)
EndsCheck key file guard (Checked found) old new = ByKey key (λ table k. Checks table k file guard found) × (new ≡ old)
EndsCheck key file guard (Stopped stop) old new = StopsBefore stop × (new ≡ old)
EndsCheck key file guard _ old new = ⊥

-- What is found of it, and that it is mended, in its place or another one. Where that isn't done whole, its place is as it was.
abbrev pub EndsRepair : Option Contents → List ℕ → List ℕ → Option (List ℕ) → Files → Spots → End → Spots → Spots → Type 0
EndsRepair key file guard said stands blank EmptyKey old new = IsEmptyKey key × (new ≡ old)
EndsRepair key file guard said stands blank (Repaired found) old new =
    ByKey key (λ table k. Repairs table k (λ s. s (file ∷ [])) (λ s. s (guard ∷ [])) file said stands blank found old new)
EndsRepair key file guard said stands blank (Stopped stop) old new = StopsBefore stop × (new ≡ old)
EndsRepair key file guard said stands blank _ old new = ⊥

-- ---- jobs

-- This stops a job before anything is sent, by what stands in files.
abbrev pub StopsJob : SendJob → (List (List ℕ) → Contents) → Stop → Type 0
StopsJob job stands stop = StopsUnsent job.order (key_file stands (option_map (λ s. s.now) job.key)) (stands (map (λ s. s.now) job.files.items)) stop

-- how a run ends that something may stop
abbrev pub end_of : Result End Stop → End
end_of (Ok ended) = ended
end_of (Err stop) = Stopped stop

-- What is known beside it, what stands in files, by their names, what a new writer holds, and what stands where is written before and after.
abbrev pub EndsSending : SendJob → Outside → (List (List ℕ) → Contents) → Spots → End → Spots → Spots → Type 0
EndsSending job outside stands blank ended old new =
    EndsSend job.order (times_of job.rounds) (key_file stands (option_map (λ s. s.now) job.key)) (stands (map (λ s. s.now) job.files.items)) outside
    (blank OnOutput) ended old new

abbrev pub EndsReceiveJob : ReceiveJob → Outside → Files → Spots → End → Spots → Spots → Type 0
EndsReceiveJob job outside stands blank ended old new =
    EndsReceive job.name.items (map (λ v. v.items) job.passed.items) job.window (key_file stands (option_map (λ s. s.now) job.key))
    (output_spot (option_map (λ s. s.now) job.output)) (option_map (λ s. s.now) job.state) (stands (map (λ s. s.now) job.files.items)) outside blank ended
    old new

abbrev pub EndsChecking : CheckJob → Files → End → Spots → Spots → Type 0
EndsChecking job stands ended old new =
    let guard = guard_name job.file.now (option_map (λ s. s.now) job.guard) in
    EndsCheck (key_file stands (option_map (λ s. s.now) job.key)) (stands (job.file.now ∷ [])) (stands (guard ∷ [])) ended old new

abbrev pub EndsRepairing : RepairJob → Files → Spots → End → Spots → Spots → Type 0
EndsRepairing job stands blank ended old new =
    let guard = guard_name job.file.now (option_map (λ s. s.now) job.guard) in
    EndsRepair (key_file stands (option_map (λ s. s.now) job.key)) job.file.now guard (option_map (λ s. s.now) job.output) stands blank ended old new

-- What earlier runs kept of their input is as it was.
abbrev pub LeavesEarlier : Outside → Type 0
LeavesEarlier outside = outside.earlier_behind ≡ outside.earlier

-- The same, and what a folder holds before and after. A run that looks through files leaves them as they are.
abbrev pub EndsJob : Job → Outside → (List (List ℕ) → Contents) → Spots → End → Spots → Spots → Folder → Folder → Type 0
EndsJob (Send job) outside stands blank ended old new held held' =
    MindsTerminal outside.terminal ended × EndsSending job outside stands blank ended old new × (held' ≡ held) × LeavesEarlier outside
EndsJob (Receive job) outside stands blank ended old new held held' = EndsReceiveJob job outside stands blank ended old new × (held' ≡ held)
EndsJob (Follow job) outside stands blank ended old new held held' =
    EndsFollow (map (λ v. v.items) job.passed.items) job.window job.timeout (key_file stands (option_map (λ s. s.now) job.key)) (stands (map (λ s. s.now) job.files.items))
    (blank (InFolder job.folder.now)) ended held held'
    × (new ≡ old) × LeavesEarlier outside
EndsJob (Info job) outside stands blank ended old new held held' =
    EndsInfo (key_file stands (option_map (λ s. s.now) job.key)) (stands (map (λ s. s.now) job.files.items)) ended old new × (held' ≡ held)
    × LeavesEarlier outside × (outside.stands_behind ≡ stands)
EndsJob (Protect job) outside stands blank ended old new held held' =
    EndsProtecting job stands blank ended old new × (held' ≡ held) × LeavesEarlier outside
EndsJob (Check job) outside stands blank ended old new held held' =
    EndsChecking job stands ended old new × (held' ≡ held) × LeavesEarlier outside × (outside.stands_behind ≡ stands)
EndsJob (Repair job) outside stands blank ended old new held held' =
    EndsRepairing job stands blank ended old new × (held' ≡ held) × LeavesEarlier outside
EndsJob (Split job) outside stands blank ended old new held held' =
    EndsSplitting job stands blank ended old new × (held' ≡ held) × LeavesEarlier outside
EndsJob (Join job) outside stands blank ended old new held held' = EndsReceiveJob job outside stands blank ended old new × (held' ≡ held)

-- What the words ask for is done. Where they are refused, nothing is.
abbrev pub Does : List (List ℕ) → Outside → (List (List ℕ) → Contents) → Spots → End → Spots → Spots → Folder → Folder → Type 0
Does words outside stands blank (Unasked e) old new held held' =
    IsRefused words (kind_of e) × (new ≡ old) × (held' ≡ held) × LeavesEarlier outside × (outside.stands_behind ≡ stands)
Does words outside stands blank ended old new held held' = (job : Job) × AsksFor words job × EndsJob job outside stands blank ended old new held held'

-- ---- failed calls

-- So many calls failed in a run that received so: one that ended it, and one at most at what isn't whole, as it was taken away.
abbrev pub FailsReceiving : Result Ending Stop → ℕ → Type 0
FailsReceiving (Ok (Incomplete number missing)) n = n ≤ 1
FailsReceiving (Ok _) n = n ≡ 0
FailsReceiving (Err Fault) n = 0 < n
FailsReceiving (Err (Refused e)) n = n ≤ 1

-- So many failed in a run that ended so. A lost cell is one, and cells may be lost before memory is refused, or before what is read has changed.
abbrev pub FailsIn : End → ℕ → Type 0
FailsIn (Sent sent) n = sent.lost ≡ counted n
FailsIn (Changed part) n = ⊤
FailsIn (Received result seen) n = FailsReceiving result n
FailsIn (Followed streams last seen) n = FailsReceiving last n
FailsIn (Repaired found) n = FailsRepaired found n
FailsIn (Stopped Fault) n = 0 < n
FailsIn (Stopped (Refused e)) n = ⊤
FailsIn _ n = n ≡ 0

-- that many of the devices' calls
abbrev pub Failures : End → Option ℕ → Option ℕ → Type 0
Failures ended old new = (n : ℕ) × Fails old new n × FailsIn ended n
