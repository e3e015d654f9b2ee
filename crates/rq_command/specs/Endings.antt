-- The status that the program ends with.
use Rattle.std.specs.Prelude.{ℕ, ◌/◌, ◌==◌, ◌&&◌, not, Bool, true, false, Option, Some, None, List, [], ◌∷◌, Result, Ok, Err, nat_le, nat_lt, if◌then◌else◌}
use Rattle.clap.specs.Values.{kind_of}
use Rattle.clap.specs.declared.error.kind.ErrorKind.{ErrorKind}
use Rattle.clap.specs.declared.error.kind.ErrorKind.TheVariants as kind
use Rattle.rq_bytes.specs.declared.error.Error.{Error}
use Rattle.rq_bytes.specs.declared.error.Error.TheVariants as refusal
use Rattle.rq_streams.specs.declared.run.Stop.{Stop}
use Rattle.rq_streams.specs.declared.run.Stop.TheVariants.{Fault, Refused}
use Rattle.rq_cast.specs.declared.run.Ending.{Ending}
use Rattle.rq_cast.specs.declared.run.Ending.TheVariants.{Written, Incomplete, GivenUp}
use Rattle.rq_cast.specs.declared.seen.Seen.{Seen}
use Rattle.rq_cast.specs.declared.survey.Standing.{Standing}
use Rattle.rq_guard_runs.specs.declared.findings.Findings.{Findings}
use Rattle.rq_guard_runs.specs.Found.{is_strange, is_whole_finding}
use Rattle.rq_command.specs.declared.ending.End.{End}
use Rattle.rq_command.specs.declared.ending.End.TheVariants.{Unasked, AtTerminal, EmptyKey, Sent, Changed, Received, Followed, Surveyed, Protected, Checked, Repaired, Stopped}
use Rattle.rq_command.specs.declared.ending.Streams.{Streams}

-- of words that ask for no job
abbrev pub word_status : ErrorKind → ℕ
word_status kind.DisplayHelp = 0
word_status kind.DisplayVersion = 0
word_status kind.OutOfMemory = 1
word_status _ = 64

abbrev pub ending_status : Ending → ℕ
ending_status (Written stream) = 0
ending_status (Incomplete parts missing) = 2
ending_status (GivenUp stream parts missing) = 2

-- memory that is refused is a fault of the system
abbrev pub refusal_status : Error → ℕ
refusal_status refusal.OutOfMemory = 1
refusal_status _ = 3

abbrev pub stop_status : Stop → ℕ
stop_status Fault = 1
stop_status (Refused e) = refusal_status e

-- how many of so many cells are refused where nobody listens: each second one, at which the one before is said to be lost
abbrev pub most_refused : ℕ → ℕ
most_refused cells = cells / 2

-- as many are, and some
abbrev pub all_lost : ℕ → ℕ → Bool
all_lost cells lost = nat_lt 0 lost && nat_le (most_refused cells) lost

-- all were lost, or not: of small parts a share may be empty
abbrev pub sent_status : ℕ → ℕ → ℕ
sent_status cells lost = if all_lost cells lost then 1 else 0

-- nothing that was looked for is there
abbrev pub survey_status : List Standing → ℕ
survey_status [] = 2
survey_status (standing ∷ others) = 0

-- A stream was whole, none was given up, and no cell came of a further one.
abbrev pub is_done : Streams → Seen → Bool
is_done streams seen = nat_lt 0 streams.whole && (streams.given_up == 0) && (seen.cells == 0)

-- of streams that were taken one after another
abbrev pub following_status : Streams → Result Ending Stop → Seen → ℕ
following_status streams (Ok (Incomplete parts missing)) seen = if is_done streams seen then 0 else 2
following_status streams (Ok ending) seen = ending_status ending
following_status streams (Err stop) seen = stop_status stop

-- of a file that was looked through, and of one that was to be mended
abbrev pub checked_by : Bool → Bool → ℕ
checked_by true mended = 0
checked_by false true = 3
checked_by false false = 2

abbrev pub checked_status : Option Findings → ℕ
checked_status None = 2
checked_status (Some found) = checked_by (is_whole_finding found) (found.is_mended && not (is_strange found))

abbrev pub repaired_status : Option Findings → ℕ
repaired_status None = 2
repaired_status (Some found) = if found.is_mended then 0 else 2

abbrev pub status_of : End → ℕ
status_of (Unasked e) = word_status (kind_of e)
status_of AtTerminal = 64
status_of EmptyKey = 64
status_of (Sent sent) = sent_status sent.cells sent.lost
status_of (Changed part) = 1
status_of (Received (Ok ending) seen) = ending_status ending
status_of (Received (Err stop) seen) = stop_status stop
status_of (Followed streams last seen) = following_status streams last seen
status_of (Surveyed standings) = survey_status standings.items
status_of (Protected made) = 0
status_of (Checked found) = checked_status found
status_of (Repaired found) = repaired_status found
status_of (Stopped stop) = stop_status stop
