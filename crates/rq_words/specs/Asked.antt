-- What the program's words ask for, and how they are refused.
use Rattle.std.specs.Prelude.{◌≡◌, ◌⊎◌, ⊤, ℕ, ◌+◌, ◌<◌, List, [], ◌∷◌, Option, Some, None, Result, Ok, Err, map, option_map, codes, Bool, true, false, if◌then◌else◌, nat_lt, length, bytes_eq}
use Rattle.clap.specs.Words.{IsAmong, Kinds, Row, first_of}
use Rattle.clap.specs.Kinds.{or_else}
use Rattle.clap.specs.declared.error.kind.ErrorKind.{ErrorKind}
use Rattle.clap.specs.declared.error.kind.ErrorKind.TheVariants.{ArgumentConflict, MissingRequiredArgument, MissingSubcommand, OutOfMemory, ValueValidation}
use Rattle.rq_cast.specs.declared.order.Ids.{Ids}
use Rattle.rq_cast.specs.declared.order.Order.{Order}
use Rattle.rq_cast.specs.declared.series.Repair.{Repair}
use Rattle.rq_cast.specs.declared.series.Repair.TheVariants.{Against}
use Rattle.rq_cast.specs.declared.shares.Shares.{Shares}
use Rattle.rq_options.specs.declared.matches.Verb.{Verb}
use Rattle.rq_options.specs.declared.matches.Verb.TheVariants as verb
use Rattle.rq_options.specs.declared.misuse.Misuse.{Misuse}
use Rattle.rq_options.specs.Definition.{faults_of}
use Rattle.rq_options.specs.Options.{is_flagged, misuse_kind, text_or, texts_of, verb_used}
use Rattle.rq_words.specs.declared.jobs.Rounds.{Rounds}
use Rattle.rq_words.specs.declared.jobs.Rounds.TheVariants.{Times}
use Rattle.rq_words.specs.declared.jobs.Telling.{Telling}
use Rattle.rq_words.specs.declared.jobs.Telling.TheVariants.{Usual, Quiet, Progress, Json}
use Rattle.rq_words.specs.declared.jobs.SendJob.{SendJob}
use Rattle.rq_words.specs.declared.jobs.ReceiveJob.{ReceiveJob}
use Rattle.rq_words.specs.declared.jobs.FollowJob.{FollowJob}
use Rattle.rq_words.specs.declared.jobs.InfoJob.{InfoJob}
use Rattle.rq_words.specs.declared.jobs.Job.{Job}
use Rattle.rq_words.specs.declared.jobs.ProtectJob.{ProtectJob}
use Rattle.rq_words.specs.declared.jobs.CheckJob.{CheckJob}
use Rattle.rq_words.specs.declared.jobs.RepairJob.{RepairJob}
use Rattle.rq_words.specs.declared.jobs.SplitJob.{SplitJob}
use Rattle.rq_words.specs.declared.values.TheConstants.{WIDEST_WINDOW}
use Rattle.rq_words.specs.declared.jobs.Job.TheVariants.{Send, Receive, Follow, Info, Protect, Check, Repair as Mend, Split, Join}
use Rattle.rq_words.specs.Values.{part_of, guarded_part_of, window_of, symbol_size_of, loss_of, repair_of, rounds_of, times_of, rate_of, id_of, share_of, name_of, timeout_of, shards_of}

-- What is asked for, or the kind of its refusal: the first one in the order in which the options are read.
abbrev pub Asked : Type 0 → Type 0
Asked X = Result X ErrorKind

-- that of an answer
abbrev pub asked : {X : Type 0} → Result X Misuse → Asked X
asked (Ok x) = Ok x
asked (Err misuse) = Err (misuse_kind misuse)

-- what a text says, where it says anything
abbrev pub valued : {X : Type 0} → Option X → Asked X
valued None = Err ValueValidation
valued (Some x) = Ok x

-- the next one, where this isn't refused
abbrev pub and_then : {X Y : Type 0} → Asked X → (X → Asked Y) → Asked Y
and_then (Ok x) next = next x
and_then (Err kind) next = Err kind

-- one and the other, of which the first is refused first
abbrev pub both : {X Y : Type 0} → Asked X → Asked Y → Asked (X × Y)
both (Err kind) other = Err kind
both (Ok x) (Err kind) = Err kind
both (Ok x) (Ok y) = Ok (x, y)

-- ---- send

unfoldable pub part_asked : List Row → Asked ℕ
part_asked rows = valued (part_of (text_or rows (codes "part") []))

unfoldable pub symbol_size_asked : List Row → Asked ℕ
symbol_size_asked rows = valued (symbol_size_of (text_or rows (codes "cell") []))

-- --repair, or --loss, which is 5 percent where neither is said, and not both
abbrev pub repair_by : Option (List ℕ) → Option (List ℕ) → Asked Repair
repair_by None None = valued (option_map Against (loss_of (codes "5")))
repair_by (Some loss) None = valued (option_map Against (loss_of loss))
repair_by None (Some repair) = valued (repair_of repair)
repair_by (Some loss) (Some repair) = Err ArgumentConflict

unfoldable pub repair_asked : List Row → Asked Repair
repair_asked rows = repair_by (first_of (codes "loss") rows) (first_of (codes "repair") rows)

-- no rate where none is said
abbrev pub rate_by : Option (List ℕ) → Asked (Option ℕ)
rate_by None = Ok None
rate_by (Some text) = valued (option_map (λ n. Some n) (rate_of text))

unfoldable pub rate_asked : List Row → Asked (Option ℕ)
rate_asked rows = rate_by (first_of (codes "rate") rows)

-- the only sender where no share is said
abbrev pub share_by : Option (List ℕ) → Asked (ℕ × ℕ)
share_by None = Ok (0, 1)
share_by (Some text) = valued (share_of text)

unfoldable pub share_asked : List Row → Asked (ℕ × ℕ)
share_asked rows = share_by (first_of (codes "share") rows)

unfoldable pub from_asked : List Row → Asked ℕ
from_asked rows = valued (id_of (text_or rows (codes "from") (codes "0")))

-- from the first id on every nth one, behind those of the senders before this one
unfoldable pub ids_asked : List Row → Asked Ids
ids_asked rows = and_then (share_asked rows) (λ share. and_then (from_asked rows) (λ from. Ok (record {
  first = from + share.0;
  step = share.1;
  round = 0;
})))

-- more rounds than one take a file, since standard input can't be read again
abbrev pub with_file : Rounds → Option (List ℕ) → Asked Rounds
with_file rounds None = if nat_lt 1 (times_of rounds) then Err MissingRequiredArgument else Ok rounds
with_file rounds (Some file) = Ok rounds

-- one round where no number is said
abbrev pub rounds_by : Option (List ℕ) → Option (List ℕ) → Asked Rounds
rounds_by None file = Ok (Times 1)
rounds_by (Some text) file = and_then (valued (rounds_of text)) (λ rounds. with_file rounds file)

unfoldable pub rounds_asked : List Row → Asked Rounds
rounds_asked rows = rounds_by (first_of (codes "rounds") rows) (first_of (codes "file") rows)

unfoldable pub order_asked : List Row → Asked Order
order_asked rows = and_then (part_asked rows) (λ part. and_then (symbol_size_asked rows) (λ size.
    and_then (repair_asked rows) (λ repair. and_then (ids_asked rows) (λ ids. Ok (record {
      part = part;
      symbol_size = size;
      repair = repair;
      ids = ids;
    })))))

-- ---- what all have

-- one of three flags at most
abbrev pub telling_by : Bool → Bool → Bool → Asked Telling
telling_by false false false = Ok Usual
telling_by true false false = Ok Quiet
telling_by false true false = Ok Progress
telling_by false false true = Ok Json
telling_by _ _ _ = Err ArgumentConflict

unfoldable pub telling_asked : List Row → Asked Telling
telling_asked rows = telling_by (is_flagged rows (codes "quiet")) (is_flagged rows (codes "progress")) (is_flagged rows (codes "json"))

-- ---- jobs

-- how fast, how often, and what is told
abbrev pub course_asked : List Row → Asked (Option ℕ × (Rounds × Telling))
course_asked rows = both (rate_asked rows) (both (rounds_asked rows) (telling_asked rows))

-- what is sent, and that
abbrev pub send_asked : List Row → Asked (Order × (Option ℕ × (Rounds × Telling)))
send_asked rows = both (order_asked rows) (course_asked rows)

-- a name, or none
abbrev pub name_by : Option (List ℕ) → Asked (List ℕ)
name_by None = Ok []
name_by (Some text) = valued (name_of text)

unfoldable pub name_asked : List Row → Asked (List ℕ)
name_asked rows = name_by (first_of (codes "name") rows)

-- the values in order, of which the first that names nothing is refused
abbrev pub each_named : List (List ℕ) → Asked (List (List ℕ))
each_named [] = Ok []
each_named (text ∷ texts) = and_then (valued (name_of text)) (λ name. and_then (each_named texts) (λ names. Ok (name ∷ names)))

-- 64 of them at most
abbrev pub passed_by : List (List ℕ) → Asked (List (List ℕ))
passed_by texts = if nat_lt 64 (length texts) then Err ValueValidation else each_named texts

-- what is passed over
unfoldable pub passed_asked : List Row → Asked (List (List ℕ))
passed_asked rows = passed_by (texts_of rows (codes "not"))

-- the folder of streams that are taken one after another, which has a name, where no stream has one, and nothing is kept
abbrev pub follow_by : Bool → Option (List ℕ) → Option (List ℕ) → Option (List ℕ) → Asked (Option (List ℕ))
follow_by false output name state = Ok None
follow_by true None name state = Err MissingRequiredArgument
follow_by true (Some folder) None None = Ok (Some folder)
follow_by true (Some folder) None (Some state) = Err ArgumentConflict
follow_by true (Some folder) (Some name) state = Err ArgumentConflict

unfoldable pub follow_asked : List Row → Asked (Option (List ℕ))
follow_asked rows = follow_by (is_flagged rows (codes "follow")) (first_of (codes "output") rows) (first_of (codes "name") rows) (first_of (codes "state") rows)

-- for how many seconds a stream may be silent, where streams are taken one after another
abbrev pub with_follow : Bool → ℕ → Asked (Option ℕ)
with_follow true seconds = Ok (Some seconds)
with_follow false seconds = Err MissingRequiredArgument

abbrev pub timeout_by : Option (List ℕ) → Bool → Asked (Option ℕ)
timeout_by None follows = Ok None
timeout_by (Some text) follows = and_then (valued (timeout_of text)) (with_follow follows)

unfoldable pub timeout_asked : List Row → Asked (Option ℕ)
timeout_asked rows = timeout_by (first_of (codes "timeout") rows) (is_flagged rows (codes "follow"))

unfoldable pub window_asked : List Row → Asked ℕ
window_asked rows = valued (window_of (text_or rows (codes "window") []))

-- how long one may be silent, how many parts are kept, and what is told
abbrev pub receiving_asked : List Row → Asked (Option ℕ × (ℕ × Telling))
receiving_asked rows = both (timeout_asked rows) (both (window_asked rows) (telling_asked rows))

-- whether one stream is received or all, and the same
abbrev pub following_asked : List Row → Asked (Option (List ℕ) × (Option ℕ × (ℕ × Telling)))
following_asked rows = both (follow_asked rows) (receiving_asked rows)

-- what is received, and what isn't
abbrev pub which_asked : List Row → Asked (List ℕ × List (List ℕ))
which_asked rows = both (name_asked rows) (passed_asked rows)

-- and all of it
abbrev pub receive_asked : List Row → Asked ((List ℕ × List (List ℕ)) × (Option (List ℕ) × (Option ℕ × (ℕ × Telling))))
receive_asked rows = both (which_asked rows) (following_asked rows)

pub record IsSendOf (rows : List Row) (job : SendJob) : Type 0 where
  pub asked_for : send_asked rows ≡ Ok (job.order, (job.rate, (job.rounds, job.telling)))
  pub key : option_map (λ s. s.now) job.key ≡ first_of (codes "key") rows
  pub files : map (λ s. s.now) job.files.items ≡ texts_of rows (codes "file")

-- no timeout is asked for then
pub record IsReceiveOf (rows : List Row) (job : ReceiveJob) : Type 0 where
  pub timeout : Option ℕ
  pub asked_for : receive_asked rows ≡ Ok ((job.name.items, map (λ v. v.items) job.passed.items), (None, (timeout, (job.window, job.telling))))
  pub key : option_map (λ s. s.now) job.key ≡ first_of (codes "key") rows
  pub output : option_map (λ s. s.now) job.output ≡ first_of (codes "output") rows
  pub state : option_map (λ s. s.now) job.state ≡ first_of (codes "state") rows
  pub files : map (λ s. s.now) job.files.items ≡ texts_of rows (codes "cells")

-- no name is asked for then
pub record IsFollowOf (rows : List Row) (job : FollowJob) : Type 0 where
  pub name : List ℕ
  pub asked_for : receive_asked rows ≡ Ok ((name, map (λ v. v.items) job.passed.items), (Some job.folder.now, (job.timeout, (job.window, job.telling))))
  pub key : option_map (λ s. s.now) job.key ≡ first_of (codes "key") rows
  pub files : map (λ s. s.now) job.files.items ≡ texts_of rows (codes "cells")

pub record IsInfoOf (rows : List Row) (job : InfoJob) : Type 0 where
  pub asked_for : telling_asked rows ≡ Ok job.telling
  pub key : option_map (λ s. s.now) job.key ≡ first_of (codes "key") rows
  pub files : map (λ s. s.now) job.files.items ≡ texts_of rows (codes "cells")

-- ---- guards

unfoldable pub guarded_part_asked : List Row → Asked ℕ
guarded_part_asked rows = valued (guarded_part_of (text_or rows (codes "part") []))

unfoldable pub guard_repair_asked : List Row → Asked Repair
guard_repair_asked rows = valued (repair_of (text_or rows (codes "repair") []))

-- how many bytes a part has, and how many repair packets
abbrev pub guarding_asked : List Row → Asked (ℕ × Repair)
guarding_asked rows = both (guarded_part_asked rows) (guard_repair_asked rows)

-- a file has to be named
abbrev pub file_by : Option (List ℕ) → Asked (List ℕ)
file_by None = Err MissingRequiredArgument
file_by (Some file) = Ok file

unfoldable pub guarded_file_asked : List Row → Asked (List ℕ)
guarded_file_asked rows = file_by (first_of (codes "file") rows)

-- which file has a guard, and what is told
abbrev pub guarded_asked : List Row → Asked (List ℕ × Telling)
guarded_asked rows = both (guarded_file_asked rows) (telling_asked rows)

-- A guard isn't put in the place of its file.
abbrev pub apart : List ℕ → Option (List ℕ) → Asked (List ℕ)
apart file None = Ok file
apart file (Some output) = if bytes_eq output file then Err ValueValidation else Ok file

unfoldable pub protected_file_asked : List Row → Asked (List ℕ)
protected_file_asked rows = and_then (guarded_file_asked rows) (λ file. apart file (first_of (codes "output") rows))

abbrev pub protected_asked : List Row → Asked (List ℕ × Telling)
protected_asked rows = both (protected_file_asked rows) (telling_asked rows)

-- how a guard is made, and of which file
abbrev pub protect_asked : List Row → Asked ((ℕ × Repair) × (List ℕ × Telling))
protect_asked rows = both (guarding_asked rows) (protected_asked rows)

pub record IsProtectOf (rows : List Row) (job : ProtectJob) : Type 0 where
  pub asked_for : protect_asked rows ≡ Ok ((job.part, job.repair), (job.file.now, job.telling))
  pub key : option_map (λ s. s.now) job.key ≡ first_of (codes "key") rows
  pub output : option_map (λ s. s.now) job.output ≡ first_of (codes "output") rows

pub record IsCheckOf (rows : List Row) (job : CheckJob) : Type 0 where
  pub asked_for : guarded_asked rows ≡ Ok (job.file.now, job.telling)
  pub key : option_map (λ s. s.now) job.key ≡ first_of (codes "key") rows
  pub guard : option_map (λ s. s.now) job.guard ≡ first_of (codes "guard") rows

pub record IsRepairOf (rows : List Row) (job : RepairJob) : Type 0 where
  pub asked_for : guarded_asked rows ≡ Ok (job.file.now, job.telling)
  pub key : option_map (λ s. s.now) job.key ≡ first_of (codes "key") rows
  pub guard : option_map (λ s. s.now) job.guard ≡ first_of (codes "guard") rows
  pub output : option_map (λ s. s.now) job.output ≡ first_of (codes "output") rows

-- ---- shards

-- how many are enough, and how many there are, not fewer
unfoldable pub shares_asked : List Row → Asked Shares
shares_asked rows = and_then (valued (shards_of 1 (text_or rows (codes "need") []))) (λ needed.
    and_then (valued (shards_of needed (text_or rows (codes "of") []))) (λ all. Ok (record { needed = needed; all = all })))

-- how many bytes a part has, and a symbol at most
abbrev pub cut_asked : List Row → Asked (ℕ × ℕ)
cut_asked rows = both (part_asked rows) (symbol_size_asked rows)

-- how a file is split
abbrev pub splitting_asked : List Row → Asked (Shares × (ℕ × ℕ))
splitting_asked rows = both (shares_asked rows) (cut_asked rows)

unfoldable pub folder_asked : List Row → Asked (List ℕ)
folder_asked rows = file_by (first_of (codes "folder") rows)

-- whose shards are joined, and what is told
abbrev pub joined_asked : List Row → Asked (List ℕ × Telling)
joined_asked rows = both (folder_asked rows) (telling_asked rows)

unfoldable pub split_file_asked : List Row → Asked (List ℕ)
split_file_asked rows = file_by (first_of (codes "file") rows)

-- which file is split, into which folder, and what is told
abbrev pub pair_asked : List Row → Asked (List ℕ × (List ℕ × Telling))
pair_asked rows = both (split_file_asked rows) (joined_asked rows)

-- how, and that
abbrev pub split_asked : List Row → Asked ((Shares × (ℕ × ℕ)) × (List ℕ × (List ℕ × Telling)))
split_asked rows = both (splitting_asked rows) (pair_asked rows)

pub record IsSplitOf (rows : List Row) (job : SplitJob) : Type 0 where
  pub asked_for : split_asked rows ≡ Ok ((job.shares, (job.part, job.symbol_size)), (job.file.now, (job.folder.now, job.telling)))
  pub key : option_map (λ s. s.now) job.key ≡ first_of (codes "key") rows

-- Any stream is received, by the widest window.
pub record IsJoinOf (rows : List Row) (job : ReceiveJob) : Type 0 where
  pub folder : List ℕ
  pub asked_for : joined_asked rows ≡ Ok (folder, job.telling)
  pub files : map (λ s. s.now) job.files.items ≡ folder ∷ []
  pub any : job.name.items ≡ []
  pub none_passed : map (λ v. v.items) job.passed.items ≡ []
  pub window : job.window ≡ WIDEST_WINDOW
  pub key : option_map (λ s. s.now) job.key ≡ first_of (codes "key") rows
  pub output : option_map (λ s. s.now) job.output ≡ first_of (codes "output") rows
  pub unkept : option_map (λ s. s.now) job.state ≡ None

-- what `receive` asks for
abbrev pub IsReceivedOf : List Row → Job → Type 0
IsReceivedOf rows (Receive job) = IsReceiveOf rows job
IsReceivedOf rows (Follow job) = IsFollowOf rows job
IsReceivedOf rows _ = ⊥

-- The parser finds no fault in the words, and among them a subcommand with these rows.
pub record Uses (words : List (List ℕ)) (v : Verb) (rows : List Row) : Type 0 where
  pub faultless : faults_of words ≡ []
  pub used : verb_used words ≡ Some (v, rows)

-- the words ask for a job
abbrev pub AsksFor : List (List ℕ) → Job → Type 0
AsksFor words (Send job) = (rows : List Row) × Uses words verb.Send rows × IsSendOf rows job
AsksFor words (Receive job) = (rows : List Row) × Uses words verb.Receive rows × IsReceiveOf rows job
AsksFor words (Follow job) = (rows : List Row) × Uses words verb.Receive rows × IsFollowOf rows job
AsksFor words (Info job) = (rows : List Row) × Uses words verb.Info rows × IsInfoOf rows job
AsksFor words (Protect job) = (rows : List Row) × Uses words verb.Protect rows × IsProtectOf rows job
AsksFor words (Check job) = (rows : List Row) × Uses words verb.Check rows × IsCheckOf rows job
AsksFor words (Mend job) = (rows : List Row) × Uses words verb.Repair rows × IsRepairOf rows job
AsksFor words (Split job) = (rows : List Row) × Uses words verb.Split rows × IsSplitOf rows job
AsksFor words (Join job) = (rows : List Row) × Uses words verb.Join rows × IsJoinOf rows job

-- the ids of an order go on from one to the next
abbrev pub StepsOn : Job → Type 0
StepsOn (Send job) = 0 < job.order.ids.step
StepsOn _ = ⊤

-- a part has bytes, and a window parts
abbrev pub HasParts : Job → Type 0
HasParts (Send job) = 0 < job.order.part
HasParts (Receive job) = 0 < job.window
HasParts (Follow job) = 0 < job.window
HasParts (Protect job) = 0 < job.part
HasParts (Split job) = 0 < job.part
HasParts (Join job) = 0 < job.window
HasParts _ = ⊤

-- a stream is sent in some rounds
abbrev pub HasRounds : Job → Type 0
HasRounds (Send job) = 0 < times_of job.rounds
HasRounds _ = ⊤

-- ---- words that ask for nothing

-- the kind of a refusal, where there is one
abbrev pub kinds_of : {X : Type 0} → Asked X → Kinds
kinds_of (Ok x) = []
kinds_of (Err kind) = kind ∷ []

-- of the options of a subcommand
abbrev pub misuses_behind : Verb → List Row → Kinds
misuses_behind verb.Send rows = kinds_of (send_asked rows)
misuses_behind verb.Receive rows = kinds_of (receive_asked rows)
misuses_behind verb.Info rows = kinds_of (telling_asked rows)
misuses_behind verb.Protect rows = kinds_of (protect_asked rows)
misuses_behind verb.Check rows = kinds_of (guarded_asked rows)
misuses_behind verb.Repair rows = kinds_of (guarded_asked rows)
misuses_behind verb.Split rows = kinds_of (split_asked rows)
misuses_behind verb.Join rows = kinds_of (joined_asked rows)

-- of the subcommand that is used, and that none is
abbrev pub misuses_of : Option (Verb × List Row) → Kinds
misuses_of None = MissingSubcommand ∷ []
misuses_of (Some used) = misuses_behind used.0 used.1

-- What the parser finds at fault comes first, and where it finds nothing, the first of the options that is refused.
unfoldable pub refusals_of : List (List ℕ) → Kinds
refusals_of words = or_else (faults_of words) (misuses_of (verb_used words))

-- They ask for no job, and are refused for this.
pub record IsRefusedFor (words : List (List ℕ)) (kind : ErrorKind) : Type 0 where
  pub among : IsAmong kind (refusals_of words)
  pub none : (job : Job) → AsksFor words job → ⊥

-- memory may be refused before that
abbrev pub IsRefused : List (List ℕ) → ErrorKind → Type 0
IsRefused words kind = (kind ≡ OutOfMemory) ⊎ IsRefusedFor words kind
