-- What a receiver refuses and skips of any bytes, and what it answers over a mixed stream of an object's packets.
use Rattle.std.specs.Prelude.{◌≡◌, ℕ, List, [], length, Option, Result, Ok, Err, MatchResult, Some, None, IfSome, IfOk, IsOkAnd, unwrap_or, if◌then◌else◌, nat_lt, ◌⊎◌}
use Rattle.rq_bytes.specs.declared.error.Error.{Error}
use Rattle.rq_bytes.specs.declared.error.Error.TheVariants.{HeaderTooShort, OutOfMemory}
use Rattle.rq_standard.specs.Packet.{Packet}
use Rattle.rq_standard.specs.Configuration.{Configuration}
use Rattle.rq_standard.specs.declared.row.TableRow.{TableRow}
use Rattle.rq_standard.specs.Headline.{IsHonestRun, IsAnswerable, IsOnlyObject, IsObjectAnswer}
use Rattle.rq_standard.specs.DecoderState.{State, result_of}
use Rattle.rq_standard.specs.Streams.{stream_of}
use Rattle.raptorq.specs.declared.decoder.object.Decoder.{Decoder}
use Rattle.raptorq.specs.Decoder.{state_of}
use Rattle.rq_standard.specs.Following.{FollowsRun, IsAnswerAfter}
use Rattle.raptorq.specs.Runs.{IsRefusalBehind, IsRunRefusal}
use Rattle.rq_streams.specs.declared.run.Outcome.{Outcome}
use Rattle.rq_streams.specs.declared.run.Stop.{Stop}
use Rattle.rq_streams.specs.Ends.{Wanted, Ends, EndsAs, outcome_of}
use Rattle.rq_streams.specs.Frames.{header_length, configuration_in, bytes_of_frames, skipped_in, packets_in_bytes}
use Rattle.rq_streams.specs.MixedStreams.{packets_among, other_count, IsStreamRun, OverMixedStreams}

-- the configuration in a stream's header
abbrev pub header_configuration : List ℕ → Result Configuration Error
header_configuration bytes = if nat_lt (length bytes) header_length then Err HeaderTooShort else Ok (configuration_in bytes)

-- the first refusal of a stream: of its header, and then of the run of its packets, those of frames that aren't skipped
abbrev pub IsStreamRefusal : List TableRow → List ℕ → Result (Unit {0}) Error → Type 0
IsStreamRefusal table bytes r =
    MatchResult (header_configuration bytes) (λ c. IsRunRefusal table c (packets_in_bytes c (bytes_of_frames bytes)) r) (λ e. r ≡ Err e)

-- what is wanted of it: that refusal, and where nothing is refused some answer
abbrev pub IsWantedOf : List TableRow → List ℕ → Wanted → Type 0
IsWantedOf table bytes (Ok answer) = IsStreamRefusal table bytes (Ok tt)
IsWantedOf table bytes (Err e) = IsStreamRefusal table bytes (Err e)

-- what is answered of a stream, whoever sent it: what is of the packets of frames that aren't skipped
abbrev pub IsStreamAnswer : List TableRow → List ℕ → Option (List ℕ) → Type 0
IsStreamAnswer table bytes answer = IsOkAnd (header_configuration bytes) (λ c. IsAnswerAfter table c (packets_in_bytes c (bytes_of_frames bytes)) answer)

-- that is wanted, where nothing is refused
abbrev pub IsWantedAnswer : List TableRow → List ℕ → Wanted → Type 0
IsWantedAnswer table bytes wanted = IfOk wanted (IsStreamAnswer table bytes)

-- the bytes are a stream of packets of the object
pub record IsStreamOf (table : List TableRow) (c : Configuration) (object : List ℕ) (packets : List Packet) (bytes : List ℕ) : Type 0 where
  pub stream_run : IsStreamRun table c object packets
  pub spelled : bytes ≡ stream_of c packets

-- the object that a decoder has answered
abbrev pub object_of : Decoder → List ℕ
object_of d = unwrap_or (result_of (state_of d)) []

-- a decoder that followed no packets follows those of the frames that aren't skipped
abbrev pub FollowsFrames : Configuration → State → List ℕ → State → Type 0
FollowsFrames c old bytes new = (table : List TableRow) → FollowsRun table [] old → FollowsRun table (packets_in_bytes c bytes) new

-- the first refusal of the packets of frames that aren't skipped, by a decoder that followed no packets
abbrev pub IsFramesRefusal : Configuration → State → List ℕ → Result (Unit {0}) Error → Type 0
IsFramesRefusal c old bytes r =
    (table : List TableRow) → FollowsRun table [] old → IsRefusalBehind table c [] (packets_in_bytes c bytes) r

-- they are all taken where nothing is refused, and else stop at that refusal, or for want of memory
abbrev pub AnswersFrames : {X : Type 0} → Configuration → State → List ℕ → Result X Error → Type 0
AnswersFrames c old bytes (Ok x) = IsFramesRefusal c old bytes (Ok tt)
AnswersFrames c old bytes (Err e) = (e ≡ OutOfMemory) ⊎ IsFramesRefusal c old bytes (Err e)

-- where they hold the object's packets, want of memory alone
abbrev pub StopsHonestFrames : Configuration → State → List ℕ → Error → Type 0
StopsHonestFrames c old bytes e =
    (table : List TableRow) (object : List ℕ)
    → FollowsRun table [] old → IsHonestRun table c object (packets_in_bytes c bytes) → e ≡ OutOfMemory

-- the object of a mixed stream, exactly where the packets among its frames determine it
abbrev pub AnswersStream : List TableRow → List ℕ → Option (List ℕ) → Type 0
AnswersStream table bytes answer = OverMixedStreams table bytes (λ c object frames rest. IsObjectAnswer table c object (packets_among frames) answer)

-- a mixed stream is refused for want of memory alone
abbrev pub RefusesStream : List TableRow → List ℕ → Error → Type 0
RefusesStream table bytes e = OverMixedStreams table bytes (λ c object frames rest. e ≡ OutOfMemory)

-- P of the object where a fact holds, and of no output where it doesn't
pub record WantsWhere (Fact : Type 0) (object : List ℕ) (P : Wanted → Type 0) : Type 0 where
  pub holds : Fact → P (Ok (Some object))
  pub fails : (Fact → ⊥) → P (Ok None)

-- ---- a run that reads this input, and behind whose writer this stood before and after

-- Whatever it reads, it refuses the stream's first refusal, and then nothing is written; where nothing is refused, it ends with an answer.
abbrev pub RefusesFirst : List TableRow → Result (Outcome × ℕ) Stop → Option (List ℕ) → Option (List ℕ) → Option (List ℕ) → Type 0
RefusesFirst table result input before after = IfSome input (λ bytes. EndsAs (outcome_of result) before after (IsWantedOf table bytes))

-- Whatever it reads, it writes what is answered of it where nothing is refused, and nothing exactly where there is no answer.
abbrev pub ReceivesAnswer : List TableRow → Result (Outcome × ℕ) Stop → Option (List ℕ) → Option (List ℕ) → Option (List ℕ) → Type 0
ReceivesAnswer table result input before after = IfSome input (λ bytes. EndsAs (outcome_of result) before after (IsWantedAnswer table bytes))

-- Whatever it reads, it answers how many frames are skipped.
abbrev pub CountsSkipped : Result (Outcome × ℕ) Stop → Option (List ℕ) → Type 0
CountsSkipped result input = IfSome input (λ bytes. IfOk result (λ ended. ended.1 ≡ skipped_in bytes))

-- Of a mixed stream it writes the object, exactly where the packets among the frames determine it.
abbrev pub ReceivesExactly : List TableRow → Result (Outcome × ℕ) Stop → Option (List ℕ) → Option (List ℕ) → Option (List ℕ) → Type 0
ReceivesExactly table result input before after =
    IfSome input (λ bytes. OverMixedStreams table bytes (λ c object frames rest.
    WantsWhere (IsAnswerable table c (packets_among frames)) object (Ends (outcome_of result) before after)))

-- No receiver can do better: it writes the object exactly where no other object fits the packets.
abbrev pub ReceivesWhereAnyCan : List TableRow → Result (Outcome × ℕ) Stop → Option (List ℕ) → Option (List ℕ) → Option (List ℕ) → Type 0
ReceivesWhereAnyCan table result input before after =
    IfSome input (λ bytes. OverMixedStreams table bytes (λ c object frames rest.
    WantsWhere (IsOnlyObject table c (packets_among frames) object) object (Ends (outcome_of result) before after)))

-- Of a mixed stream it answers how many frames hold no packet, its rest being one of them.
abbrev pub CountsOthers : List TableRow → Result (Outcome × ℕ) Stop → Option (List ℕ) → Type 0
CountsOthers table result input =
    IfSome input (λ bytes. OverMixedStreams table bytes (λ c object frames rest. IfOk result (λ ended. ended.1 ≡ other_count frames rest)))

-- A receiver's run.
pub record Receives (table : List TableRow) (result : Result (Outcome × ℕ) Stop) (input before after : Option (List ℕ)) : Type 0 where
  -- of any bytes
  pub refused : RefusesFirst table result input before after
  pub answer : ReceivesAnswer table result input before after
  pub skipped : CountsSkipped result input
  -- of an object's packets among other frames
  pub ends : ReceivesExactly table result input before after
  pub where_any_can : ReceivesWhereAnyCan table result input before after
  pub others : CountsOthers table result input
