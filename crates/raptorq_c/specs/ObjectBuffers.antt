-- What a buffer is filled with of packets, their object, or why it is not.
use Rattle.std.specs.Prelude.{◌≡◌, ◌≢◌, ◌⊎◌, ℕ, List, length, map, Option, Some, None, Result, Ok, Err, MatchResult}
use Rattle.rq_bytes.specs.declared.error.Error.{Error}
use Rattle.rq_bytes.specs.Error.{code_of}
use Rattle.rq_bytes.specs.Refusals.{and_then, first_refusal}
use Rattle.rq_standard.specs.Configuration.{Configuration}
use Rattle.rq_standard.specs.Headline.{AnswersExactly, AnswersWhereAnyCan}
use Rattle.rq_standard.specs.Packet.{Packet, packet_of_bytes}
use Rattle.rq_standard.specs.Streams.{frame_size, frames_in}
use Rattle.rq_base.specs.RefusedInput.{read_packet}
use Rattle.rq_standard.specs.Following.{IsAnswerAfter}
use Rattle.raptorq.specs.Runs.{IsRunRefusal}
use Rattle.rq_standard.specs.declared.row.TableRow.{TableRow}

-- the packets that bytes spell: cut at the length of a payload id and a symbol, of which the last may be shorter
abbrev pub packets_in : Configuration → List ℕ → List Packet
packets_in c bytes = map packet_of_bytes (frames_in (frame_size c) bytes)

-- the first of some frames that is shorter than an id is refused
abbrev pub frames_refusal : List (List ℕ) → Result (Unit {0}) Error
frames_refusal frames = first_refusal (λ frame. and_then (read_packet frame) (λ _. Ok tt)) frames

-- what is refused: a last packet that is shorter than its id, and then what the run of the packets refuses
abbrev pub IsDecodingRefusal : List TableRow → Configuration → List ℕ → Result (Unit {0}) Error → Type 0
IsDecodingRefusal table c bytes r = MatchResult (frames_refusal (frames_in (frame_size c) bytes)) (λ _. IsRunRefusal table c (packets_in c bytes) r) (λ e. r ≡ Err e)

-- the numbers of a call that fills a buffer with an answer, where there is one
abbrev pub IsFilled : ℕ → Type 0
IsFilled number = (number ≡ 0) ⊎ (number ≡ 24) ⊎ (number ≡ 25)

-- The numbers of a refusal, where something is refused. 21 may stand in place of any.
abbrev pub IsRefused : ℕ → Result (Unit {0}) Error → Type 0
IsRefused number (Ok x) = (number ≡ 21) ⊎ IsFilled number
IsRefused number (Err e) = (number ≡ 21) ⊎ (number ≡ code_of e)

-- The numbers of the first refusal of packets in a buffer, or of an answer where nothing is refused.
abbrev pub IsDecoded : ℕ → List TableRow → Configuration → List ℕ → Type 0
IsDecoded number table c bytes = (number ≡ 21) ⊎ ((wanted : Result (Unit {0}) Error) × IsDecodingRefusal table c bytes wanted × IsRefused number wanted)

-- P of what a call answers of any packets: the object that is written (0), one of another length than the buffer (24), or none (25)
pub record Answered (number : ℕ) (before after : List ℕ) (P : Option (List ℕ) → Type 0) : Type 0 where
  pub written : number ≡ 0 → P (Some after)
  pub other_length : number ≡ 24 → (object : List ℕ) × P (Some object) × (length object ≢ length before)
  pub incomplete : number ≡ 25 → P None

-- What a call answers and does to a buffer: it is filled with the object of packets (0), exactly where they determine it, or is as it was.
pub record FillsWithObject (table : List TableRow) (c : Configuration) (bytes : List ℕ) (answer : ℕ) (before after : List ℕ) : Type 0 where
  pub refused : IsDecoded answer table c bytes
  pub answered : Answered answer before after (IsAnswerAfter table c (packets_in c bytes))
  pub headline : Answered answer before after (AnswersExactly table c (packets_in c bytes))
  pub only_object : Answered answer before after (AnswersWhereAnyCan table c (packets_in c bytes))
  pub kept : answer ≢ 0 → after ≡ before
