-- What a sender writes.
use Rattle.std.specs.Prelude.{◌≡◌, ◌⊎◌, ℕ, List, length, Option, Some, IfSome, Result, Ok, Err, MatchResult}
use Rattle.rq_bytes.specs.declared.error.Error.{Error}
use Rattle.rq_bytes.specs.declared.error.Error.TheVariants.{Singular}
use Rattle.rq_bytes.specs.Refusals.{and_then}
use Rattle.rq_standard.specs.declared.row.TableRow.{TableRow}
use Rattle.rq_standard.specs.Packet.{Packet}
use Rattle.rq_standard.specs.Configuration.{Configuration}
use Rattle.rq_standard.specs.Headline.{HasNonsingularRows}
use Rattle.rq_standard.specs.Streams.{stream_of}
use Rattle.rq_standard.specs.TableRows.{greatest_size}
use Rattle.rq_base.specs.Defaults.{wanted_parameters}
use Rattle.raptorq.specs.Building.{default_settings}
use Rattle.raptorq.specs.Encoder.{packets_refusal}
use Rattle.raptorq.specs.Refused.{new_encoder}
use Rattle.rq_streams.specs.declared.run.Outcome.{Outcome}
use Rattle.rq_streams.specs.declared.run.Stop.{Stop}
use Rattle.rq_streams.specs.Ends.{Wanted, EndsAs}
use Rattle.rq_standard.specs.ObjectPackets.{AreEncoded}

-- the default configuration of an object of this length, for payloads of at most this size
abbrev pub default_parameters : List TableRow → ℕ → ℕ → Result Configuration Error
default_parameters table length_of_object packet_size = wanted_parameters table length_of_object packet_size default_settings.decoder_memory

-- the default configuration of an object, unless something refuses it
abbrev pub sent_configuration : List TableRow → ℕ → List ℕ → Result Configuration Error
sent_configuration table packet_size object =
    and_then (default_parameters table (length object) packet_size) (λ c.
    and_then (new_encoder (greatest_size table) c (length object)) (λ _. Ok c))

-- a stream of the object's packets
pub record IsStreamSent (table : List TableRow) (c : Configuration) (repair : ℕ) (object : List ℕ) (wanted : Wanted) : Type 0 where
  pub packets : List Packet
  pub encoded : AreEncoded table c object repair packets
  pub spelled : wanted ≡ Ok (Some (stream_of c packets))

-- what is sent in a configuration: a singular row is refused first, and then more packets than there are ids
abbrev pub Sends : List TableRow → Configuration → ℕ → List ℕ → Wanted → Type 0
Sends table c repair object wanted =
    ((wanted ≡ Err Singular) × ¬ HasNonsingularRows table c)
    ⊎ (HasNonsingularRows table c × MatchResult (packets_refusal c repair) (λ _. IsStreamSent table c repair object wanted) (λ e. wanted ≡ Err e))

-- the stream of an object's packets in its default configuration, unless something refuses it
abbrev pub IsSent : List TableRow → ℕ → ℕ → List ℕ → Wanted → Type 0
IsSent table packet_size repair object wanted =
    MatchResult (sent_configuration table packet_size object) (λ c. Sends table c repair object wanted) (λ e. wanted ≡ Err e)

-- A run that reads this object, and behind whose writer this stood before and after, writes that stream.
abbrev pub SendsAll : List TableRow → ℕ → ℕ → Result Outcome Stop → Option (List ℕ) → Option (List ℕ) → Option (List ℕ) → Type 0
SendsAll table packet_size repair result input before after = IfSome input (λ object. EndsAs result before after (IsSent table packet_size repair object))
