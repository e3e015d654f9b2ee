-- What an encoder is built from: parameters by RFC 6330, section 4.3.
use Rattle.std.specs.Prelude.{◌≡◌, ℕ, List, length, Ok, MatchResult}
use Rattle.rq_bytes.specs.declared.error.Error.{Error}
use Rattle.rq_standard.specs.declared.row.TableRow.{TableRow}
use Rattle.rq_standard.specs.Headline.{HasNonsingularRows}
use Rattle.rq_standard.specs.TableRows.{greatest_size}
use Rattle.rq_base.specs.Defaults.{wanted_parameters, default_memory}
use Rattle.raptorq.specs.Encoder.{Encoded, IsEncoderOf}
use Rattle.raptorq.specs.Refused.{new_encoder, RefusesEncoder}

-- the memory of a decoder and the greatest size of a payload, in bytes
pub record Settings : Type 0 where
  pub decoder_memory : ℕ
  pub packet_size : ℕ

-- 10 MiB, and 1024 bytes
abbrev pub default_settings : Settings
default_settings = record { decoder_memory = default_memory; packet_size = 1024 }

-- what the encoder of an object of this length is refused for: first its parameters, and then what refuses an encoder in them
abbrev pub RefusesBuilding : List TableRow → Settings → ℕ → Error → Type 0
RefusesBuilding table s length_of_data e =
    MatchResult (wanted_parameters table length_of_data s.packet_size s.decoder_memory) (λ c. RefusesEncoder table c length_of_data e) (λ wanted. e ≡ wanted)

-- an encoder of this object, in the parameters that these settings want
pub record IsBuilt (table : List TableRow) (s : Settings) (object : List ℕ) (e : Encoded) : Type 0 where
  pub parameters : wanted_parameters table (length object) s.packet_size s.decoder_memory ≡ Ok e.configuration
  pub taken : new_encoder (greatest_size table) e.configuration (length object) ≡ Ok tt
  pub nonsingular : HasNonsingularRows table e.configuration
  pub encoder : IsEncoderOf table object e
