-- What is said of an encoder in a configuration is said of a built one.
use Rattle.std.proofs.Common.{◌≡◌, ℕ, List, length, Result, Ok, Err, sym, ap, ◌∙◌, subst}
use Rattle.std.specs.Prelude.{IfOk, OnOk}
use Rattle.rq_bytes.specs.declared.error.Error.{Error}
use Rattle.rq_standard.specs.declared.row.TableRow.{TableRow}
use Rattle.rq_standard.specs.Configuration.{Configuration}
use Rattle.rq_standard.specs.Headline.{HasNonsingularRows}
use Rattle.rq_standard.specs.TableRows.{greatest_size}
use Rattle.rq_base.specs.Defaults.{wanted_parameters}
use Rattle.raptorq.specs.declared.encoder.Encoder.{Encoder}
use Rattle.raptorq.specs.Building.{Settings, IsBuilt}
use Rattle.raptorq.specs.Encoder.{encoded_of, IsEncoderOf}
use Rattle.raptorq.specs.Refused.{new_encoder}

pub built : (table : List TableRow) (s : Settings) (object : List ℕ) (c : Configuration) (r : Result Encoder Error) → wanted_parameters table (length object) s.packet_size s.decoder_memory ≡ Ok c
    → OnOk r (new_encoder (greatest_size table) c (length object) ≡ Ok tt) → OnOk r (HasNonsingularRows table c) → IfOk r (λ e. (encoded_of e).configuration ≡ c) → IfOk r (λ e. IsEncoderOf table object (encoded_of e))
    → IfOk r (λ e. IsBuilt table s object (encoded_of e))
built table s object c (Ok e) wanted taken nonsingular is encoder = record {
  parameters = wanted ∙ ap Ok (sym is);
  taken = subst (λ k. new_encoder (greatest_size table) k (length object) ≡ Ok tt) (sym is) taken;
  nonsingular = subst (HasNonsingularRows table) (sym is) nonsingular;
  encoder = encoder;
}
built table s object c (Err e) wanted taken nonsingular is encoder = tt
