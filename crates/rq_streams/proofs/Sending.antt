-- What is sent, and why nothing is, by what an object's packets are refused for.
use Rattle.std.proofs.Common.{◌≡◌, ℕ, List, length, Some, Result, Ok, Err, refl, sym, ap, subst, ◌⊎◌, inl, inr}
use Rattle.std.specs.Prelude.{MatchResult}
use Rattle.rq_bytes.specs.declared.error.Error.{Error}
use Rattle.rq_bytes.specs.declared.error.Error.TheVariants.{OutOfMemory}
use Rattle.rq_bytes.specs.Refusals.{IsRefusal}
use Rattle.rq_standard.specs.declared.row.TableRow.{TableRow}
use Rattle.rq_standard.specs.TableRows.{greatest_size}
use Rattle.rq_standard.specs.Configuration.{Configuration, header_bytes}
use Rattle.raptorq.specs.Appended.{AppendsObject, RefusesPackets, no_encoder, too_many}
use Rattle.raptorq.specs.Encoder.{packets_refusal}
use Rattle.raptorq.specs.Refused.{new_encoder}
use Rattle.rq_streams.specs.Ends.{Wanted}
use Rattle.rq_streams.specs.Sent.{default_parameters, sent_configuration, IsStreamSent, Sends, IsSent}

abbrev answered_with : List ℕ → Wanted
answered_with bytes = Ok (Some bytes)

abbrev wants_refusal : Error → Wanted
wants_refusal e = Err e

module _ (table : List TableRow) (s repair : ℕ) (object : List ℕ) (c : Configuration) (parameters : default_parameters table (length object) s ≡ Ok c) where
  sent_in : (wanted : Wanted) → new_encoder (greatest_size table) c (length object) ≡ Ok tt → Sends table c repair object wanted → IsSent table s repair object wanted
  sent_in wanted taken sends =
      let configured : sent_configuration table s object ≡ Ok c = rw (parameters, taken) refl in
      subst (λ r. MatchResult r (λ k. Sends table k repair object wanted) (λ e. wanted ≡ Err e)) (sym configured) sends

  -- what is sent where no row is singular
  sent_by : (wanted : Wanted) (r : Result (Unit {0}) Error) → packets_refusal c repair ≡ r → MatchResult r (λ _. IsStreamSent table c repair object wanted) (λ e. wanted ≡ Err e)
      → MatchResult (packets_refusal c repair) (λ _. IsStreamSent table c repair object wanted) (λ e. wanted ≡ Err e)
  sent_by wanted r is so = subst (λ a. MatchResult a (λ _. IsStreamSent table c repair object wanted) (λ e. wanted ≡ Err e)) (sym is) so

  -- the header with the packets behind it
  pub sent_packets : (stream : List ℕ) → AppendsObject table c object repair (header_bytes c) stream → IsSent table s repair object (Ok (Some stream))
  sent_packets stream appends = sent_in (Ok (Some stream)) appends.taken (inr (
    appends.nonsingular,
    sent_by (Ok (Some stream)) (Ok tt) appends.enough (record { packets = appends.packets; encoded = appends.encoded; spelled = ap (λ xs. answered_with xs) appends.grown }),
  ))

  not_taken : (e : Error) (r : Result (Unit {0}) Error) → new_encoder (greatest_size table) c (length object) ≡ r → IsRefusal e r → (e ≡ OutOfMemory) ⊎ IsSent table s repair object (Err e)
  not_taken e (Ok x) is memory = inl memory
  not_taken e (Err w) is same =
      let configured : sent_configuration table s object ≡ Err w = rw (parameters, is) refl in
      inr (subst (λ r. MatchResult r (λ k. Sends table k repair object (Err e)) (λ d. wants_refusal e ≡ Err d)) (sym configured) (ap wants_refusal same))

  pub sent_refused : (e : Error) → RefusesPackets table c (length object) repair e → (e ≡ OutOfMemory) ⊎ IsSent table s repair object (Err e)
  sent_refused e (no_encoder (inl r)) = not_taken e (new_encoder (greatest_size table) c (length object)) refl r
  sent_refused e (no_encoder (inr row)) = inr (sent_in (Err e) row.0 (inl (ap wants_refusal row.1, row.2)))
  sent_refused e (too_many taken nonsingular many) = inr (sent_in (Err e) taken (inr (nonsingular, sent_by (Err e) (Err e) many refl)))
