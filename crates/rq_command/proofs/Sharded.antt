-- How a run ends that splits a file.
use Rattle.std.proofs.Common.{◌≡◌, ℕ, ◌<◌, Bool, false, Option, Result, Ok, Err, IfOk, IfErr, inl, inr, refl, sym, subst, ap, ◌∙◌, arith}
use Rattle.rq_streams.specs.declared.counted.Counted.{Counted}
use Rattle.rq_streams.specs.declared.run.Stop.{Stop}
use Rattle.rq_streams.specs.declared.run.Stop.TheVariants.{Fault, Refused}
use Rattle.rq_streams.specs.Counted.{failed_count}
use Rattle.rq_cast.specs.declared.halt.Halt.{Halt}
use Rattle.rq_cast.specs.declared.halt.Halt.TheVariants.{By, Changed}
use Rattle.rq_cast.specs.declared.known.Known.{Known}
use Rattle.rq_cast.specs.declared.order.Order.{Order}
use Rattle.rq_cast.specs.declared.output.Output.{Output}
use Rattle.rq_cast.specs.declared.stream_sending.Sent.{Sent}
use Rattle.rq_cast.specs.Output.{CountsLost}
use Rattle.rq_cast.specs.Rounds.{IsFresh}
use Rattle.rq_cast.specs.Searching.{counted}
use Rattle.rq_cast.specs.SentParts.{CountsStop as CountsHalt, SendsStream, StopsStream}
use Rattle.rq_cells.specs.Cells.{Key}
use Rattle.rq_devices.specs.Keyed.{IsKeyOf}
use Rattle.rq_devices.specs.Placed.{Contents}
use Rattle.rq_command.specs.Outside.{KnownCalls}
use Rattle.rq_command.specs.Splitting.{CountsStop, SendsWhole, Splits, StopsSplit, StopsWhole}
use Rattle.rq_command.proofs.Made.{IsPutFrom, made_put, made_stops}

-- In the only round no part is compared with another one.
unchanged : (order : Order) (key : Key) (first : Known) (before after there then : Contents) (told told' : KnownCalls) (part lost : ℕ) → IsFresh false first
    → StopsStream order key first before after there then told told' (Changed part) lost → ⊥
unchanged order key first before after there then told told' part lost fresh stops = elim stops.stopped [
  | inl unsent ↦ unsent.0.2.2 (λ later. absurd (cc (later, fresh.stage)))
  | inr within ↦ absurd (cc within.by)
]

pub never_changed : (order : Order) (key : Key) (first : Known) (before after there then : Contents) (told told' : KnownCalls) (halt : Halt) (part lost : ℕ)
    → halt ≡ Changed part → IsFresh false first → StopsStream order key first before after there then told told' halt lost → ⊥
never_changed order key first before after there then told told' halt part lost is fresh stops =
    unchanged order key first before after there then told told' part lost fresh
    (subst (λ (h : Halt). StopsStream order key first before after there then told told' h lost) is stops)

-- ---- what is sent once

module _ (order : Order) (key : Key) (first : Known) (before after there then : Contents) (told told' : KnownCalls) (fresh : IsFresh false first) where
  pub sends_whole : (sent : Sent) (known : Known) → SendsStream order key first before after there then told told' sent known → sent.lost ≡ 0
      → SendsWhole order key before after there then sent
  sends_whole sent known sends none = record {
    first = first;
    fresh = fresh;
    told = told;
    told_behind = told';
    known = known;
    sends = sends;
    none_lost = none;
  }

  -- a cell is lost
  pub loses_some : (sent : Sent) (known : Known) → SendsStream order key first before after there then told told' sent known → 0 < sent.lost
      → StopsWhole order key before after there then Fault
  loses_some sent known sends some = record {
    first = first;
    fresh = fresh;
    told = told;
    told_behind = told';
    stopped = inr (refl, record { sent = sent; known = known; sends = sends; some_lost = some });
  }

  -- something stops it
  pub stops_whole : (halt : Halt) (stop : Stop) (lost : ℕ) → halt ≡ By stop → StopsStream order key first before after there then told told' halt lost
      → StopsWhole order key before after there then stop
  stops_whole halt stop lost by stops = record {
    first = first;
    fresh = fresh;
    told = told;
    told_behind = told';
    stopped = inl (lost, subst (λ (h : Halt). StopsStream order key first before after there then told told' h lost) by stops);
  }

-- its failed calls
module _ {R W : Type 0} (reader reader' : Counted R) (output output' : Output W) where
  pub counts_stopped : (halt : Halt) (stop : Stop) (lost : ℕ) → halt ≡ By stop → CountsHalt reader reader' output output' halt lost
      → CountsStop reader reader' output output' stop
  counts_stopped halt (Refused e) lost by counts = tt
  counts_stopped halt Fault lost by counts =
      let one : CountsHalt reader reader' output output' (By Fault) lost = subst (λ (h : Halt). CountsHalt reader reader' output output' h lost) by counts in
      elim one [
        | inl of_writer ↦ omega (arith, of_writer.0, of_writer.1.failed)
        | inr of_reader ↦ omega (arith, of_reader.0, of_reader.1.failed)
      ]

  pub counts_lost : (lost : ℕ) → failed_count reader' ≡ failed_count reader → CountsLost output output' lost 0 → 0 < lost
      → CountsStop reader reader' output output' Fault
  counts_lost lost same counts some = omega (arith, same, counts.failed, some)

-- ---- what is put in its place

module _ (order : Order) (file : Option Contents) (input read after blank there then : Contents) (key : Key) (is_whole : Bool) (made put : Result Sent Stop)
    (keyed : IsKeyOf file key) (is_read : read ≡ input) (is_there : there ≡ blank) where
  pub splits : (new : Contents) (x : Sent) → put ≡ Ok x → IsPutFrom is_whole made put → IfOk made (SendsWhole order key read after there then) → new ≡ then
      → Splits order file input blank new x
  splits new x is from sends is_new = record {
    key = key;
    keyed = keyed;
    after = after;
    sends = made_put input read blank there then is_whole made put is_read is_there (λ i t n y. SendsWhole order key i after t n y) new x is from sends is_new;
  }

  pub stops_split : (stop : Stop) → put ≡ Err stop → IsPutFrom is_whole made put → IfErr made (StopsWhole order key read after there then)
      → StopsSplit order file input blank stop
  stops_split stop is from stops =
      elim (made_stops input read blank there then is_whole made put is_read is_there (λ i t n s. StopsWhole order key i after t n s) stop is from stops) [
        | inl reading ↦ inl reading
        | inr stopped ↦ inr (key, after, then, keyed, stopped)
      ]

-- no cell is lost, and no call failed
pub sent_counted : (made put : Result Sent Stop) (is_whole : Bool) (order : Order) (key : Key) (before after there then : Contents) (x : Sent) → put ≡ Ok x
    → IsPutFrom is_whole made put → IfOk made (SendsWhole order key before after there then) → (n : ℕ) → n ≡ 0 → x.lost ≡ counted n
sent_counted made put is_whole order key before after there then x is (inl same) sends n none =
    let all : SendsWhole order key before after there then x =
    subst (λ (r : Result Sent Stop). IfOk r (SendsWhole order key before after there then)) (same ∙ is) sends in
    all.none_lost ∙ sym (ap counted none)
sent_counted made put is_whole order key before after there then x is (inr stopped) sends n none = absurd (cc (is, stopped.1))
