-- The cells of senders, all of which have to be written.
use Rattle.std.proofs.Common.{◌≡◌, ℕ, ◌+◌, List, [], ◌++◌, Option, Err, inl, refl, ap, subst, arith, append-nil}
use Rattle.std.specs.Io.KnownBytes.{Appends}
use Rattle.std.proofs.KnownBytes.{Appends-trans}
use Rattle.rq_streams.specs.declared.counted.Counted.{Counted}
use Rattle.rq_streams.specs.declared.run.Stop.{Stop}
use Rattle.rq_streams.specs.declared.run.Stop.TheVariants.{Fault, Refused}
use Rattle.rq_streams.specs.Counted.{failed_count}
use Rattle.rq_streams.specs.Ends.{failed_calls}
use Rattle.rq_cast.specs.declared.output.Output.{Output}
use Rattle.rq_cast.specs.Calls.{Call, lost_in}
use Rattle.rq_cast.specs.Output.{CountsLost}
use Rattle.rq_cast.specs.Sent.{Sending, cell_count, AreSent, SendsFirst, StopsSending}
use Rattle.rq_guard.specs.Protecting.{AllThen, Adds, SendsAll, StopsAll, CountsFault, CountsStop}

module _ (s : Sending) (there then : Option (List ℕ)) (told told' : Option (List Call)) (calls : List Call) where
  -- none is lost
  pub sends_all : lost_in calls ≡ 0 → SendsFirst s (cell_count s) calls [] [] told told' there then → SendsAll s there then
  sends_all none sends = (
    sends.written,
    (calls, sends.sent, none),
    subst (Appends there then) (append-nil sends.written) sends.appended,
  )

  -- some are
  pub stops_lost : SendsFirst s (cell_count s) calls [] [] told told' there then → StopsAll s there then Fault
  stops_lost sends = (
    sends.written ++ [],
    record {
      number = cell_count s;
      within = omega arith;
      cells = sends.written;
      calls = calls;
      sent = sends.sent;
      behind = [];
      more = [];
      stopped = inl (refl, refl);
      is = refl;
    },
    sends.appended,
  )

  pub stops_all : (stop : Stop) → StopsSending s calls told told' there then stop → StopsAll s there then stop
  stops_all stop stops = (
    stops.sends.written ++ stops.behind,
    record {
      number = stops.number;
      within = stops.within;
      cells = stops.sends.written;
      calls = calls;
      sent = stops.sends.sent;
      behind = stops.behind;
      more = stops.more;
      stopped = stops.stopped;
      is = refl;
    },
    stops.sends.appended,
  )

  none_lost : (n : ℕ) (written : List ℕ) → n ≡ 0 → AreSent s n written calls → lost_in calls ≡ 0
  none_lost n written none sent = ap lost_in (subst (λ m. AreSent s m written calls) none sent).1

  -- a fault is a failed call
  pub counts_stopped : {W : Type 0} (o o' : Output W) (stop : Stop) → CountsLost o o' (lost_in calls) (failed_calls {X = ℕ} (Err stop))
      → StopsSending s calls told told' there then stop → CountsFault o o' stop
  counts_stopped o o' Fault counts stops = omega (arith, counts.failed)
  counts_stopped o o' (Refused e) counts stops =
      omega (arith, counts.failed, none_lost stops.number stops.sends.written stops.stopped.1 stops.sends.sent)

-- one sender's cells, and then what is behind them
pub all_then : (s : Sending) (P : List ℕ → Type 0) (there mid then : Option (List ℕ)) → SendsAll s there mid → Adds P mid then → Adds (AllThen s P) there then
all_then s P there mid then all behind = (all.0 ++ behind.0, (all.0, behind.0, all.1, behind.1, refl), Appends-trans there mid then all.0 behind.0 all.2 behind.2)

-- none failed before
pub counts_before : {W : Type 0} (o mid o' : Output W) (stop : Stop) → CountsLost o mid 0 0 → CountsFault mid o' stop → CountsFault o o' stop
counts_before o mid o' Fault before counts = omega (arith, before.failed, counts)
counts_before o mid o' (Refused e) before counts = omega (arith, before.failed, counts)

-- ---- the reader's calls too

pub reader_stopped : {R W : Type 0} (X : Type 0) (r mid r' : Counted R) (o o' : Output W) (stop : Stop) → failed_count mid ≡ failed_count r → CountsLost o o' 0 0
    → failed_count r' ≡ failed_count mid + failed_calls {X = X} (Err stop) → CountsStop r r' o o' stop
reader_stopped X r mid r' o o' Fault same none more = omega (arith, same, none.failed, more)
reader_stopped X r mid r' o o' (Refused e) same none more = (omega (arith, same, more), omega (arith, none.failed))

pub writer_stopped : {R W : Type 0} (r mid r' : Counted R) (o between o' : Output W) (stop : Stop) → failed_count mid ≡ failed_count r → failed_count r' ≡ failed_count mid + 0
    → CountsLost o between 0 0 → CountsFault between o' stop → CountsStop r r' o o' stop
writer_stopped r mid r' o between o' Fault same more none failed = omega (arith, same, more, none.failed, failed)
writer_stopped r mid r' o between o' (Refused e) same more none failed = (omega (arith, same, more), omega (arith, none.failed, failed))
