-- How a run ends that guards a file.
use Rattle.std.proofs.Common.{◌≡◌, ℕ, ◌<◌, Bool, Option, Result, Ok, Err, IfOk, IfErr, refl, inl, inr, sym, subst}
use Rattle.rq_streams.specs.declared.run.Stop.{Stop}
use Rattle.rq_streams.specs.declared.run.Stop.TheVariants.{Fault, Refused}
use Rattle.rq_cells.specs.Cells.{Key}
use Rattle.rq_guard.specs.declared.protecting.GuardOrder.{GuardOrder}
use Rattle.rq_guard.specs.declared.protecting.Guarded.{Guarded}
use Rattle.rq_guard.specs.Protecting.{Protects, StopsProtecting}
use Rattle.rq_command.specs.declared.ending.End.{End}
use Rattle.rq_devices.specs.Failed.{Fails}
use Rattle.rq_devices.specs.Keyed.{IsKeyOf}
use Rattle.rq_devices.specs.Placed.{Contents}
use Rattle.rq_command.specs.Guarding.{Guards, StopsGuard}
use Rattle.rq_command.specs.Program.{Failures, end_of}
use Rattle.rq_command.proofs.Made.{IsPutFrom, made_put, made_stops}

-- so many failed in a run that something stopped
pub stopped_by : (r : Result End Stop) (stop : Stop) (a b : Option ℕ) (n : ℕ) → r ≡ Err stop → Fails a b n → (stop ≡ Fault → 0 < n) → Failures (end_of r) a b
stopped_by r Fault a b n is fails some = subst (λ (e : Result End Stop). Failures (end_of e) a b) (sym is) (n, fails, some refl)
stopped_by r (Refused e) a b n is fails some = subst (λ (e : Result End Stop). Failures (end_of e) a b) (sym is) (n, fails, tt)

module _ (order : GuardOrder) (file : Option Contents) (input read after blank there then : Contents) (key : Key) (is_whole : Bool) (made put : Result Guarded Stop)
    (keyed : IsKeyOf file key) (is_read : read ≡ input) (is_there : there ≡ blank) where
  pub guards : (new : Contents) (x : Guarded) → put ≡ Ok x → IsPutFrom is_whole made put → IfOk made (Protects order key read after there then) → new ≡ then
      → Guards order file input blank new x
  guards new x is from protects is_new = record {
    key = key;
    keyed = keyed;
    after = after;
    protects = made_put input read blank there then is_whole made put is_read is_there (λ i t n y. Protects order key i after t n y) new x is from protects is_new;
  }

  pub stops_guard : (stop : Stop) → put ≡ Err stop → IsPutFrom is_whole made put → IfErr made (StopsProtecting order key read after there then)
      → StopsGuard order file input blank stop
  stops_guard stop is from stops =
      elim (made_stops input read blank there then is_whole made put is_read is_there (λ i t n s. StopsProtecting order key i after t n s) stop is from stops) [
        | inl reading ↦ inl reading
        | inr stopped ↦ inr (key, after, then, keyed, stopped)
      ]
