use Rattle.std.proofs.Common.{◌≡◌, inl, inr, ℕ, ◌+◌, Bor, Vec, Global, List, map, Option, option_map, Result, Ok, Err, IfOk, IfErr, refl, sym, subst, ap, ◌∙◌, arith}
use Rattle.std.proofs.lemmas.Result.{err_from_is_err_and}
use Rattle.rq_cast.specs.declared.halt.Halt.{Halt}
use Rattle.rq_cast.specs.declared.halt.Halt.TheVariants.{By, Changed}
use Rattle.rq_cast.specs.declared.stream_sending.Sent.{Sent}
use Rattle.rq_cast.specs.SentParts.{halted_calls}
use Rattle.rq_streams.specs.Ends.{failed_calls}
use Rattle.rq_streams.specs.declared.run.Stop.TheVariants.{Fault}
use Rattle.rq_cast.specs.declared.order.Order.{Order}
use Rattle.rq_cells.specs.Cells.{Key}
use Rattle.rq_words.specs.Values.{times_of}
use Rattle.rq_devices.specs.Failed.{Fails}
use Rattle.rq_devices.specs.Keyed.{IsKeyOf, IsKeyRead, key_file}
use Rattle.rq_command.specs.Outside.{KnownCalls, Outside, outside}
use Rattle.rq_devices.specs.Folder.{IsFiled, KeepsBut}
use Rattle.rq_devices.specs.Placed.{Contents}
use Rattle.rq_devices.specs.Spots.{Spots, OnOutput}
use Rattle.rq_command.specs.Program.{SendsAll, SendsSome}
use Rattle.rq_command.specs.Rounds.{CountsSent, CountsHalt, SendsRounds, StopsRounds}
use Rattle.rq_command.proofs.Doing.{as_asked}
use Rattle.rq_command.proofs.Failing.{passed_on, stopped_later}
use Rattle.rq_devices.proofs.Counting.{failed_through, once}
use Rattle.rq_devices.proofs.Putting.{on_output}
use Rattle.rq_command.proofs.program.send.Goals as goal
use Rattle.rq_command.proofs.program.send.Goals.{After-finish-finished}
use Rattle.rq_command.proofs.program.send.Given.{Over}

pub returns-in_err-writer-clause-failures : goal.returns-in_err-writer-clause-failures
returns-in_err-writer-clause-failures g c =
    passed_on c.from_residual-in_err-writer.result c.in_err-writer.field-0.0 (g.D.Devices.failed c.args.devices.now) (g.D.Devices.failed c.prepare.new.devices)
    (g.D.Devices.failed c.create.new.self) c.from_residual-in_err-writer.ensures.1 c.in_ok-key.ensures.counts c.in_err-writer.ensures.counts

pub returns-in_err-finished-in-Ok-clause-failures : goal.returns-in_err-finished-in-Ok-clause-failures
returns-in_err-finished-in-Ok-clause-failures g c =
    let failed = g.D.Devices.failed in
    let a = failed c.args.devices.now in
    let w = failed c.create.new.self in
    let s = failed c.send_rounds-writer.new.devices in
    let z = failed c.finish-finished.new.self in
    let stop = c.in_err-finished-in-Ok.field-0.0 in
    let one = failed_calls {X = Sent} (Err stop) in
    let counts : CountsSent w s c.in-Ok.sent = subst (λ (r : Result Sent Halt). IfOk r (CountsSent w s)) c.in-Ok.is c.send_rounds-writer.ensures.counts in
    let p = err_from_is_err_and c.from_residual-in_err-finished-in-Ok.result c.from_residual-in_err-finished-in-Ok.ensures.1 in
    stopped_later c.from_residual-in_err-finished-in-Ok.result stop a z counts.0 (p.1 ∙ ap (λ s. Err s) p.2)
    (failed_through a (failed c.prepare.new.devices) w s z counts.0 one (one + counts.0) c.in_ok-key.ensures.counts c.in_ok-writer.ensures.counts counts.1
    c.in_err-finished-in-Ok.ensures.counts (omega arith))

-- ---- what is so of the rounds is so of what was asked for

module _ (g : Over) (c : After-finish-finished g) where
  abbrev stands : List (List ℕ) → Contents
  stands = g.D.Devices.stands c.args.devices.now

  abbrev file : Option Contents
  file = key_file stands (option_map (λ s. s.now) c.args.job.key)

  abbrev input : Contents
  input = stands (map (λ s. s.now) c.args.job.files.items)

  abbrev told : KnownCalls
  told = g.T.Pace.calls c.args.teller.now

  abbrev told' : KnownCalls
  told' = g.T.Pace.calls c.send_rounds-writer.new.teller

  abbrev a : Option ℕ
  a = g.D.Devices.failed c.args.devices.now

  abbrev w : Option ℕ
  w = g.D.Devices.failed c.create.new.self

  abbrev s : Option ℕ
  s = g.D.Devices.failed c.send_rounds-writer.new.devices

  abbrev z : Option ℕ
  z = g.D.Devices.failed c.finish-finished.new.self

  abbrev placed : Spots
  placed = g.D.Devices.placed c.finish-finished.new.self

  abbrev around : Outside
  around =
      outside (g.D.Devices.terminal c.args.devices.now) told told' a z (g.D.Devices.earlier c.args.devices.now) (g.D.Devices.earlier c.finish-finished.new.self)
      (g.D.Devices.stands c.finish-finished.new.self)

  keyed : IsKeyOf file c.in-Some.key
  keyed = subst (λ r. IsKeyRead file (option_map (λ o. o.0) r)) c.in-Some.is c.in_ok-key.ensures.key

  filed : IsFiled OnOutput (g.D.Writer.Write.contents c.send_rounds-writer.result.0) (g.D.Devices.placed c.send_rounds-writer.new.devices) placed
  filed =
      on_output c.is_ok.result (g.D.Writer.Write.contents c.send_rounds-writer.result.0) (g.D.Devices.placed c.send_rounds-writer.new.devices) placed c.finish-finished.result
      c.finish-finished.ensures.placed

  others : KeepsBut OnOutput (g.D.Devices.placed c.args.devices.now) placed
  others other differs =
      filed.others other differs ∙ ap (λ there. there other) (c.send_rounds-writer.ensures.kept ∙ c.create.ensures.kept ∙ c.prepare.ensures.kept)

  asked : (P : Order → Key → ℕ → Contents → KnownCalls → Contents → Contents → Type 0)
      → P c.new-rounds.result.order c.new-rounds.result.key c.new-rounds.result.all (g.D.Devices.stands c.create.new.self (map (λ s. s.now) c.new-rounds.result.files.items))
      (g.T.Pace.calls c.prepare.new.teller) (g.D.Writer.Write.contents c.new-rounds.result.writer) (g.D.Writer.Write.contents c.send_rounds-writer.result.0)
      → P c.args.job.order c.in-Some.key (times_of c.args.job.rounds) input told (g.D.Devices.blank OnOutput) (placed OnOutput)
  asked P =
      let made = c.new-rounds.ensures in
      as_asked P made.order made.key made.all
      (ap (λ (v : Vec (Bor (List ℕ)) Global). g.D.Devices.stands c.create.new.self (map (λ s. s.now) v.items)) made.files
      ∙ ap (λ there. there (map (λ s. s.now) c.args.job.files.items)) (c.create.ensures.stays ∙ c.in_ok-key.ensures.stays))
      c.prepare.ensures.told (ap g.D.Writer.Write.contents made.writer ∙ c.in_ok-writer.ensures.blank) (sym filed.there)

  abbrev Sends : Sent → Order → Key → ℕ → Contents → KnownCalls → Contents → Contents → Type 0
  Sends sent o k n i before there then = SendsRounds o k n i before told' there then sent

  all_sent : (sent : Sent) → c.send_rounds-writer.result.1 ≡ Ok sent
      → SendsAll c.args.job.order (times_of c.args.job.rounds) file input around (g.D.Devices.blank OnOutput) (placed OnOutput) sent
  all_sent sent is = record {
    key = c.in-Some.key;
    keyed = keyed;
    sends = asked (Sends sent) (subst (λ (r : Result Sent Halt). IfOk r (λ sent. Sends sent c.new-rounds.result.order c.new-rounds.result.key c.new-rounds.result.all
        (g.D.Devices.stands c.create.new.self (map (λ s. s.now) c.new-rounds.result.files.items)) (g.T.Pace.calls c.prepare.new.teller)
        (g.D.Writer.Write.contents c.new-rounds.result.writer) (g.D.Writer.Write.contents c.send_rounds-writer.result.0))) is c.send_rounds-writer.ensures.sends);
  }

  abbrev Stops : Halt → Order → Key → ℕ → Contents → KnownCalls → Contents → Contents → Type 0
  Stops halt o k n i before there then = (lost : ℕ) × CountsHalt w s halt lost × StopsRounds o k n i before told' there then halt lost

  stopped_at : (halt : Halt) → c.send_rounds-writer.result.1 ≡ Err halt → Stops halt c.args.job.order c.in-Some.key (times_of c.args.job.rounds) input told (g.D.Devices.blank OnOutput)
      (placed OnOutput)
  stopped_at halt is =
      asked (Stops halt) (subst (λ (r : Result Sent Halt). IfErr r (λ halt. Stops halt c.new-rounds.result.order c.new-rounds.result.key c.new-rounds.result.all
      (g.D.Devices.stands c.create.new.self (map (λ s. s.now) c.new-rounds.result.files.items)) (g.T.Pace.calls c.prepare.new.teller)
      (g.D.Writer.Write.contents c.new-rounds.result.writer) (g.D.Writer.Write.contents c.send_rounds-writer.result.0))) is c.send_rounds-writer.ensures.stops)

  -- so many calls failed: lost cells, what stops it, and one at the end
  failed_in_all : (halt : Halt) (is : c.send_rounds-writer.result.1 ≡ Err halt)
      → Fails a z ((stopped_at halt is).0 + halted_calls halt + failed_calls c.finish-finished.result)
  failed_in_all halt is =
      let stops = stopped_at halt is in
      failed_through a (g.D.Devices.failed c.prepare.new.devices) w s z (stops.0 + halted_calls halt) (failed_calls c.finish-finished.result)
      (stops.0 + halted_calls halt + failed_calls c.finish-finished.result) c.in_ok-key.ensures.counts c.in_ok-writer.ensures.counts stops.1
      c.finish-finished.ensures.counts refl

  some_sent : (halt : Halt) → c.send_rounds-writer.result.1 ≡ Err halt
      → SendsSome c.args.job.order (times_of c.args.job.rounds) file input around (g.D.Devices.blank OnOutput) (placed OnOutput) halt
  some_sent halt is =
      let stops = stopped_at halt is in
      record {
        key = c.in-Some.key;
        keyed = keyed;
        lost = stops.0;
        stops = stops.2;
        at_end = failed_calls c.finish-finished.result;
        once = once c.finish-finished.result;
        failed = failed_in_all halt is;
      }

pub returns-in_err-finished-in-Ok-clause-does : goal.returns-in_err-finished-in-Ok-clause-does
returns-in_err-finished-in-Ok-clause-does g c =
    let moved = (goal.at.returns-in_err-finished-in-Ok-clause-does g c).After-finish-finished in
    let stop = c.in_err-finished-in-Ok.field-0.0 in
    let one = failed_calls {X = Sent} (Err stop) in
    let fault : stop ≡ Fault = c.in_err-finished-in-Ok.ensures.fault in
    let counts : CountsSent (w g moved) (s g moved) c.in-Ok.sent =
    subst (λ (r : Result Sent Halt). IfOk r (CountsSent (w g moved) (s g moved))) c.in-Ok.is c.send_rounds-writer.ensures.counts in
    let once : one ≡ 1 = ap (λ e. failed_calls {X = Sent} (Err e)) fault in
    let p = err_from_is_err_and c.from_residual-in_err-finished-in-Ok.result c.from_residual-in_err-finished-in-Ok.ensures.1 in
    rw (p.1, p.2) (inr (
      inr (record {
        fault = fault;
        sent = c.in-Ok.sent;
        all = all_sent g moved c.in-Ok.sent c.in-Ok.is;
        lost = counts.0;
        lost_are = counts.2;
        failed = failed_through (a g moved) (g.D.Devices.failed c.prepare.new.devices) (w g moved) (s g moved) (z g moved) counts.0 one (counts.0 + 1)
            c.in_ok-key.ensures.counts c.in_ok-writer.ensures.counts counts.1 c.in_err-finished-in-Ok.ensures.counts (omega (arith, once));
      }),
      others g moved,
    ))

pub returns-in_ok-finished-in-Ok-clause-does : goal.returns-in_ok-finished-in-Ok-clause-does
returns-in_ok-finished-in-Ok-clause-does g c =
    let moved = (goal.at.returns-in_ok-finished-in-Ok-clause-does g c).After-finish-finished in
    (all_sent g moved c.in-Ok.sent c.in-Ok.is, others g moved)

pub returns-in-Err-By-clause-does : goal.returns-in-Err-By-clause-does
returns-in-Err-By-clause-does g c =
    let by : c.in-Err-By.field-0 ≡ By c.in-Err-By.stop = rw c.in-Err-By.is at c.in-Err-By.field-0-is in
    let moved = (goal.at.returns-in-Err-By-clause-does g c).After-finish-finished in
    inr (inl (some_sent g moved (By c.in-Err-By.stop) (c.in-Err-By.is ∙ ap (λ h. Err h) by)), others g moved)

pub returns-in-Err-Changed-clause-does : goal.returns-in-Err-Changed-clause-does
returns-in-Err-Changed-clause-does g c =
    let differs : c.in-Err-Changed.field-0 ≡ Changed c.in-Err-Changed.part = rw c.in-Err-Changed.is at c.in-Err-Changed.field-0-is in
    let moved = (goal.at.returns-in-Err-Changed-clause-does g c).After-finish-finished in
    (some_sent g moved (Changed c.in-Err-Changed.part) (c.in-Err-Changed.is ∙ ap (λ h. Err h) differs), others g moved)

pub returns-in-Err-By-clause-failures : goal.returns-in-Err-By-clause-failures
returns-in-Err-By-clause-failures g c =
    let moved = (goal.at.returns-in-Err-By-clause-failures g c).After-finish-finished in
    let stop = c.in-Err-By.stop in
    let one = failed_calls {X = Sent} (Err stop) in
    let more = failed_calls c.finish-finished.result in
    let by : c.in-Err-By.field-0 ≡ By stop = rw c.in-Err-By.is at c.in-Err-By.field-0-is in
    let is = c.in-Err-By.is ∙ ap (λ h. Err h) by in
    let lost = (stopped_at g moved (By stop) is).0 in
    let sum : lost + one + more ≡ one + (lost + more) = omega arith in
    stopped_later (Err stop) stop (a g moved) (z g moved) (lost + more) refl (subst (Fails (a g moved) (z g moved)) sum (failed_in_all g moved (By stop) is))

pub returns-in-Err-Changed-clause-failures : goal.returns-in-Err-Changed-clause-failures
returns-in-Err-Changed-clause-failures g c =
    let moved = (goal.at.returns-in-Err-Changed-clause-failures g c).After-finish-finished in
    let halt = c.in-Err-Changed.field-0 in (
      (stopped_at g moved halt c.in-Err-Changed.is).0 + halted_calls halt + failed_calls c.finish-finished.result,
      failed_in_all g moved halt c.in-Err-Changed.is,
      tt,
    )
