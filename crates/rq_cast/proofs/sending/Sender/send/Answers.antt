use Rattle.std.proofs.Common.{◌≡◌, ℕ, ◌+◌, ◌≤◌, ◌<◌, Bool, true, false, List, [], ◌++◌, Option, refl, sym, ap, subst, arith, Ok, Err}
use Rattle.std.proofs.lemmas.Result.{err_from_is_err_and}
use Rattle.std.proofs.KnownBytes.{Keeps-refl}
use Rattle.rq_streams.specs.declared.run.Stop.{Stop}
use Rattle.rq_streams.specs.Ends.{failed_calls}
use Rattle.rq_cast.specs.declared.output.Output.{Output}
use Rattle.std.specs.Io.KnownBytes.{Appends}
use Rattle.rq_cast.specs.Calls.{Call, kept_of, lost_in, one_call, Tells}
use Rattle.rq_cast.specs.Output.{sink, CountsLost}
use Rattle.rq_cast.specs.Writing.{WritesCell, failed_writes, loses_cell, lost_cells}
use Rattle.rq_cast.specs.Sent.{Sending, sending_of, cell_count, IsSentCell, SendsFirst, StopsSending}
use Rattle.rq_cast.proofs.RowCells.{cell_there}
use Rattle.rq_cast.proofs.SentCells.{sends_none, sends_more, kept_by, sends_kept, stops_within, stops_behind, stops_wanting}
use Rattle.rq_cast.proofs.ToldCalls.{tells_same, lost_in-append}
use Rattle.rq_cast.proofs.sending.Sender.send.Goals as goal
use Rattle.rq_cast.proofs.sending.Sender.send.Goals.{then-not-branch, else-not-branch, After-as_slice-cell, After-write_cell}
use Rattle.rq_cast.proofs.sending.Sender.send.Given.{Over}

-- what `stops` says
abbrev StopsLosing : {W : Type 0} → Sending → Output W → Output W → Option (List Call) → Option (List Call) → Option (List ℕ) → Option (List ℕ) → Stop → Type 0
StopsLosing s old new told told' there then stop =
    (calls : List Call) × CountsLost old new (lost_in calls) (failed_calls {X = ℕ} (Err stop)) × StopsSending s calls told told' there then stop

-- the cell that is written
cell_is : (g : Over) (c : After-as_slice-cell g) → IsSentCell (sending_of c.args.self.now) c.loop-number.number c.as_slice-cell.result.now
cell_is g c =
    let s = sending_of c.args.self.now in
    subst (IsSentCell s c.loop-number.number) (sym c.as_slice-cell.ensures.value)
    (cell_there s c.make.new.row c.make.ensures.row c.loop-number.number c.make.ensures.from c.make.ensures.end c.index.result.now c.index.ensures)

pub returns-in_err-row-clause-stops : goal.returns-in_err-row-clause-stops
returns-in_err-row-clause-stops g c =
    let s = sending_of c.args.self.now in
    let out = c.args.output.now in
    let there = g.W.Write.contents (sink out) in
    let p = err_from_is_err_and c.from_residual.result c.from_residual.ensures.1 in
    let counts : CountsLost out out 0 0 = record { lost_more = omega arith; failed = omega arith } in
    let told = g.P.Pace.calls c.args.pace.now in
    rw (p.1, p.2) ([], counts, stops_wanting s told there there c.in_err-row.field-0.0 c.in_err-row.ensures.memory (Keeps-refl there))

pub loop-number-init : goal.loop-number-init
loop-number-init g c = record {
  sends = ([], refl, sends_none (sending_of c.args.self.now) (g.P.Pace.calls c.args.pace.now) (g.W.Write.contents (sink c.args.output.now)));
  counts = record { lost_more = omega arith; failed = omega arith };
  few = omega arith;
  row = c.in_ok-row.ensures.row;
  behind = omega (arith, c.in_ok-row.ensures.none);
}

pub returns-in_err-write_cell-clause-stops : goal.returns-in_err-write_cell-clause-stops
returns-in_err-write_cell-clause-stops g c =
    let s = sending_of c.args.self.now in
    let n = c.loop-number.number in
    let old = c.args.output.now in
    let new = c.write_cell.new.output in
    let told = g.P.Pace.calls c.args.pace.now in
    let told_mid = g.P.Pace.calls c.loop-number.pace in
    let told' = g.P.Pace.calls c.write_cell.new.pace in
    let there = g.W.Write.contents (sink old) in
    let mid = g.W.Write.contents (sink c.loop-number.output) in
    let then = g.W.Write.contents (sink new) in
    let kept = c.loop-number.invariant in
    let calls = kept.sends.0 in
    let bytes = c.as_slice-cell.result.now in
    let cell = cell_is g (goal.at.returns-in_err-write_cell-clause-stops g c).After-as_slice-cell in
    let below : n < cell_count s = omega (arith, c.loop-number-test.true, c.cells-number-end.ensures.value) in
    let failed = c.in_err-write_cell.ensures in
    let one = tells_same told_mid (g.P.Pace.calls c.wait.new.self) told' (one_call bytes false) c.wait.ensures failed.told in
    let p = err_from_is_err_and c.from_residual-in_err-write_cell.result c.from_residual-in_err-write_cell.ensures.1 in
    let counts : CountsLost old new (lost_in calls) 1 = record {
      lost_more = omega (arith, kept.counts.lost_more, failed.lost, kept.sends.1);
      failed = omega (arith, kept.counts.failed, failed.counts, kept.sends.1);
    } in
    rw (p.1, p.2) (subst (StopsLosing s old new told told' there then) (sym failed.stops) (
      calls,
      counts,
      stops_within s n calls told told_mid there mid then kept.sends.2 told' failed.beginning.0 bytes below cell one failed.beginning.1,
    ))

-- the cells so far, and one more
module _ (g : Over) (c : After-write_cell g) where
  abbrev s : Sending
  s = sending_of c.args.self.now

  abbrev bytes : List ℕ
  bytes = c.as_slice-cell.result.now

  abbrev calls : List Call
  calls = c.loop-number.invariant.sends.0

  told_one : (is_lost : Bool) → Tells (g.P.Pace.calls c.wait.new.self) (g.P.Pace.calls c.write_cell.new.pace) (one_call bytes is_lost)
      → Tells (g.P.Pace.calls c.loop-number.pace) (g.P.Pace.calls c.write_cell.new.pace) (one_call bytes is_lost)
  told_one is_lost = tells_same (g.P.Pace.calls c.loop-number.pace) (g.P.Pace.calls c.wait.new.self) (g.P.Pace.calls c.write_cell.new.pace)
      (one_call bytes is_lost) c.wait.ensures

  sent_more : IsSentCell s c.loop-number.number bytes → (is_lost : Bool)
      → Tells (g.P.Pace.calls c.wait.new.self) (g.P.Pace.calls c.write_cell.new.pace) (one_call bytes is_lost)
      → Appends (g.W.Write.contents (sink c.loop-number.output)) (g.W.Write.contents (sink c.write_cell.new.output))
      (kept_of (record { bytes = bytes; is_lost = is_lost }))
      → SendsFirst s (c.loop-number.number + 1) (calls ++ one_call bytes is_lost) [] [] (g.P.Pace.calls c.args.pace.now)
      (g.P.Pace.calls c.write_cell.new.pace) (g.W.Write.contents (sink c.args.output.now)) (g.W.Write.contents (sink c.write_cell.new.output))
  sent_more cell is_lost told =
      sends_more s c.loop-number.number calls (g.P.Pace.calls c.args.pace.now) (g.P.Pace.calls c.loop-number.pace)
      (g.W.Write.contents (sink c.args.output.now)) (g.W.Write.contents (sink c.loop-number.output)) (g.W.Write.contents (sink c.write_cell.new.output))
      c.loop-number.invariant.sends.2 (g.P.Pace.calls c.write_cell.new.pace) (record { bytes = bytes; is_lost = is_lost }) cell (told_one is_lost told)

pub loop-number-preserved : goal.loop-number-preserved
loop-number-preserved g c =
    let moved = (goal.at.loop-number-preserved g c).After-write_cell in
    let mid = g.W.Write.contents (sink c.loop-number.output) in
    let then = g.W.Write.contents (sink c.write_cell.new.output) in
    let kept = c.loop-number.invariant in
    let done = c.in_ok-write_cell.ensures in
    let cell = cell_is g (goal.at.loop-number-preserved g c).After-as_slice-cell in
    let told_as = λ (b : Bool). Tells (g.P.Pace.calls c.wait.new.self) (g.P.Pace.calls c.write_cell.new.pace) (one_call (bytes g moved) (loses_cell (Ok b))) in
    elim c.if-not-branch.branch [
      | then-not-branch w ↦
          let more = one_call (bytes g moved) true in
          let sum = lost_in-append (calls g moved) more in
          record {
            sends = (
              calls g moved ++ more,
              omega (arith, w.lost-is, kept.sends.1, sum),
              sent_more g moved cell true (subst told_as w.if-not-branch.true done.told)
                  (kept_by mid then (bytes g moved) (subst (WritesCell mid then (bytes g moved)) w.if-not-branch.true done.writes)),
            );
            counts = record {
              lost_more = omega (arith, kept.counts.lost_more, w.lost-is, done.lost, ap (λ b. lost_cells (Ok b)) w.if-not-branch.true);
              failed = omega (arith, kept.counts.failed, w.lost-is, done.counts, ap (λ b. failed_writes (Ok b)) w.if-not-branch.true);
            };
            few = omega (arith, kept.few, w.lost-is);
            row = c.make.ensures.row;
            behind = omega (arith, c.make.ensures.from);
          }
      | else-not-branch w ↦
          let more = one_call (bytes g moved) false in
          let sum = lost_in-append (calls g moved) more in
          record {
            sends = (
              calls g moved ++ more,
              omega (arith, w.lost-is, kept.sends.1, sum),
              sent_more g moved cell false (subst told_as w.if-not-branch.false done.told)
                  (subst (WritesCell mid then (bytes g moved)) w.if-not-branch.false done.writes),
            );
            counts = record {
              lost_more = omega (arith, kept.counts.lost_more, w.lost-is, done.lost, ap (λ b. lost_cells (Ok b)) w.if-not-branch.false);
              failed = omega (arith, kept.counts.failed, w.lost-is, done.counts, ap (λ b. failed_writes (Ok b)) w.if-not-branch.false);
            };
            few = omega (arith, kept.few, w.lost-is);
            row = c.make.ensures.row;
            behind = omega (arith, c.make.ensures.from);
          }
    ]

pub returns-in_err-flush-clause-stops : goal.returns-in_err-flush-clause-stops
returns-in_err-flush-clause-stops g c =
    let s = sending_of c.args.self.now in
    let old = c.args.output.now in
    let new = c.flush.new.self in
    let told = g.P.Pace.calls c.args.pace.now in
    let told' = g.P.Pace.calls c.loop-number.pace in
    let there = g.W.Write.contents (sink old) in
    let then = g.W.Write.contents (sink new) in
    let kept = c.loop-number.invariant in
    let calls = kept.sends.0 in
    let within : c.loop-number.number ≤ cell_count s = omega (arith, c.loop-number.auto.number-end, c.cells-number-end.ensures.value) in
    let p = err_from_is_err_and c.from_residual-in_err-flush.result c.from_residual-in_err-flush.ensures.1 in
    let failed = c.in_err-flush.ensures in
    let counts : CountsLost old new (lost_in calls) 1 = record {
      lost_more = omega (arith, kept.counts.lost_more, failed.lost, kept.sends.1);
      failed = omega (arith, kept.counts.failed, failed.counts, ap (λ e. failed_calls {X = Unit {0}} (Err e)) failed.err, kept.sends.1);
    } in
    rw (p.1, p.2) (subst (StopsLosing s old new told told' there then) (sym failed.err) (
      calls,
      counts,
      stops_behind s c.loop-number.number calls told told' there (g.W.Write.contents (sink c.loop-number.output)) then kept.sends.2 within failed.bytes,
    ))

-- all are begun
pub returns-clause-sends : goal.returns-clause-sends
returns-clause-sends g c =
    let s = sending_of c.args.self.now in
    let kept = c.loop-number.invariant in
    let calls = kept.sends.0 in
    let told = g.P.Pace.calls c.args.pace.now in
    let told' = g.P.Pace.calls c.loop-number.pace in
    let there = g.W.Write.contents (sink c.args.output.now) in
    let mid = g.W.Write.contents (sink c.loop-number.output) in
    let then = g.W.Write.contents (sink c.flush.new.self) in
    let all : c.loop-number.number ≡ cell_count s =
    omega (arith, c.loop-number-test.false, c.loop-number.auto.number-end, c.cells-number-end.ensures.value) in (
      calls,
      kept.sends.1,
      subst (λ n. SendsFirst s n calls [] [] told told' there then) all
          (sends_kept s c.loop-number.number calls told told' there mid then kept.sends.2 c.in_ok-flush.ensures.bytes),
    )
