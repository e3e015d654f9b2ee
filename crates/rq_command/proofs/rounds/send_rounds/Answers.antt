use Rattle.std.proofs.Common.{◌≡◌, ◌<◌, ℕ, List, Bor, map, inl, inr, refl, sym, subst, ap, ◌∙◌, arith}
use Rattle.rq_cast.specs.declared.order.Order.{Order}
use Rattle.rq_devices.specs.Placed.{Contents}
use Rattle.rq_command.specs.RoundsSent.{SendsRound, StopsRound}
use Rattle.rq_command.proofs.RoundSteps.{HasSentRounds, none_so_far, one_more, still, stops_in, stops_before, all_sent}
use Rattle.rq_command.proofs.rounds.send_rounds.Goals as goal
use Rattle.rq_command.proofs.rounds.send_rounds.Given.{Over}
use Rattle.rq_command.proofs.rounds.send_rounds.Goals.{In-Ok}

-- ---- the first round

pub returns-in-Err-clause-stops : goal.returns-in-Err-clause-stops
returns-in-Err-clause-stops g c =
    let contents = g.D.Writer.Write.contents in
    let first = c.args.unsent in
    let input = g.D.Devices.stands c.args.devices.now (map (λ s. s.now) first.files.items) in
    let a = g.D.Devices.failed c.args.devices.now in
    let b = g.D.Devices.failed c.send_round.new.devices in
    let unsent = c.requires.unsent in
    let told = g.T.Pace.calls c.args.teller.now in
    let told' = g.T.Pace.calls c.send_round.new.teller in
    let stops = subst (λ (i : Contents). StopsRound contents i first c.in-Err.writer c.in-Err.halt told told' a b) c.requires.bytes c.in-Err.ensures.stops in
    stops_in contents first input first 0 told told a a b (none_so_far contents first input told a unsent) unsent unsent.some c.in-Err.writer c.in-Err.halt told' stops

-- it is sent
first_sent : (g : Over) (c : In-Ok g)
    → HasSentRounds g.D.Writer.Write.contents c.args.unsent (g.D.Devices.stands c.args.devices.now (map (λ s. s.now) c.args.unsent.files.items)) c.in-Ok.rounds 1
    (g.T.Pace.calls c.args.teller.now) (g.T.Pace.calls c.send_round.new.teller) (g.D.Devices.failed c.args.devices.now) (g.D.Devices.failed c.send_round.new.devices)
first_sent g c =
    let contents = g.D.Writer.Write.contents in
    let first = c.args.unsent in
    let input = g.D.Devices.stands c.args.devices.now (map (λ s. s.now) first.files.items) in
    let a = g.D.Devices.failed c.args.devices.now in
    let b = g.D.Devices.failed c.send_round.new.devices in
    let told = g.T.Pace.calls c.args.teller.now in
    let told' = g.T.Pace.calls c.send_round.new.teller in
    let sends = subst (λ (i : Contents). SendsRound contents i first c.in-Ok.rounds told told' a b) c.requires.bytes c.in-Ok.ensures.sends in
    one_more contents first input first 0 told told a a b (none_so_far contents first input told a c.requires.unsent) c.in-Ok.rounds told' sends

pub loop-round-init : goal.loop-round-init
loop-round-init g c = record {
  has = first_sent g (goal.at.loop-round-init g c).In-Ok;
  within = omega (arith, c.requires.unsent.some);
  stays = c.in-Ok.ensures.stays;
  kept = c.in-Ok.ensures.kept;
  filed = c.in-Ok.ensures.filed;
  earlier = c.in-Ok.ensures.earlier;
}

-- there is no cell
pub returns-then-rounds-eq0-clause-sends : goal.returns-then-rounds-eq0-clause-sends
returns-then-rounds-eq0-clause-sends g c =
    let first = c.args.unsent in
    let input = g.D.Devices.stands c.args.devices.now (map (λ s. s.now) first.files.items) in
    all_sent g.D.Writer.Write.contents first input c.requires.unsent c.in-Ok.rounds 1 (g.T.Pace.calls c.args.teller.now) (g.T.Pace.calls c.send_round.new.teller)
    (g.D.Devices.failed c.args.devices.now) (g.D.Devices.failed c.send_round.new.devices) (first_sent g (goal.at.returns-then-rounds-eq0-clause-sends g c).In-Ok)
    (inr (refl, c.if-rounds-eq0.true))

-- ---- the next one

-- the files can't be opened again
pub returns-in-Err-open_files-clause-stops : goal.returns-in-Err-open_files-clause-stops
returns-in-Err-open_files-clause-stops g c =
    let first = c.args.unsent in
    let input = g.D.Devices.stands c.args.devices.now (map (λ s. s.now) first.files.items) in
    let n = c.loop-round._round in
    let fewer : n < first.all = omega (arith, c.loop-round-test.true, c.in-Ok.ensures.sends.same.all) in
    let some : 0 < n = omega (arith, c.loop-round.auto._round) in
    stops_before g.D.Writer.Write.contents first input c.loop-round.rounds n (g.T.Pace.calls c.args.teller.now) (g.T.Pace.calls c.loop-round.teller)
    (g.D.Devices.failed c.args.devices.now) (g.D.Devices.failed c.loop-round.devices)
    (g.D.Devices.failed c.open_files.new.devices) c.loop-round.invariant.has c.requires.unsent fewer some c.in-Err-open_files.stop
    c.in-Err-open_files.ensures.stops c.in-Err-open_files.ensures.counts

pub returns-in-Err-open_files-clause-kept : goal.returns-in-Err-open_files-clause-kept
returns-in-Err-open_files-clause-kept g c = c.in-Err-open_files.ensures.kept ∙ c.loop-round.invariant.kept

pub returns-in-Err-open_files-clause-filed : goal.returns-in-Err-open_files-clause-filed
returns-in-Err-open_files-clause-filed g c = c.in-Err-open_files.ensures.filed ∙ c.loop-round.invariant.filed

pub returns-in-Err-open_files-clause-earlier : goal.returns-in-Err-open_files-clause-earlier
returns-in-Err-open_files-clause-earlier g c = c.in-Err-open_files.ensures.earlier ∙ c.loop-round.invariant.earlier

pub send_round-requires-in-loop-round : goal.send_round-requires-in-loop-round
send_round-requires-in-loop-round g c κs =
    let same = c.loop-round.invariant.has.same in
    let number : c.loop-round.rounds.number ≡ c.loop-round._round = c.loop-round.invariant.has.number in
    let fewer : c.loop-round.rounds.number < c.loop-round.rounds.all =
    omega (arith, number, same.all, c.loop-round-test.true, c.in-Ok.ensures.sends.same.all) in (
      (refl, tt),
      (
        subst (λ (o : Order). 0 < o.part) (sym same.order) c.requires.part,
        (subst (λ (o : Order). 0 < o.ids.step) (sym same.order) c.requires.step, fewer),
      ),
    )

-- the next one stops
pub returns-in-Err-send_round-clause-stops : goal.returns-in-Err-send_round-clause-stops
returns-in-Err-send_round-clause-stops g c =
    let contents = g.D.Writer.Write.contents in
    let first = c.args.unsent in
    let now = c.loop-round.rounds in
    let stands = g.D.Devices.stands c.loop-round.devices in
    let files = map (λ s. s.now) first.files.items in
    let input = g.D.Devices.stands c.args.devices.now files in
    let n = c.loop-round._round in
    let told = g.T.Pace.calls c.args.teller.now in
    let between = g.T.Pace.calls c.loop-round.teller in
    let told' = g.T.Pace.calls c.send_round-in-loop-round.new.teller in
    let a = g.D.Devices.failed c.args.devices.now in
    let b = g.D.Devices.failed c.loop-round.devices in
    let o = g.D.Devices.failed c.open_files.new.devices in
    let z = g.D.Devices.failed c.send_round-in-loop-round.new.devices in
    let has = c.loop-round.invariant.has in
    let has_opened = still contents first input now n told between a b o has c.in-Ok-open_files.ensures.counts in
    let fewer : n < first.all = omega (arith, c.loop-round-test.true, c.in-Ok.ensures.sends.same.all) in
    let read : g.D.Reader.Read.remaining c.in-Ok-open_files.reader ≡ input =
    c.in-Ok-open_files.ensures.bytes ∙ ap (λ (xs : List (Bor (List ℕ))). stands (map (λ s. s.now) xs)) c.as_slice.ensures.value
    ∙ ap stands has.same.files ∙ ap (λ there. there files) c.loop-round.invariant.stays in
    let stops = subst (λ (i : Contents). StopsRound contents i now c.in-Err-send_round.writer c.in-Err-send_round.halt between told' o z) read
    c.in-Err-send_round.ensures.stops in
    stops_in contents first input now n told between a o z has_opened c.requires.unsent fewer c.in-Err-send_round.writer c.in-Err-send_round.halt told' stops

pub returns-in-Err-send_round-clause-kept : goal.returns-in-Err-send_round-clause-kept
returns-in-Err-send_round-clause-kept g c =
    c.in-Err-send_round.ensures.kept ∙ c.in-Ok-open_files.ensures.kept ∙ c.loop-round.invariant.kept

pub returns-in-Err-send_round-clause-filed : goal.returns-in-Err-send_round-clause-filed
returns-in-Err-send_round-clause-filed g c =
    c.in-Err-send_round.ensures.filed ∙ c.in-Ok-open_files.ensures.filed ∙ c.loop-round.invariant.filed

pub returns-in-Err-send_round-clause-earlier : goal.returns-in-Err-send_round-clause-earlier
returns-in-Err-send_round-clause-earlier g c =
    c.in-Err-send_round.ensures.earlier ∙ c.in-Ok-open_files.ensures.earlier ∙ c.loop-round.invariant.earlier

pub loop-round-preserved : goal.loop-round-preserved
loop-round-preserved g c =
    let contents = g.D.Writer.Write.contents in
    let first = c.args.unsent in
    let now = c.loop-round.rounds in
    let stands = g.D.Devices.stands c.loop-round.devices in
    let files = map (λ s. s.now) first.files.items in
    let input = g.D.Devices.stands c.args.devices.now files in
    let n = c.loop-round._round in
    let a = g.D.Devices.failed c.args.devices.now in
    let b = g.D.Devices.failed c.loop-round.devices in
    let o = g.D.Devices.failed c.open_files.new.devices in
    let z = g.D.Devices.failed c.send_round-in-loop-round.new.devices in
    let has = c.loop-round.invariant.has in
    let told = g.T.Pace.calls c.args.teller.now in
    let between = g.T.Pace.calls c.loop-round.teller in
    let told' = g.T.Pace.calls c.send_round-in-loop-round.new.teller in
    let has_opened = still contents first input now n told between a b o has c.in-Ok-open_files.ensures.counts in
    let read : g.D.Reader.Read.remaining c.in-Ok-open_files.reader ≡ input =
    c.in-Ok-open_files.ensures.bytes ∙ ap (λ (xs : List (Bor (List ℕ))). stands (map (λ s. s.now) xs)) c.as_slice.ensures.value
    ∙ ap stands has.same.files ∙ ap (λ there. there files) c.loop-round.invariant.stays in
    let sends = subst (λ (i : Contents). SendsRound contents i now c.in-Ok-send_round.rounds between told' o z) read c.in-Ok-send_round.ensures.sends in
    record {
      has = one_more contents first input now n told between a o z has_opened c.in-Ok-send_round.rounds told' sends;
      within = omega (arith, c.loop-round-test.true, c.in-Ok.ensures.sends.same.all);
      stays = c.in-Ok-send_round.ensures.stays ∙ c.in-Ok-open_files.ensures.stays ∙ c.loop-round.invariant.stays;
      kept = c.in-Ok-send_round.ensures.kept ∙ c.in-Ok-open_files.ensures.kept ∙ c.loop-round.invariant.kept;
      filed = c.in-Ok-send_round.ensures.filed ∙ c.in-Ok-open_files.ensures.filed ∙ c.loop-round.invariant.filed;
      earlier = c.in-Ok-send_round.ensures.earlier ∙ c.in-Ok-open_files.ensures.earlier ∙ c.loop-round.invariant.earlier;
    }

-- ---- all of them

pub returns-clause-sends : goal.returns-clause-sends
returns-clause-sends g c =
    let first = c.args.unsent in
    let input = g.D.Devices.stands c.args.devices.now (map (λ s. s.now) first.files.items) in
    let n = c.loop-round._round in
    let all : n ≡ first.all = omega (arith, c.loop-round-test.false, c.in-Ok.ensures.sends.same.all, c.loop-round.invariant.within) in
    all_sent g.D.Writer.Write.contents first input c.requires.unsent c.loop-round.rounds n (g.T.Pace.calls c.args.teller.now) (g.T.Pace.calls c.loop-round.teller)
    (g.D.Devices.failed c.args.devices.now) (g.D.Devices.failed c.loop-round.devices) c.loop-round.invariant.has (inl all)

pub returns-clause-counts : goal.returns-clause-counts
returns-clause-counts g c = c.loop-round.invariant.has.counts

pub returns-clause-kept : goal.returns-clause-kept
returns-clause-kept g c = c.loop-round.invariant.kept

pub returns-clause-filed : goal.returns-clause-filed
returns-clause-filed g c = c.loop-round.invariant.filed

pub returns-clause-earlier : goal.returns-clause-earlier
returns-clause-earlier g c = c.loop-round.invariant.earlier
