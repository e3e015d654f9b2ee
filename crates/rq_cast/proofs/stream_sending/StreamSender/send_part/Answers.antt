use Rattle.std.specs.Prelude.{◌↔◌}
use Rattle.std.proofs.Common.{◌≡◌, Bool, true, false, sym, ◌+◌, [], ◌∷◌, ◌++◌, inl, inr, refl, ap, subst, arith}
use Rattle.std.proofs.lemmas.Result.{err_from_is_err_and}
use Rattle.std.proofs.KnownBytes.{Keeps-refl}
use Rattle.rq_bytes.specs.declared.error.Error.TheVariants.{OutOfMemory}
use Rattle.rq_cells.specs.declared.head.Head.{Head}
use Rattle.rq_cast.specs.Output.{sink, CountsLost}
use Rattle.rq_cast.specs.Names.{AreNames}
use Rattle.rq_cast.specs.Rounds.{IsAsKnown, KeepsNames}
use Rattle.rq_cast.specs.Sent.{sending_of, cell_count, SendsFirst, StopsSending}
use Rattle.rq_cast.proofs.ToldCalls.{tells_none}
use Rattle.rq_cast.proofs.stream_sending.StreamSender.send_part.Goals as goal
use Rattle.rq_cast.proofs.stream_sending.StreamSender.send_part.Goals.{After-head}
use Rattle.rq_cast.proofs.stream_sending.StreamSender.send_part.Given.{Over}

-- the part is what it was
same_now : (g : Over) (c : After-head g) (b : Bool) → b ≡ true
    → (b ≡ true) ↔ IsAsKnown c.args.self.now.known c.args.self.now.names.count c.args.is_last c.head.result.name
    → IsAsKnown c.args.self.now.known c.args.self.now.names.count c.args.is_last (sending_of c.in_ok-sender.sender).head.name
same_now g c b is tells =
    subst (λ (h : Head). IsAsKnown c.args.self.now.known c.args.self.now.names.count c.args.is_last h.name) c.head.ensures (tells.0 is)

-- or it isn't
other_now : (g : Over) (c : After-head g) (b : Bool) → b ≡ false
    → (b ≡ true) ↔ IsAsKnown c.args.self.now.known c.args.self.now.names.count c.args.is_last c.head.result.name
    → IsAsKnown c.args.self.now.known c.args.self.now.names.count c.args.is_last (sending_of c.in_ok-sender.sender).head.name → ⊥
other_now g c b is tells same =
    let yes =
    tells.1 (subst (λ (h : Head). IsAsKnown c.args.self.now.known c.args.self.now.names.count c.args.is_last h.name) (sym c.head.ensures) same) in
    absurd (cc (is, yes))

pub returns-in_err-sender-clause-stops : goal.returns-in_err-sender-clause-stops
returns-in_err-sender-clause-stops g c =
    let out = c.args.output.now in
    let p = err_from_is_err_and c.from_residual.result c.from_residual.ensures.1 in
    let counts : CountsLost out out 0 0 = record { lost_more = omega arith; failed = omega arith } in
    rw (p.1, p.2) (λ before are. (
      [],
      counts,
      inl (
        inl (c.in_err-sender.field-0.0, refl, c.in_err-sender.ensures.refused before are),
        refl,
        tells_none (g.P.Pace.calls c.args.pace.now),
        Keeps-refl (g.W.Write.contents (sink out)),
      ),
    ))

pub returns-in_err-take-clause-stops : goal.returns-in_err-take-clause-stops
returns-in_err-take-clause-stops g c =
    let out = c.args.output.now in
    let p = err_from_is_err_and c.from_residual-in_err-take.result c.from_residual-in_err-take.ensures.1 in
    let counts : CountsLost out out 0 0 = record { lost_more = omega arith; failed = omega arith } in
    rw (p.1, p.2) (λ before are. (
      [],
      counts,
      inl (
        inl (OutOfMemory, refl, inl refl),
        refl,
        tells_none (g.P.Pace.calls c.args.pace.now),
        Keeps-refl (g.W.Write.contents (sink out)),
      ),
    ))

pub returns-then-not-branch-clause-stops : goal.returns-then-not-branch-clause-stops
returns-then-not-branch-clause-stops g c before are =
    let out = c.args.output.now in
    let counts : CountsLost out out 0 0 = record { lost_more = omega arith; failed = omega arith } in
    let head = (goal.at.returns-then-not-branch-clause-stops g c).After-head in (
      [],
      counts,
      inl (
        inr (
          refl,
          (
            sending_of c.in_ok-sender.sender,
            c.in_ok-sender.ensures.prepared before are,
            λ same. other_now g head c.in_ok-take.field-0 c.if-not-branch.true c.in_ok-take.ensures.same same,
          ),
        ),
        refl,
        tells_none (g.P.Pace.calls c.args.pace.now),
        Keeps-refl (g.W.Write.contents (sink out)),
      ),
    )

pub returns-in_err-lost-clause-stops : goal.returns-in_err-lost-clause-stops
returns-in_err-lost-clause-stops g c =
    let told' = g.P.Pace.calls c.send.new.pace in
    let there = g.W.Write.contents (sink c.args.output.now) in
    let then = g.W.Write.contents (sink c.send.new.output) in
    let stopped = c.in_err-lost.ensures.stops in
    let stop = c.in_err-lost.field-0.0 in
    let sending = sending_of c.in_ok-sender.sender in
    let stops = subst (λ before. StopsSending sending stopped.0 before told' there then stop) c.begin_part.ensures stopped.2 in
    let p = err_from_is_err_and c.from_residual-in_err-lost.result c.from_residual-in_err-lost.ensures.1 in
    rw (p.1, p.2) (λ before are. (
      stopped.0,
      stopped.1,
      inr (record {
        stop = stop;
        by = refl;
        sending = sending;
        prepared = c.in_ok-sender.ensures.prepared before are;
        same = same_now g (goal.at.returns-in_err-lost-clause-stops g c).After-head c.in_ok-take.field-0 c.if-not-branch.false c.in_ok-take.ensures.same;
        stopped = stops;
      }),
    ))

pub returns-clause-sends : goal.returns-clause-sends
returns-clause-sends g c before are =
    let told' = g.P.Pace.calls c.send.new.pace in
    let there = g.W.Write.contents (sink c.args.output.now) in
    let then = g.W.Write.contents (sink c.send.new.output) in
    let head = c.head-2.ensures in
    let sending = sending_of c.in_ok-sender.sender in
    let sent = c.in_ok-lost.ensures.sends in
    record {
      sending = sending;
      prepared = c.in_ok-sender.ensures.prepared before are;
      same = same_now g (goal.at.returns-clause-sends g c).After-head c.in_ok-take.field-0 c.if-not-branch.false c.in_ok-take.ensures.same;
      kept = subst (λ (h : Head). KeepsNames c.args.self.now.known (h.name ∷ []) c.take.new.self) c.head.ensures c.in_ok-take.ensures.kept;
      calls = sent.0;
      sends = subst (λ before. SendsFirst sending (cell_count sending) sent.0 [] [] before told' there then) c.begin_part.ensures sent.2;
      named = subst (λ (h : Head). AreNames (before ++ (h.name ∷ [])) c.push.new.self) head (c.push.ensures.names before are);
      cells = ap (λ n. c.args.self.now.cells + n) c.cells.ensures.value;
      lost_more = ap (λ n. c.args.self.now.lost + n) sent.1;
    }
