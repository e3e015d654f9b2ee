use Rattle.std.proofs.Common.{◌+◌, ◌∷◌, [], ◌++◌, subst, refl, inl, inr}
use Rattle.std.proofs.lemmas.Result.{err_from_is_err_and}
use Rattle.std.proofs.KnownBytes.{Keeps-refl}
use Rattle.rq_cells.specs.declared.head.Head.{Head}
use Rattle.rq_cast.specs.Output.{sink}
use Rattle.rq_cast.specs.Names.{AreNames}
use Rattle.rq_guard.specs.ProtectingParts.{guarding_of}
use Rattle.rq_guard.proofs.protecting.Protector.guard_part.Goals as goal

pub returns-in_err-senders-clause-stops : goal.returns-in_err-senders-clause-stops
returns-in_err-senders-clause-stops g c =
    let p = err_from_is_err_and c.from_residual.result c.from_residual.ensures.1 in
    rw (p.1, p.2) (λ before are. inl (c.in_err-senders.field-0.0, refl, c.in_err-senders.ensures.refused before are, Keeps-refl (g.W.Write.contents (sink c.args.output.now))))

pub returns-in_err-send-clause-stops : goal.returns-in_err-send-clause-stops
returns-in_err-send-clause-stops g c =
    let p = err_from_is_err_and c.from_residual-in_err-send.result c.from_residual-in_err-send.ensures.1 in
    let stops = c.in_err-send.ensures.stops in
    rw (p.1, p.2) (λ before are. inr (record {
      guarding = guarding_of c.in_ok-senders.senders;
      prepared = c.in_ok-senders.ensures.prepared before are;
      written = stops.0;
      stopped = stops.1;
      appended = stops.2;
    }))

pub returns-clause-guards : goal.returns-clause-guards
returns-clause-guards g c before are =
    let sends = c.in_ok-send.ensures.sends in
    record {
      guarding = guarding_of c.in_ok-senders.senders;
      prepared = c.in_ok-senders.ensures.prepared before are;
      written = sends.0;
      sent = sends.1;
      appended = sends.2;
      named = subst (λ (h : Head). AreNames (before ++ (h.name ∷ [])) c.push.new.self) c.head.ensures (c.push.ensures.names before are);
      cells = λ i. c.args.self.now.cells + c.cells.ensures.value i;
    }
