-- How many packets an object needs behind those that a decoder has taken.
use Rattle.std.proofs.Common.{◌≡◌, ℕ, zero, suc, ◌-◌, ◌<◌, max, true, List, Option, Some, None, refl, sym, ap, subst, ◌∙◌, arith, inl, inr}
use Rattle.std.specs.Prelude.{IsSome, IfSome, ◌↔◌}
use Rattle.rq_standard.specs.declared.row.TableRow.{TableRow}
use Rattle.rq_standard.specs.Packet.{Packet}
use Rattle.rq_standard.specs.Headline.{DetermineBlock}
use Rattle.rq_standard.specs.Received.{HasSourceSymbols}
use Rattle.rq_standard.specs.ReceivedBlock.{ReceivedBlock, has_received, CanAnswer}
use Rattle.rq_standard.specs.DecoderSteps.{received_after}
use Rattle.rq_standard.specs.Following.{InTime, FollowsBlock, FollowsRun}
use Rattle.rq_standard.proofs.FirstAnswers.{answered_by}
use Rattle.rq_standard.proofs.KnownIds.{block_more}
use Rattle.rq_block.specs.MissingPackets.{received_count, NeedsMore, TellsMissing}
use Rattle.raptorq.specs.declared.decoder.object.Decoder.{Decoder}
use Rattle.raptorq.specs.Decoder.{state_of, missing_of}
use Rattle.raptorq.specs.Unanswered.{TellsMissingOf}
use Rattle.rq_cast.specs.Missing.{needed_of, told_of, TellsMissingPackets, NeedsPackets}

-- what is told of a block that can't be answered: its packets don't contradict each other, since those that do determine it
told_open : (h : ReceivedBlock) → ¬ CanAnswer h → (missing : Option ℕ) → TellsMissing h missing
    → needed_of None missing ≡ max (h.source_symbols - received_count h) 1
told_open h cannot None contradictory = absurd (cannot (inr contradictory.determined))
told_open h cannot (Some n) (inl is) = omega (arith, is)
told_open h cannot (Some n) (inr one) = omega (arith, one.0, one.1)

-- without a further one there is no answer still
needs_one : (h : ReceivedBlock) → ¬ CanAnswer h → NeedsMore h 1
needs_one h cannot new later fewer with_new can =
    let k = h.source_symbols in
    let has = has_received later in
    let within : (e : ℕ) → has e ≡ true → has_received h e ≡ true = λ e received. elim (with_new.ids e received) [
      | inl was ↦ was
      | inr added ↦ absurd (omega (arith, added.1, fewer))
    ] in
    cannot (elim can [
      | inl all ↦
          let each : HasSourceSymbols k has = subst (λ n. HasSourceSymbols n has) with_new.source_symbols all in
          inl (record { each = λ e less. within e (each.each e less) })
      | inr determined ↦
          inr (block_more h.row k has (has_received h) within
          (subst (λ (r : TableRow). DetermineBlock r k has) with_new.row (subst (λ n. DetermineBlock later.row n has) with_new.source_symbols determined)))
    ])

needed_open : (h : ReceivedBlock) → ¬ CanAnswer h → (missing : Option ℕ) → TellsMissing h missing → IfSome missing (NeedsMore h)
    → NeedsMore h (needed_of None missing)
needed_open h cannot None contradictory needed = absurd (cannot (inr contradictory.determined))
needed_open h cannot (Some zero) told needed = needs_one h cannot
needed_open h cannot (Some (suc n)) told needed = subst (NeedsMore h) (omega arith) needed

module _ (table : List TableRow) (packets : List Packet) (d : Decoder) (follows : FollowsRun table packets (state_of d)) (missing : ℕ)
    (t : TellsMissingPackets d missing) where
  module _ (b : ℕ) (below : b < (state_of d).configuration.source_blocks) where
    abbrev h : ReceivedBlock
    h = received_after table (state_of d).configuration b packets

    answered : IsSome ((state_of d).answer b) ↔ CanAnswer h
    answered = (answered_by table (state_of d).configuration b packets ((state_of d).received b) ((state_of d).answer b) (follows.block b below)).0

    zero_of : CanAnswer h → (answer : Option (List ℕ)) → (state_of d).answer b ≡ answer → told_of d b ≡ 0
    zero_of can (Some block) is = ap (λ o. needed_of o (missing_of d b)) is
    zero_of can None is = let some : IsSome {T = List ℕ} None = subst IsSome is (answered.1 can) in absurd (cc some)

    none_of : ¬ CanAnswer h → (answer : Option (List ℕ)) → (state_of d).answer b ≡ answer → answer ≡ None
    none_of cannot None is = refl
    none_of cannot (Some block) is = absurd (cannot (answered.0 (subst IsSome (sym is) refl)))

    module _ (cannot : ¬ CanAnswer h) where
      unanswered : (state_of d).answer b ≡ None
      unanswered = none_of cannot ((state_of d).answer b) refl

      same : (state_of d).received b ≡ h
      same = (subst (FollowsBlock InTime table (state_of d).configuration b packets ((state_of d).received b)) unanswered (follows.block b below)).0

      told : TellsMissing h (missing_of d b)
      told =
          subst (λ k. TellsMissing k (missing_of d b)) same
          (subst (λ o. TellsMissingOf ((state_of d).received b) o (missing_of d b)) unanswered (t.told b below))

      more : IfSome (missing_of d b) (NeedsMore h)
      more = subst (λ k. IfSome (missing_of d b) (NeedsMore k)) same (t.needed b below)

  pub needs_packets : NeedsPackets table (state_of d).configuration packets missing
  needs_packets = record {
    of_block = told_of d;
    sum = t.sum;
    answered = λ b below can. zero_of b below can ((state_of d).answer b) refl;
    misses = λ b below cannot. ap (λ o. needed_of o (missing_of d b)) (unanswered b below cannot)
        ∙ told_open (h b below) cannot (missing_of d b) (told b below cannot);
    needed = λ b below cannot. subst (NeedsMore (h b below)) (ap (λ o. needed_of o (missing_of d b)) (sym (unanswered b below cannot)))
        (needed_open (h b below) cannot (missing_of d b) (told b below cannot) (more b below cannot));
  }
