-- What the calls of an object's decoder do in turn with a packet is one step.
use Rattle.std.proofs.Common.{◌≡◌, ◌≢◌, ◌⊎◌, ℕ, ◌<◌, Bool, true, false, cond, eqb, ltb, length, List, Option, Some, None, Result, Ok, Err, inl, inr, refl, sym, ap, ◌∙◌, subst, arith}
use Rattle.std.specs.Prelude.{MatchOption, MatchResult, IfErr}
use Rattle.std.proofs.lemmas.Bool.{eqb-true, eqb-false}
use Rattle.rq_bytes.specs.declared.error.Error.{Error}
use Rattle.rq_bytes.specs.declared.error.Error.TheVariants.{OutOfMemory}
use Rattle.rq_bytes.specs.Refusals.{IsAnswer, IsRefusal}
use Rattle.rq_standard.specs.Packet.{Packet}
use Rattle.rq_standard.specs.ReceivedBlock.{ReceivedBlock, has_received, with_received, IsBlockAnswer, IsContradictory}
use Rattle.rq_standard.specs.DecoderSteps.{AddsToBlock, RecordsInBlock, IsSameElsewhere, kept_of}
use Rattle.rq_block.specs.declared.decoder.last_outcome.LastOutcome.TheVariants.{Undetermined, Contradictory}
use Rattle.rq_block.specs.LastOutcome.{after_new_payload}
use Rattle.rq_block.specs.Remembering.{IsStillFound}
use Rattle.rq_block.specs.SourceBlockDecoder.{Solving, solving_after, still_found}
use Rattle.rq_block.proofs.Remembered.{still_more, still_same, still_threshold}
use Rattle.rq_block.proofs.TakenPackets.{tests_find_no_contradiction}
use Rattle.raptorq.specs.declared.decoder.object.Decoder.{Decoder}
use Rattle.raptorq.specs.Decoder.{state_of}
use Rattle.raptorq.specs.InTurn.{KeptBlock, block_at, ChangesBlock, recorded_by, with_packet, RecordsPacket, found_by, AnswersOpen, RefusesAnswer, AnswersHere, AnswersBlock}
use Rattle.raptorq.specs.Laws.{TurnsTake, TurnsRemember}
use Rattle.raptorq.specs.Refused.{packet_refusal}
use Rattle.raptorq.specs.Remembering.{RemembersHere, Remembers}
use Rattle.raptorq.specs.TakesPacket.{TakesPacket}
use Rattle.raptorq.proofs.FollowedRuns.{passes_below}

-- ---- one block

-- what is done in turn with a block that has no answer
record TakesOpen (p : Packet) (old : KeptBlock) (result : Result (Unit {0}) Error) (new : KeptBlock) : Type 0 where
  pub unanswered : old.answer ≡ None
  pub middle : KeptBlock
  pub received : middle.received ≡ with_received old.received p.id.esi p.payload
  pub solving : middle.solving ≡ solving_after old.received p.id.esi old.solving
  pub waits : middle.answer ≡ None
  pub answers : MatchResult result (λ _. AnswersOpen middle new) (λ e. RefusesAnswer middle e new)

-- an answered block takes nothing, and stays
abbrev TakesHere : Packet → KeptBlock → Result (Unit {0}) Error → KeptBlock → Type 0
TakesHere p old result new = TakesOpen p old result new ⊎ ((old.answer ≢ None) × (result ≡ Ok tt) × (new ≡ old))

takes_here : (p : Packet) (old middle new : KeptBlock) (result : Result (Unit {0}) Error) → middle ≡ with_packet p old → AnswersHere result middle new → TakesHere p old result new
takes_here p old middle new result recorded answers = by_answer old.answer refl where
  by_answer : (a : Option (List ℕ)) → a ≡ old.answer → TakesHere p old result new
  by_answer None none =
      let is : middle ≡ recorded_by None p old = recorded ∙ ap (λ a. recorded_by a p old) (sym none) in
      let waits : middle.answer ≡ None = ap (λ (b : KeptBlock). b.answer) is ∙ sym none in
      inl (record {
        unanswered = sym none;
        middle = middle;
        received = ap (λ (b : KeptBlock). b.received) is;
        solving = ap (λ (b : KeptBlock). b.solving) is;
        waits = waits;
        answers = subst (λ a. MatchOption a (MatchResult result (λ _. AnswersOpen middle new) (λ e. RefusesAnswer middle e new)) (λ _. (result ≡ Ok tt) × (new ≡ middle))) waits answers;
      })
  by_answer (Some bytes) some =
      let is : middle ≡ old = recorded ∙ ap (λ a. recorded_by a p old) (sym some) in
      let has : middle.answer ≡ Some bytes = ap (λ (b : KeptBlock). b.answer) is ∙ sym some in
      let stays = subst (λ a. MatchOption a (MatchResult result (λ _. AnswersOpen middle new) (λ e. RefusesAnswer middle e new)) (λ _. (result ≡ Ok tt) × (new ≡ middle))) has answers in
      inr (λ none. cc (some, none), stays.0, stays.1 ∙ is)

-- ---- what is remembered of it

abbrev RemembersOf : Result (Unit {0}) Error → KeptBlock → KeptBlock → Type 0
RemembersOf result old new = RemembersHere old.received old.solving result new.received new.answer new.solving

abbrev threshold : Solving → ℕ
threshold s = s.sparse_threshold

still_contradictory_after : (h : ReceivedBlock) (esi : ℕ) (s : Solving) → s.last_outcome ≡ Contradictory → (solving_after h esi s).last_outcome ≡ Contradictory
still_contradictory_after h esi s found = by_cases (has_received h esi) where
  by_cases : (t : Bool) → (cond t s (still_found s)).last_outcome ≡ Contradictory
  by_cases true = found
  by_cases false = ap after_new_payload found

found_threshold : (answer : Option (List ℕ)) (s : Solving) → (found_by answer s).sparse_threshold ≡ s.sparse_threshold
found_threshold None s = refl
found_threshold (Some bytes) s = refl

found_none : (answer : Option (List ℕ)) (s : Solving) → answer ≡ None → (found_by answer s).last_outcome ≡ Undetermined
found_none None s none = refl
found_none (Some bytes) s none = absurd (cc none)

remembers_open : (p : Packet) (old new : KeptBlock) (r : Result (Unit {0}) Error) → TakesOpen p old r new → RemembersOf r old new
remembers_open p old new r t = by_result r t.answers where
  found : IsStillFound old.received old.solving t.middle.received t.middle.solving
  found = still_more old.received old.solving old.received t.middle.received old.solving t.middle.solving p.id.esi p.payload (inl (refl, refl)) t.received t.solving

  same_threshold : t.middle.solving.sparse_threshold ≡ old.solving.sparse_threshold
  same_threshold = still_threshold old.received old.solving t.middle.received t.middle.solving found

  stays : old.solving.last_outcome ≡ Contradictory → t.middle.solving.last_outcome ≡ Contradictory
  stays was = ap (λ (s : Solving). s.last_outcome) t.solving ∙ still_contradictory_after old.received p.id.esi old.solving was

  by_result : (r : Result (Unit {0}) Error) → MatchResult r (λ _. AnswersOpen t.middle new) (λ e. RefusesAnswer t.middle e new) → RemembersOf r old new
  by_result (Ok x) now = record {
    undetermined = λ none. ap (λ (s : Solving). s.last_outcome) now.solving ∙ found_none new.answer t.middle.solving none;
    contradictory = tt;
    kept = tt;
    settled = tt;
    threshold = ap threshold now.solving ∙ found_threshold new.answer t.middle.solving ∙ same_threshold;
  }
  by_result (Err e) (inl memory) =
      let received : new.received ≡ t.middle.received = ap (λ (b : KeptBlock). b.received) memory.2 in
      let solving : new.solving ≡ t.middle.solving = ap (λ (b : KeptBlock). b.solving) memory.2 in
      record {
        undetermined = tt;
        contradictory = λ is. absurd (cc (memory.0, is));
        kept = λ other none. still_same old.received old.solving t.middle.received new.received t.middle.solving new.solving found received solving;
        settled = λ other none was. absurd (cc (memory.1, stays was));
        threshold = ap threshold solving ∙ same_threshold;
      }
  by_result (Err e) (inr found_so) = record {
    undetermined = tt;
    contradictory = λ is. ap (λ (b : KeptBlock). b.solving.last_outcome) found_so.2;
    kept = λ other none. absurd (other found_so.0);
    settled = λ other none was. absurd (other found_so.0);
    threshold = ap (λ (b : KeptBlock). b.solving.sparse_threshold) found_so.2 ∙ same_threshold;
  }

remembers_here : (p : Packet) (old new : KeptBlock) (r : Result (Unit {0}) Error) → TakesHere p old r new → RemembersOf r old new
remembers_here p old new r (inl taken) = remembers_open p old new r taken
remembers_here p old new r (inr stays) =
    rw (stays.1, stays.2) (record { undetermined = λ none. absurd (stays.0 none); contradictory = tt; kept = tt; settled = tt; threshold = refl })

-- ---- the object's decoder

module _ (old : Decoder) (p : Packet) where
  abbrev number : ℕ
  number = p.id.block

  -- each block is as it was
  same_at : (new : Decoder) → ChangesBlock (λ b c. c ≡ b) old number new → (m : ℕ) → block_at new m ≡ block_at old m
  same_at new unchanged m = by_cases (eqb m number) refl where
    by_cases : (t : Bool) → t ≡ eqb m number → block_at new m ≡ block_at old m
    by_cases true same = subst (λ n. block_at new n ≡ block_at old n) (sym (eqb-true m number (sym same))) unchanged.here
    by_cases false other = unchanged.others m (eqb-false m number (sym other))

  pub same_state : (new : Decoder) → ChangesBlock (λ b c. c ≡ b) old number new → state_of new ≡ state_of old
  same_state new unchanged = λ k. record {
    configuration = unchanged.configuration k;
    received = λ m. (same_at new unchanged m k).received;
    answer = λ m. (same_at new unchanged m k).answer;
  }

  refused : (e : Error) (middle : Decoder) → RecordsPacket old p (Err e) middle → TakesPacket (state_of old) p (Err e) (state_of middle)
  refused e middle records = by_test (packet_refusal (state_of old).configuration p) refl records.tested where
    same : state_of middle ≡ state_of old
    same = same_state middle records.block

    by_test : (w : Result (Unit {0}) Error) → w ≡ packet_refusal (state_of old).configuration p → IsRefusal e w → TakesPacket (state_of old) p (Err e) (state_of middle)
    by_test (Ok x) passes memory = inr (inl (sym passes, memory, inl same))
    by_test (Err wanted) tested is = inl (sym tested ∙ ap (λ x. Err x) (sym is), same)

  refused_remembers : (e : Error) (middle : Decoder) → RecordsPacket old p (Err e) middle → Remembers {X = Unit {0}} old p (Err e) middle
  refused_remembers e middle records = record {
    here = subst (λ b. RemembersOf (Err e) (block_at old number) b) (sym records.block.here) (record {
      undetermined = tt;
      contradictory = λ is. absurd (tests_find_no_contradiction (ltb number (state_of old).configuration.source_blocks) (eqb (length p.payload) (state_of old).configuration.symbol_size) e records.tested is);
      kept = λ other none. inl (refl, refl);
      settled = λ other none was. refl;
      threshold = refl;
    });
    others = λ m apart. ap (λ (b : KeptBlock). b.solving) (records.block.others m apart);
  }

  module _ (middle new : Decoder) (r : Result (Unit {0}) Error) (records : RecordsPacket old p (Ok tt) middle) (answers : AnswersBlock middle number r new) where
    passes : packet_refusal (state_of old).configuration p ≡ Ok tt
    passes = records.tested

    changes : ChangesBlock (AnswersHere r) middle number new
    changes = answers.known (subst (λ c. number < c.source_blocks) (sym records.block.configuration) (passes_below (state_of old).configuration p passes))

    here : TakesHere p (block_at old number) r (block_at new number)
    here = takes_here p (block_at old number) (block_at middle number) (block_at new number) r records.block.here changes.here

    others : (m : ℕ) → m ≢ number → block_at new m ≡ block_at old m
    others m apart = changes.others m apart ∙ records.block.others m apart

    elsewhere : IsSameElsewhere (state_of old) number (state_of new)
    elsewhere = record {
      configuration = changes.configuration ∙ records.block.configuration;
      other = λ m below apart. (ap (λ (b : KeptBlock). b.received) (others m apart), ap (λ (b : KeptBlock). b.answer) (others m apart));
    }

    by_block : TakesHere p (block_at old number) r (block_at new number) → TakesPacket (state_of old) p r (state_of new)
    by_block (inr stays) = rw stays.1 (passes, record { here = stays_here (block_at old number).answer refl; elsewhere = elsewhere }) where
      stays_here : (a : Option (List ℕ)) → a ≡ (block_at old number).answer
          → AddsToBlock (block_at old number).received (block_at old number).answer p (block_at new number).received (block_at new number).answer
      stays_here None none = absurd (stays.0 (sym none))
      stays_here (Some bytes) some =
          subst (λ a. AddsToBlock (block_at old number).received a p (block_at new number).received (block_at new number).answer) some
          (ap (λ (b : KeptBlock). b.received) stays.2, ap (λ (b : KeptBlock). b.answer) stays.2 ∙ sym some)
    by_block (inl t) = by_result r t.answers where
      waits : (block_at new number).answer ≡ t.middle.answer → (block_at new number).received ≡ t.middle.received
          → RecordsInBlock (block_at old number).received (block_at old number).answer p (block_at new number).received (block_at new number).answer
      waits answer received = record { unanswered = t.unanswered; waits = answer ∙ t.waits; received = received ∙ t.received }

      by_result : (r : Result (Unit {0}) Error) → MatchResult r (λ _. AnswersOpen t.middle (block_at new number)) (λ e. RefusesAnswer t.middle e (block_at new number))
          → TakesPacket (state_of old) p r (state_of new)
      by_result (Ok x) a = (
        passes,
        record {
          here = subst (λ b. AddsToBlock (block_at old number).received b p (block_at new number).received (block_at new number).answer) (sym t.unanswered) (record {
            answers = subst (λ h. IsBlockAnswer h (block_at new number).answer) t.received a.answers;
            kept = a.kept ∙ ap (λ h. kept_of h (block_at new number).answer) t.received;
          });
          elsewhere = elsewhere;
        },
      )
      by_result (Err e) (inl memory) =
          inr (inl (passes, memory.0, inr (record { here = waits (ap (λ (b : KeptBlock). b.answer) memory.2) (ap (λ (b : KeptBlock). b.received) memory.2); elsewhere = elsewhere })))
      by_result (Err e) (inr found) =
          let received : (block_at new number).received ≡ t.middle.received = ap (λ (b : KeptBlock). b.received) found.2 in
          inr (inr (
            passes,
            found.0,
            record {
              records = record { here = waits (ap (λ (b : KeptBlock). b.answer) found.2) received; elsewhere = elsewhere };
              contradictory = subst IsContradictory (sym received) found.1;
            },
          ))

    taken : TakesPacket (state_of old) p r (state_of new)
    taken = by_block here

    remembered : Remembers old p r new
    remembered = record {
      here = remembers_here p (block_at old number) (block_at new number) r here;
      others = λ m apart. ap (λ (b : KeptBlock). b.solving) (others m apart);
    }

pub turns_take : TurnsTake
turns_take old new p r t = by_recorded t.recorded t.records t.answers where
  by_recorded : (recorded : Result (Unit {0}) Error) → RecordsPacket old p recorded t.middle
      → MatchResult recorded (λ _. AnswersBlock t.middle p.id.block r new) (λ e. (r ≡ Err e) × (new ≡ t.middle)) → TakesPacket (state_of old) p r (state_of new)
  by_recorded (Ok x) records answers = taken old p t.middle new r records answers
  by_recorded (Err e) records same = rw (same.0, same.1) (refused old p e t.middle records)

pub turns_remember : TurnsRemember
turns_remember old new p r t = by_recorded t.recorded t.records t.answers where
  by_recorded : (recorded : Result (Unit {0}) Error) → RecordsPacket old p recorded t.middle
      → MatchResult recorded (λ _. AnswersBlock t.middle p.id.block r new) (λ e. (r ≡ Err e) × (new ≡ t.middle)) → Remembers old p r new
  by_recorded (Ok x) records answers = remembered old p t.middle new r records answers
  by_recorded (Err e) records same = rw (same.0, same.1) (refused_remembers old p e t.middle records)

-- ---- what a call that records is told

-- a packet that the tests refuse changes nothing
pub records_refused : (d : Decoder) (p : Packet) (e : Error) → packet_refusal (state_of d).configuration p ≡ Err e → RecordsPacket d p (Err e) d
records_refused d p e refused = record {
  tested = subst (IsRefusal e) (sym refused) refl;
  block = record { configuration = refl; here = refl; others = λ m apart. refl };
}

-- behind them memory may be refused
pub records_tested : (result wanted : Result (Unit {0}) Error) → wanted ≡ Ok tt → IfErr result (λ e. e ≡ OutOfMemory) → IsAnswer (λ _. tt) result wanted
records_tested (Ok x) wanted passes memory = passes
records_tested (Err e) wanted passes memory = subst (IsRefusal e) (sym passes) memory

-- ---- what a call that answers is told

-- the block of a number is in the list, where a call has changed it
pub answers_number : (old new : Decoder) (n i : ℕ) (r : Result (Unit {0}) Error) → i ≡ n → i < (state_of old).configuration.source_blocks
    → ChangesBlock (AnswersHere r) old i new → AnswersBlock old n r new
answers_number old new n i r same within changes = record {
  known = λ known. subst (λ k. ChangesBlock (AnswersHere r) old k new) same changes;
  unknown = λ unknown. absurd (omega (arith, unknown, within, same));
}
