-- A decoder that follows a list of packets refuses of the next one what is to be refused, and so of a whole list its first refusal.
use Rattle.std.proofs.Common.{◌≡◌, ◌⊎◌, ℕ, ◌<◌, eqb, ltb, Bool, true, false, length, List, [], ◌∷◌, ◌++◌, Result, Ok, Err, Option, Some, None, refl, sym, ap, ◌∙◌, subst, inl, inr, append_assoc, append-nil}
use Rattle.std.specs.Prelude.{IfErr, MatchResult, is_err}
use Rattle.std.proofs.lemmas.Bool.{ltb-true}
use Rattle.rq_bytes.specs.declared.error.Error.{Error}
use Rattle.rq_bytes.specs.declared.error.Error.TheVariants.{OutOfMemory}
use Rattle.rq_bytes.specs.Refusals.{IsRefusal}
use Rattle.rq_base.specs.RefusedInput.{checked_configuration}
use Rattle.rq_standard.specs.declared.row.TableRow.{TableRow}
use Rattle.rq_standard.specs.TableRows.{greatest_size}
use Rattle.rq_standard.specs.Configuration.{Configuration}
use Rattle.rq_standard.specs.Packet.{Packet}
use Rattle.rq_standard.specs.ReceivedBlock.{ReceivedBlock, with_received, CanAnswer, IsContradictory}
use Rattle.rq_standard.specs.DecoderSteps.{AddsToBlock, RecordsInBlock, received_after}
use Rattle.rq_standard.specs.Following.{InTime, Late, FollowsBlock}
use Rattle.rq_standard.proofs.Contradictions.{contradictory-no_answer}
use Rattle.rq_standard.proofs.FirstAnswers.{fewer_can}
use Rattle.rq_standard.proofs.FollowingSteps.{received_later, recorded_after}
use Rattle.rq_block.proofs.TakenPackets.{packet_tests}
use Rattle.raptorq.specs.Laws.{TakenIsNext, RefusedIsNext}
use Rattle.raptorq.specs.Refused.{packet_refusal}
use Rattle.raptorq.specs.Runs.{ContradictsReceived, IsNextRefusal, IsRefusalBehind, IsRunRefusal, AnswersRun}

-- ---- the tests

block_passes : (b s : Bool) → packet_tests b s ≡ Ok tt → b ≡ true
block_passes true s h = refl
block_passes false s h = absurd (cc h)

-- a packet that passes them is of one of the blocks
pub passes_below : (c : Configuration) (p : Packet) → packet_refusal c p ≡ Ok tt → p.id.block < c.source_blocks
passes_below c p h = ltb-true p.id.block c.source_blocks (block_passes (ltb p.id.block c.source_blocks) (eqb (length p.payload) c.symbol_size) h)

-- ---- a packet behind others

no_lateness : InTime ≡ Late → ⊥
no_lateness e = cc e

module _ (table : List TableRow) (c : Configuration) (earlier : List Packet) (p : Packet) (old new : ReceivedBlock) where
  fits_here : (before after : Option (List ℕ)) → FollowsBlock InTime table c p.id.block earlier old before → AddsToBlock old before p new after → ContradictsReceived table c earlier p → ⊥
  fits_here None after f add x =
      let is : with_received old p.id.esi p.payload ≡ received_after table c p.id.block (earlier ++ p ∷ []) = ap (λ h. with_received h p.id.esi p.payload) f.0 ∙ received_later table c earlier p in
      contradictory-no_answer (with_received old p.id.esi p.payload) after add.answers (subst IsContradictory (sym is) x.contradictory)
  fits_here (Some bytes) after f add x = x.unanswered (fewer_can table c p.id.block earlier f.count (f.answers.some refl))

  contradicts_here : (before after : Option (List ℕ)) → FollowsBlock InTime table c p.id.block earlier old before → RecordsInBlock old before p new after → IsContradictory new → ContradictsReceived table c earlier p
  contradicts_here before after f r x =
      let open_block = subst (FollowsBlock InTime table c p.id.block earlier old) r.unanswered f in
      record {
        unanswered = λ can. open_block.1 no_lateness (subst CanAnswer (sym open_block.0) can);
        contradictory = subst IsContradictory (recorded_after table c earlier p InTime old new before after f r) x;
      }

-- one that is taken doesn't contradict what was received
pub taken_is_next : TakenIsNext
taken_is_next table earlier p old new follows passes add =
    let b = p.id.block in
    (passes, fits_here table old.configuration earlier p (old.received b) (new.received b) (old.answer b) (new.answer b) (follows.block b (passes_below old.configuration p passes)) add.here)

-- one that is refused is refused for what is to be, memory aside
pub refused_is_next : RefusedIsNext
refused_is_next table earlier p old new e follows (inl tested) = inr (inl tested.0)
refused_is_next table earlier p old new e follows (inr (inl memory)) = inl memory.1
refused_is_next table earlier p old new e follows (inr (inr x)) =
    let b = p.id.block in
    inr (inr (x.0, x.1, contradicts_here table old.configuration earlier p (old.received b) (new.received b) (old.answer b) (new.answer b) (follows.block b (passes_below old.configuration p x.0)) x.2.records.here x.2.contradictory))

-- ---- a list of packets

module _ (table : List TableRow) (c : Configuration) where
  -- what is refused of the rest is refused of the whole, where nothing is refused before
  pub refusal_behind-front : (earlier front rest : List Packet) (r : Result (Unit {0}) Error) → IsRefusalBehind table c earlier front (Ok tt) → IsRefusalBehind table c (earlier ++ front) rest r → IsRefusalBehind table c earlier (front ++ rest) r
  refusal_behind-front earlier [] rest r passed behind = subst (λ xs. IsRefusalBehind table c xs rest r) (append-nil earlier) behind
  refusal_behind-front earlier (p ∷ front) rest r (inl refused) behind = absurd (cc refused.0)
  refusal_behind-front earlier (p ∷ front) rest r (inr passed) behind = inr (passed.0, refusal_behind-front (earlier ++ p ∷ []) front rest r passed.1 (subst (λ xs. IsRefusalBehind table c xs rest r) (sym (append_assoc earlier (p ∷ []) front)) behind))

  -- one packet more passes,
  pub one_passes : (front : List Packet) (p : Packet) → IsRefusalBehind table c [] front (Ok tt) → IsNextRefusal table c front p (Ok tt) → IsRefusalBehind table c [] (front ++ p ∷ []) (Ok tt)
  one_passes front p passed next = refusal_behind-front [] front (p ∷ []) (Ok tt) passed (inr (next, refl))

  -- or is the first that is refused
  pub one_stops : (front rest : List Packet) (p : Packet) (e : Error) → IsRefusalBehind table c [] front (Ok tt) → IsNextRefusal table c front p (Err e) → IsRefusalBehind table c [] (front ++ p ∷ rest) (Err e)
  one_stops front rest p e passed next = refusal_behind-front [] front (p ∷ rest) (Err e) passed (inl (refl, next))

  -- there is one
  next_is_one : (earlier : List Packet) (p : Packet) (r s : Result (Unit {0}) Error) → IsNextRefusal table c earlier p r → IsNextRefusal table c earlier p s → r ≡ s
  next_is_one earlier p (Ok x) (Ok y) one other = refl
  next_is_one earlier p (Ok x) (Err e) one (inl tested) = absurd (cc (one.0, tested))
  next_is_one earlier p (Ok x) (Err e) one (inr found) = absurd (one.1 found.2)
  next_is_one earlier p (Err e) (Ok y) (inl tested) other = absurd (cc (other.0, tested))
  next_is_one earlier p (Err e) (Ok y) (inr found) other = absurd (other.1 found.2)
  next_is_one earlier p (Err e) (Err w) (inl tested) (inl also) = sym tested ∙ also
  next_is_one earlier p (Err e) (Err w) (inl tested) (inr found) = absurd (cc (tested, found.0))
  next_is_one earlier p (Err e) (Err w) (inr found) (inl tested) = absurd (cc (tested, found.0))
  next_is_one earlier p (Err e) (Err w) (inr found) (inr also) = ap (λ x. Err x) (found.1 ∙ sym also.1)

  pub refusal_is_one : (earlier packets : List Packet) (r s : Result (Unit {0}) Error) → IsRefusalBehind table c earlier packets r → IsRefusalBehind table c earlier packets s → r ≡ s
  refusal_is_one earlier [] r s one other = one ∙ sym other
  refusal_is_one earlier (p ∷ packets) r s (inl here) (inl there) = next_is_one earlier p r s here.1 there.1
  refusal_is_one earlier (p ∷ packets) r s (inl here) (inr later) = absurd (cc (ap is_err (next_is_one earlier p r (Ok tt) here.1 later.0), here.0))
  refusal_is_one earlier (p ∷ packets) r s (inr later) (inl there) = absurd (cc (ap is_err (next_is_one earlier p s (Ok tt) there.1 later.0), there.0))
  refusal_is_one earlier (p ∷ packets) r s (inr later) (inr also) = refusal_is_one (earlier ++ p ∷ []) packets r s later.1 also.1

-- ---- a run

pub run_refusal_is_one : (table : List TableRow) (c : Configuration) (packets : List Packet) (r s : Result (Unit {0}) Error) → IsRunRefusal table c packets r → IsRunRefusal table c packets s → r ≡ s
run_refusal_is_one table c packets r s = by_check (checked_configuration (greatest_size table) c) where
  by_check : (t : Result (Unit {0}) Error) → MatchResult t (λ _. IsRefusalBehind table c [] packets r) (λ e. r ≡ Err e) → MatchResult t (λ _. IsRefusalBehind table c [] packets s) (λ e. s ≡ Err e) → r ≡ s
  by_check (Ok u) one other = refusal_is_one table c [] packets r s one other
  by_check (Err e) one other = one ∙ sym other

abbrev pub refused_by : Error → Result (Unit {0}) Error
refused_by e = Err e

-- a decoder that isn't made
pub run_unmade : (X : Type 0) (table : List TableRow) (c : Configuration) (packets : List Packet) (e : Error) → IsRefusal e (checked_configuration (greatest_size table) c) → AnswersRun {X = X} table c packets (Err e)
run_unmade X table c packets e = by_check (checked_configuration (greatest_size table) c) where
  by_check : (t : Result (Unit {0}) Error) → IsRefusal e t → (e ≡ OutOfMemory) ⊎ MatchResult t (λ _. IsRefusalBehind table c [] packets (Err e)) (λ w. refused_by e ≡ Err w)
  by_check (Ok u) memory = inl memory
  by_check (Err w) is = inr (ap refused_by is)

-- nothing is refused, so an answer stands, or memory is wanting
pub run_answers : {X : Type 0} (table : List TableRow) (c : Configuration) (packets : List Packet) (r : Result X Error) → IsRunRefusal table c packets (Ok tt) → IfErr r (λ e. e ≡ OutOfMemory) → AnswersRun table c packets r
run_answers table c packets (Ok x) passed memory = passed
run_answers table c packets (Err e) passed memory = inl memory

module _ (table : List TableRow) (c : Configuration) (packets : List Packet) (checked : checked_configuration (greatest_size table) c ≡ Ok tt) where
  -- what is refused of the packets is refused of the run
  pub run_behind : (r : Result (Unit {0}) Error) → IsRefusalBehind table c [] packets r → IsRunRefusal table c packets r
  run_behind r behind = subst (λ t. MatchResult t (λ _. IsRefusalBehind table c [] packets r) (λ e. r ≡ Err e)) (sym checked) behind

  -- one packet stops it
  pub run_stops : (X : Type 0) (front rest : List Packet) (p : Packet) (e : Error) → packets ≡ (front ++ p ∷ []) ++ rest → IsRefusalBehind table c [] front (Ok tt) → (e ≡ OutOfMemory) ⊎ IsNextRefusal table c front p (Err e) → AnswersRun {X = X} table c packets (Err e)
  run_stops X front rest p e whole passed (inl memory) = inl memory
  run_stops X front rest p e whole passed (inr next) = inr (run_behind (Err e) (subst (λ ps. IsRefusalBehind table c [] ps (Err e)) (sym (whole ∙ append_assoc front (p ∷ []) rest)) (one_stops table c front rest p e passed next)))
