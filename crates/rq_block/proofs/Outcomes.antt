-- What a decoder of a block keeps of its attempts to answer it.
use Rattle.std.proofs.Common.{◌≡◌, ℕ, true, false, Option, None, Some, Result, Ok, Err, refl, ap, ◌∙◌, sym}
use Rattle.std.specs.Prelude.{IfErr}
use Rattle.rq_bytes.specs.declared.error.Error.{Error}
use Rattle.rq_bytes.specs.declared.error.Error.TheVariants.{OutOfMemory, Contradiction}
use Rattle.rq_standard.specs.ReceivedBlock.{ReceivedBlock, has_received}
use Rattle.rq_block.specs.LastOutcome.{outcome_of, after_new_payload}
use Rattle.rq_block.specs.declared.decoder.last_outcome.LastOutcome.{LastOutcome}
use Rattle.rq_block.specs.declared.decoder.last_outcome.LastOutcome.TheVariants.{Untried, Undetermined, Contradictory}
use Rattle.rq_block.specs.SourceBlockDecoder.{Solving, still_found, solving_after}

-- ---- by an answer

pub undetermined_by : {V : Type 0} (r : Result (Option V) Error) → outcome_of r ≡ Undetermined → r ≡ Ok None
undetermined_by (Ok None) is = refl
undetermined_by (Ok (Some v)) is = absurd (cc is)
undetermined_by (Err Contradiction) is = absurd (cc is)
undetermined_by (Err e) is = absurd (cc is)

pub contradictory_by : {V : Type 0} (r : Result (Option V) Error) → outcome_of r ≡ Contradictory → r ≡ Err Contradiction
contradictory_by (Ok None) is = absurd (cc is)
contradictory_by (Ok (Some v)) is = absurd (cc is)
contradictory_by (Err Contradiction) is = refl
contradictory_by (Err e) is = absurd (cc is)

-- where memory is refused for an attempt, what is remembered stays
pub refused_attempt : (V : Type 0) (s t : Solving) (r : Result (Option V) Error) → s.last_outcome ≡ Untried → t ≡ record s { last_outcome = outcome_of r } → IfErr r (λ e. e ≡ OutOfMemory → t ≡ s)
refused_attempt V s t (Ok v) untried is = tt
refused_attempt V s t (Err e) untried is = λ memory.
    is ∙ ap (λ x. record s { last_outcome = outcome_of {V = V} (Err x) }) memory ∙ ap (λ o. record s { last_outcome = o }) (sym untried)

-- ---- by a payload more

pub not_undetermined : (o : LastOutcome) → after_new_payload o ≡ Undetermined → ⊥
not_undetermined Untried is = cc is
not_undetermined Undetermined is = cc is
not_undetermined Contradictory is = cc is

pub still_contradictory : (o : LastOutcome) → after_new_payload o ≡ Contradictory → o ≡ Contradictory
still_contradictory Untried is = absurd (cc is)
still_contradictory Undetermined is = absurd (cc is)
still_contradictory Contradictory is = refl

module _ (h : ReceivedBlock) (esi : ℕ) (s : Solving) where
  pub solving_more : (o : LastOutcome) → o ≡ after_new_payload s.last_outcome → has_received h esi ≡ false → record s { last_outcome = o } ≡ solving_after h esi s
  solving_more o is new = rw (new, is) refl

  pub solving_repeated : has_received h esi ≡ true → s ≡ solving_after h esi s
  solving_repeated repeated = rw repeated refl

  pub solving_new : has_received h esi ≡ false → solving_after h esi s ≡ still_found s
  solving_new new = rw new refl

found_later : (o : LastOutcome) → after_new_payload (after_new_payload o) ≡ after_new_payload o
found_later Untried = refl
found_later Undetermined = refl
found_later Contradictory = refl

-- what is still so after a payload is so after the next one
pub found_twice : (s : Solving) → still_found (still_found s) ≡ still_found s
found_twice s = ap (λ o. record s { last_outcome = o }) (found_later s.last_outcome)
