-- What a decoder of a block remembers while packets are taken.
use Rattle.std.proofs.Common.{◌≡◌, ℕ, Bool, true, false, List, inl, inr, refl, sym, ap, ◌∙◌}
use Rattle.std.specs.Prelude.{is_some}
use Rattle.rq_standard.specs.ReceivedBlock.{ReceivedBlock, has_received, with_received}
use Rattle.rq_block.specs.Remembering.{HasNewId, IsStillFound}
use Rattle.rq_block.specs.SourceBlockDecoder.{Solving, still_found, solving_after}
use Rattle.rq_block.proofs.MissingCounts.{here_now}
use Rattle.rq_block.proofs.Outcomes.{found_twice, solving_new, solving_repeated}
use Rattle.rq_block.proofs.Payloads.{or_later-again}
use Rattle.rq_block.proofs.Waiting.{later-stays}

-- ---- one payload more

module _ (now : ReceivedBlock) (esi : ℕ) (payload : List ℕ) where
  same_again : has_received now esi ≡ true → with_received now esi payload ≡ now
  same_again came = λ i. record now { received = λ e. sym (or_later-again now.received esi payload came e) i }

  -- an id that is new stays so
  new_still : (old : ReceivedBlock) → HasNewId old now → HasNewId old (with_received now esi payload)
  new_still old more = record { id = more.id; missed = more.missed; received = ap is_some (later-stays (now.received more.id) _ more.received) ∙ more.received }

  module _ (old : ReceivedBlock) (before middle : Solving) where
    again : IsStillFound old before now middle → has_received now esi ≡ true → IsStillFound old before (with_received now esi payload) (solving_after now esi middle)
    again (inl same) came = inl (same_again came ∙ same.0, sym (solving_repeated now esi middle came) ∙ same.1)
    again (inr more) came = inr (new_still old more.0, sym (solving_repeated now esi middle came) ∙ more.1)

    first : IsStillFound old before now middle → has_received now esi ≡ false → IsStillFound old before (with_received now esi payload) (solving_after now esi middle)
    first (inl same) none =
        let new : HasNewId old (with_received now esi payload) = record { id = esi; missed = ap (λ h. has_received h esi) (sym same.0) ∙ none; received = here_now now.received (with_received now esi payload).received esi payload none (λ e. refl) } in
        inr (new, solving_new now esi middle none ∙ ap still_found same.1)
    first (inr more) none = inr (new_still old more.0, solving_new now esi middle none ∙ ap still_found more.1 ∙ found_twice before)

    taken : IsStillFound old before now middle → IsStillFound old before (with_received now esi payload) (solving_after now esi middle)
    taken so = by_cases (has_received now esi) refl where
      by_cases : (t : Bool) → t ≡ has_received now esi → IsStillFound old before (with_received now esi payload) (solving_after now esi middle)
      by_cases true came = again so (sym came)
      by_cases false none = first so (sym none)

-- ---- what a call leaves

module _ (old : ReceivedBlock) (before : Solving) where
  pub still_more : (now new : ReceivedBlock) (middle after : Solving) (esi : ℕ) (payload : List ℕ) → IsStillFound old before now middle
      → new ≡ with_received now esi payload → after ≡ solving_after now esi middle → IsStillFound old before new after
  still_more now new middle after esi payload so is found = rw (is, found) (taken now esi payload old before middle so)

  pub still_same : (now new : ReceivedBlock) (middle after : Solving) → IsStillFound old before now middle → new ≡ now → after ≡ middle → IsStillFound old before new after
  still_same now new middle after so same found = rw (same, found) so

  pub still_threshold : (new : ReceivedBlock) (after : Solving) → IsStillFound old before new after → after.sparse_threshold ≡ before.sparse_threshold
  still_threshold new after (inl same) = ap (λ (s : Solving). s.sparse_threshold) same.1
  still_threshold new after (inr more) = ap (λ (s : Solving). s.sparse_threshold) more.1
