-- The object's bytes in its blocks, written one after another.
use Rattle.std.proofs.Common.{◌≡◌, ℕ, suc, ◌+◌, ◌<◌, ◌≤◌, List, ◌++◌, length, take, Option, Some, None, refl, sym, ap, ◌∙◌, subst, arith, length-append}
use Rattle.std.specs.Prelude.{option_map, IfSome, IsSome}
use Rattle.std.proofs.lemmas.List.{length-take, length-take-le, take_all}
use Rattle.std.proofs.lemmas.Option.{same_Some}
use Rattle.rq_bytes.specs.Ranges.{with_range}
use Rattle.rq_bytes.proofs.RangeFacts.{length-with_range}
use Rattle.rq_standard.specs.DecoderState.{State, append_both, first_blocks, result_of}
use Rattle.rq_standard.proofs.ObjectAnswers.{joined_each}
use Rattle.rq_block.proofs.WrittenSteps.{front_written}
use Rattle.raptorq.specs.BlockBytes.{answered_part}
use Rattle.raptorq.specs.Decoder.{state_of}
use Rattle.raptorq.specs.declared.decoder.object.Decoder.{Decoder}
use Rattle.raptorq.proofs.AnsweredParts.{first_parts, long_answers, parts_of_decoder, result_long}

no_longer : (o : Option (List ℕ)) (xs : List ℕ) (n : ℕ) → Some xs ≡ option_map (take n) o → length xs ≤ n
no_longer None xs n is = absurd (cc is)
no_longer (Some ys) xs n is = omega (arith, ap length (same_Some xs (take n ys) is), length-take n ys)

-- the parts of the first blocks stand in front, up to `end`
pub record WrittenParts (s : State) (n end : ℕ) (object : List ℕ) : Type 0 where
  pub front : Some (take end object) ≡ first_blocks n (answered_part s)
  pub within : end ≤ length object

pub written_none : (s : State) (object : List ℕ) → WrittenParts s 0 0 object
written_none s object = record { front = refl; within = omega arith }

module _ (d : Decoder) (n end : ℕ) (object bytes : List ℕ) (long : length object ≡ d.config.transfer_length) (so : WrittenParts (state_of d) n end object) (below : n < d.config.source_blocks) (part : Some bytes ≡ answered_part (state_of d) n) where
  abbrev s : State
  s = state_of d

  more : Some (take end object ++ bytes) ≡ first_blocks (n + 1) (answered_part s)
  more =
      let next : suc n ≡ n + 1 = omega arith in
      subst (λ m. Some (take end object ++ bytes) ≡ first_blocks m (answered_part s)) next (ap (λ o. append_both o (Some bytes)) so.front ∙ ap (append_both (first_blocks n (answered_part s))) part)

  -- there is room for one more
  pub part_within : end + length bytes ≤ length object
  part_within =
      let parts = first_parts s (long_answers d) (n + 1) (omega (arith, below)) in
      let few = no_longer (first_blocks (n + 1) s.answer) (take end object ++ bytes) d.config.transfer_length (more ∙ parts) in
      omega (arith, few, long, length-append (take end object) bytes, length-take-le end object so.within)

  pub written_next : (new : List ℕ) → new ≡ with_range object end bytes → WrittenParts s (n + 1) (end + length bytes) new
  written_next new is = record {
    front = ap (λ xs. Some (take (end + length bytes) xs)) is ∙ ap (λ xs. Some xs) (front_written end object bytes so.within) ∙ more;
    within = omega (arith, part_within, ap length is, length-with_range object end bytes part_within);
  }

-- of an object that is there each is
pub part_there : (d : Decoder) (n : ℕ) → n < d.config.source_blocks → IsSome (result_of (state_of d)) → answered_part (state_of d) n ≡ None → ⊥
part_there d n below some none =
    let each = joined_each (answered_part (state_of d)) d.config.source_blocks (subst IsSome (sym (parts_of_decoder d)) some) n below in
    cc (each, none)

-- all of them are the object
pub written_all : (d : Decoder) (end : ℕ) (object : List ℕ) → length object ≡ d.config.transfer_length → IsSome (result_of (state_of d)) → WrittenParts (state_of d) d.config.source_blocks end object → Some object ≡ result_of (state_of d)
written_all d end object long some so =
    let s = state_of d in
    let is : Some (take end object) ≡ result_of s = so.front ∙ parts_of_decoder d in
    let size : length (take end object) ≡ d.config.transfer_length = subst (λ o. IfSome o (λ xs. length xs ≡ d.config.transfer_length)) (sym is) (result_long s (long_answers d) d.some d.positive) in
    let whole : length object ≤ end = omega (arith, size, long, length-take end object) in
    ap (λ xs. Some xs) (sym (take_all end object whole)) ∙ is
