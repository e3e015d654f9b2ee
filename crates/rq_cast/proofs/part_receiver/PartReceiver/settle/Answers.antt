use Rattle.std.proofs.Common.{List, refl, sym, subst, ◌∙◌}
use Rattle.std.specs.Prelude.{ℕ, take, option_map, vec_items}
use Rattle.rq_standard.specs.DecoderState.{result_of}
use Rattle.raptorq.specs.Decoder.{state_of}
use Rattle.rq_cast.specs.Parts.{IsPart}
use Rattle.rq_cast.specs.Taken.{IsNamedIn}
use Rattle.rq_cast.specs.Settling.{IsPartWhere}
use Rattle.rq_cast.proofs.part_receiver.PartReceiver.settle.Goals as goal

pub returns-clause-settles : goal.returns-clause-settles
returns-clause-settles c =
    let old = c.args.self.now in
    let h = old.choice.head in
    let object = c.in-Some.object.items in
    let named = subst (λ o. IsNamedIn h (result_of (state_of old.attempt.decoder)) (option_map vec_items o)) (sym c.take.ensures.value ∙ c.in-Some.is)
    c.requires.sound.attempt.object in
    let is_last = c.in-Some-2.is_last in
    record {
      object = object;
      answered = named.0;
      name = refl;
      is_part = λ before are.
          let part = subst (IsPartWhere before h c.as_slice.result.now) c.in-Some-2.is (c.in_ok-is_last.ensures.part before are) in
          subst (IsPart is_last before h object) (sym c.truncate.ensures.items)
          (subst (λ (xs : List ℕ). IsPart is_last before h xs (take c.in-Some-2.length xs)) c.as_slice.ensures.value part);
    }
