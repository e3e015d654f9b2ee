use Rattle.std.proofs.Common.{◌≡◌, ◌+◌, ◌-◌, ◌≤◌, ◌++◌, sym, ap, subst, ◌∙◌, arith, length, take, drop, length-append}
use Rattle.std.proofs.Math.Seq.{take-add, take-length}
use Rattle.std.proofs.lemmas.List.{length-take}
use Rattle.rq_cast.specs.Reading.{chunk_length}
use Rattle.rq_cast.specs.Receiving.{HasFed}
use Rattle.rq_cast.proofs.survey.feed_all.Goals as goal

pub feeding-preserved : goal.feeding-preserved
feeding-preserved c =
    let bytes = c.args.bytes.now in
    let at = c.feeding.at in
    let end = c.min-end.result in
    let piece = take (end - at) (drop at bytes) in
    let sum : at + (end - at) ≡ end = omega (arith, c.min-end.ensures, c.feeding-test.true) in
    let grown : take at bytes ++ piece ≡ take end bytes = sym (take-add at (end - at) bytes) ∙ ap (λ n. take n bytes) sum in
    let few : length piece ≤ chunk_length = omega (arith, length-take (end - at) (drop at bytes), c.min-end.ensures) in
    let out = c.take_ready.result.items in
    record {
      fed = λ table w width first.
          let (given, has, count) = c.feeding.invariant.fed table w width first in
          let more = c.in_ok-feed.ensures.fed table w width chunk_length (take at bytes) given few has in
          let handed = c.take_ready.ensures.hands table w width chunk_length (take at bytes ++ piece) given more in (
            given ++ out,
            subst (λ xs. HasFed table w width chunk_length xs (given ++ out) c.take_ready.new.self) grown handed,
            omega (arith, c.saturating_add-written.ensures, count, length-append given out),
          );
      sound = c.take_ready.ensures.sound c.in_ok-feed.ensures.sound;
      none = c.take_ready.ensures.none;
      within = omega (arith, c.min-end.ensures);
    }

pub returns-clause-feeds : goal.returns-clause-feeds
returns-clause-feeds c = λ table w width first.
    let bytes = c.args.bytes.now in
    let (given, has, count) = c.feeding.invariant.fed table w width first in
    let all : c.feeding.at ≡ length bytes = omega (arith, c.feeding-test.false, c.feeding.invariant.within) in
    (given, subst (λ xs. HasFed table w width chunk_length xs given c.feeding.receiver) (ap (λ n. take n bytes) all ∙ take-length bytes) has, count)
