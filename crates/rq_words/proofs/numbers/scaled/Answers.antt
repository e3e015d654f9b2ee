use Rattle.std.proofs.Common.{◌+◌, ◌-◌, ◌∙◌, length, ap, ap₂, sym, lit<}
use Rattle.std.proofs.lemmas.Option.{MatchOption-at_none, MatchOption-at_some}
use Rattle.std.proofs.lemmas.Str.Pattern.{split_once_first}
use Rattle.rq_words.specs.Numbers.{digits_times, sum_of}
use Rattle.rq_words.proofs.Reading.{IsPointed, fits, scaled_long, scaled_plain, scaled_short}
use Rattle.rq_words.proofs.numbers.scaled.Goals as goal

pub returns-in_default : goal.returns-in_default
returns-in_default c =
    c.digits_times.ensures ∙ sym (scaled_plain c.args.places c.args.text.now (MatchOption-at_none _ _ c.in_default.is
    (split_once_first 46 c.args.text.now c.split_once.result c.split_once.ensures.cases (lit< tt))))

pub returns-then-part-places : goal.returns-then-part-places
returns-then-part-places c =
    let parts = MatchOption-at_some _ _ (c.in-Some.whole, c.in-Some.part) c.in-Some.is (split_once_first 46 c.args.text.now c.split_once.result c.split_once.ensures.cases (lit< tt)) in
    let pointed : IsPointed c.args.text.now c.in-Some.whole.now c.in-Some.part.now = record { there = parts.0; before_it = parts.1; behind_it = parts.2 } in
    sym (scaled_long c.args.places c.args.text.now c.in-Some.whole.now c.in-Some.part.now pointed c.if-part-places.true)

pub returns-in_err-whole : goal.returns-in_err-whole
returns-in_err-whole c =
    let parts = MatchOption-at_some _ _ (c.in-Some.whole, c.in-Some.part) c.in-Some.is (split_once_first 46 c.args.text.now c.split_once.result c.split_once.ensures.cases (lit< tt)) in
    let pointed : IsPointed c.args.text.now c.in-Some.whole.now c.in-Some.part.now = record { there = parts.0; before_it = parts.1; behind_it = parts.2 } in
    let part = c.in-Some.part.now in
    c.from_residual.ensures ∙ sym (scaled_short c.args.places c.args.text.now c.in-Some.whole.now part pointed c.if-part-places.false
    ∙ ap (λ w. sum_of w (digits_times (c.args.places - length part) part)) (sym c.digits_times-2.ensures ∙ c.in_err-whole.was))

pub returns-in_err-digits_times : goal.returns-in_err-digits_times
returns-in_err-digits_times c =
    let parts = MatchOption-at_some _ _ (c.in-Some.whole, c.in-Some.part) c.in-Some.is (split_once_first 46 c.args.text.now c.split_once.result c.split_once.ensures.cases (lit< tt)) in
    let pointed : IsPointed c.args.text.now c.in-Some.whole.now c.in-Some.part.now = record { there = parts.0; before_it = parts.1; behind_it = parts.2 } in
    c.from_residual-in_err-digits_times.ensures ∙ sym (scaled_short c.args.places c.args.text.now c.in-Some.whole.now c.in-Some.part.now pointed c.if-part-places.false
    ∙ ap₂ sum_of (sym c.digits_times-2.ensures ∙ c.in_ok-whole.was) (sym c.digits_times-3.ensures ∙ c.in_err-digits_times.was))

pub returns : goal.returns
returns c =
    let parts = MatchOption-at_some _ _ (c.in-Some.whole, c.in-Some.part) c.in-Some.is (split_once_first 46 c.args.text.now c.split_once.result c.split_once.ensures.cases (lit< tt)) in
    let pointed : IsPointed c.args.text.now c.in-Some.whole.now c.in-Some.part.now = record { there = parts.0; before_it = parts.1; behind_it = parts.2 } in
    fits 64 (c.in_ok-whole.whole + c.in_ok-digits_times.field-0) c.checked_add.result c.checked_add.ensures
    ∙ sym (scaled_short c.args.places c.args.text.now c.in-Some.whole.now c.in-Some.part.now pointed c.if-part-places.false
    ∙ ap₂ sum_of (sym c.digits_times-2.ensures ∙ c.in_ok-whole.was) (sym c.digits_times-3.ensures ∙ c.in_ok-digits_times.was))
