use Rattle.std.proofs.Common.{◌≡◌, ◌≢◌, true, false, get_or, sym, ◌∙◌, lit<}
use Rattle.std.proofs.lemmas.Str.Pattern.{starts_char}
use Rattle.rq_words.proofs.Reading.{no_number, number_by}
use Rattle.rq_words.proofs.numbers.number.Goals as goal

pub returns-then-starts_with : goal.returns-then-starts_with
returns-then-starts_with c =
    let first = starts_char 43 c.args.text.now c.starts_with.result c.starts_with.ensures.cases (lit< tt) (lit< tt) in
    sym (no_number c.args.text.now (first.0 c.if-starts_with.true))

pub returns : goal.returns
returns c =
    let first = starts_char 43 c.args.text.now c.starts_with.result c.starts_with.ensures.cases (lit< tt) (lit< tt) in
    let plain : get_or c.args.text.now 0 0 ≢ 43 = λ e. (let both : true ≡ false = sym (first.1 e) ∙ c.if-starts_with.false in absurd (cc both)) in
    number_by c.args.text.now c.parse.result c.parse.ensures.value.0 plain c.ok.result c.ok.ensures.value
