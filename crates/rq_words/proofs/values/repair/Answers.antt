use Rattle.std.proofs.Common.{◌∙◌, ap, sym, lit<}
use Rattle.std.specs.Prelude.{option_map}
use Rattle.std.proofs.lemmas.Option.{MatchOption-at_none}
use Rattle.std.proofs.lemmas.Str.Pattern.{strip_suffix_char}
use Rattle.rq_cast.specs.declared.series.Repair.TheVariants.{Packets}
use Rattle.rq_words.proofs.Reading.{packets-are}
use Rattle.rq_words.proofs.values.repair.Goals as goal

pub returns-in_err-packets-in-None : goal.returns-in_err-packets-in-None
returns-in_err-packets-in-None c =
    let never = MatchOption-at_none _ _ c.in-None.is (strip_suffix_char 37 c.args.text.now c.strip_suffix.result c.strip_suffix.ensures.cases (lit< tt)) in
    c.from_residual-in_err-packets-in-None.ensures
    ∙ sym (packets-are c.args.text.now never (sym c.eq.ensures ∙ c.if-eq.false) ∙ ap (option_map Packets) (sym c.packets.ensures ∙ c.in_err-packets-in-None.was))

pub returns-in_ok-packets-in-None : goal.returns-in_ok-packets-in-None
returns-in_ok-packets-in-None c =
    let never = MatchOption-at_none _ _ c.in-None.is (strip_suffix_char 37 c.args.text.now c.strip_suffix.result c.strip_suffix.ensures.cases (lit< tt)) in
    sym (packets-are c.args.text.now never (sym c.eq.ensures ∙ c.if-eq.false) ∙ ap (option_map Packets) (sym c.packets.ensures ∙ c.in_ok-packets-in-None.was))
