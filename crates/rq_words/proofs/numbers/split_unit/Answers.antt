use Rattle.std.proofs.Common.{◌≡◌, cond, ap, sym, lit<}
use Rattle.std.specs.Prelude.{nat_lt}
use Rattle.std.proofs.lemmas.Option.{MatchOption-at_none}
use Rattle.std.proofs.lemmas.Str.Pattern.{strip_suffix_char}
use Rattle.rq_words.specs.Numbers.{last, without_last, zeros_of}
use Rattle.rq_words.proofs.Reading.{ends_without, no_zeros}
use Rattle.rq_words.proofs.numbers.split_unit.Goals as goal

pub returns-clause-zeros : goal.returns-clause-zeros
returns-clause-zeros c =
    let text = c.args.text.now in
    let k = ends_without text 107 (lit< tt) (MatchOption-at_none _ _ c.in_default.is (strip_suffix_char 107 text c.strip_suffix.result c.strip_suffix.ensures.cases (lit< tt))) in
    let M = ends_without text 77 (lit< tt) (MatchOption-at_none _ _ c.in_default-strip_suffix.is (strip_suffix_char 77 text c.strip_suffix-2.result c.strip_suffix-2.ensures.cases (lit< tt))) in
    let m = ends_without text 109 (lit< tt) (MatchOption-at_none _ _ c.in_default-strip_suffix-2.is (strip_suffix_char 109 text c.strip_suffix-3.result c.strip_suffix-3.ensures.cases (lit< tt))) in
    let G = ends_without text 71 (lit< tt) (MatchOption-at_none _ _ c.in_default-strip_suffix-3.is (strip_suffix_char 71 text c.strip_suffix-4.result c.strip_suffix-4.ensures.cases (lit< tt))) in
    let g = ends_without text 103 (lit< tt) (MatchOption-at_none _ _ c.in_default-strip_suffix-4.is (strip_suffix_char 103 text c.strip_suffix-5.result c.strip_suffix-5.ensures.cases (lit< tt))) in
    sym (no_zeros (last text) k M m G g)

pub returns-clause-number : goal.returns-clause-number
returns-clause-number c =
    let text = c.args.text.now in
    let zeros : 0 ≡ zeros_of (last text) = returns-clause-zeros c in
    ap (λ z. cond (nat_lt 0 z) (without_last text) text) zeros
