-- What the check leaves to show of `bit_rows::BitRowsPartialEq::eq`.
use Rattle.std.proofs.Common.{◌&&◌, ap, sym, ◌∙◌}
use Rattle.std.specs.Prelude.{◌==◌}
use Rattle.std.specs.Cmp.Lexicographic.{pointwise}
use Rattle.std.proofs.lemmas.Bool.{eq-eqb, ne_eqb}
use Rattle.rq_parts.proofs.RowBuffers.{compared_rows}
use Rattle.rq_parts.proofs.bit_rows.BitRowsPartialEq.eq.Goals as goal

pub returns-then-self-other : goal.returns-then-self-other
returns-then-self-other c =
    let a = c.self.inside in
    let b = c.other.inside in
    sym (
    compared_rows a b c.args.self.now c.args.other.now c.self.view_is c.self.invariant c.other.view_is c.other.invariant
    ∙ ap (λ e. e && pointwise ◌==◌ a.words.items b.words.items) (ne_eqb a.count b.count c.if-self-other.true))

pub returns : goal.returns
returns c =
    let a = c.self.inside in
    let b = c.other.inside in
    c.eq.ensures
    ∙ sym (
    compared_rows a b c.args.self.now c.args.other.now c.self.view_is c.self.invariant c.other.view_is c.other.invariant
    ∙ ap (λ e. e && pointwise ◌==◌ a.words.items b.words.items) (eq-eqb a.count b.count c.if-self-other.false))
