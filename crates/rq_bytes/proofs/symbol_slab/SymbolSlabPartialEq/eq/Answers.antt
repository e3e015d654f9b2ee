-- What the check leaves to show of `symbol_slab::SymbolSlabPartialEq::eq`.
use Rattle.std.proofs.Common.{true, false, ◌&&◌, refl, ap, sym, ◌∙◌}
use Rattle.std.specs.Prelude.{◌==◌}
use Rattle.std.specs.Option.{option_eq}
use Rattle.std.specs.Cmp.Lexicographic.{pointwise}
use Rattle.std.proofs.lemmas.Bool.{eq-eqb, ne_eqb, and_right, not-false}
use Rattle.rq_bytes.proofs.SlabFacts.{compared_slabs}
use Rattle.rq_bytes.proofs.symbol_slab.SymbolSlabPartialEq.eq.Goals as goal

pub returns-then-self-other-2 : goal.returns-then-self-other-2
returns-then-self-other-2 c =
    let a = c.self.inside in
    let b = c.other.inside in
    let sizes = a.symbol_size == b.symbol_size in
    sym (
    compared_slabs a b c.args.self.now c.args.other.now c.self.view_is c.self.invariant c.other.view_is c.other.invariant
    ∙ ap (λ e. sizes && (e && (option_eq (λ x y. pointwise ◌==◌ x.items y.items) a.order b.order && pointwise ◌==◌ a.«data».items b.«data».items)))
    (ne_eqb a.count b.count c.if-self-other-2.true)
    ∙ and_right sizes false refl)

pub returns : goal.returns
returns c =
    let a = c.self.inside in
    let b = c.other.inside in
    let orders = option_eq (λ x y. pointwise ◌==◌ x.items y.items) a.order b.order in
    let octets = pointwise ◌==◌ a.«data».items b.«data».items in
    c.eq.ensures
    ∙ sym (
    compared_slabs a b c.args.self.now c.args.other.now c.self.view_is c.self.invariant c.other.view_is c.other.invariant
    ∙ ap (λ e. e && (a.count == b.count && (orders && octets))) (eq-eqb a.symbol_size b.symbol_size c.if-self-other.false)
    ∙ ap (λ e. true && (e && (orders && octets))) (eq-eqb a.count b.count c.if-self-other-2.false)
    ∙ ap (λ e. true && (true && (e && octets))) (not-false orders (sym c.ne.ensures ∙ c.if-ne.false)))
