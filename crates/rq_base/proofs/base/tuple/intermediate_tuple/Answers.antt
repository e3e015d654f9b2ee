use Rattle.std.proofs.Common.{◌≡◌, ℕ, ◌+◌, ◌^◌, ◌∙◌, ap, refl, cond, ltb}
use Rattle.std.proofs.lemmas.Bool.{lt-ltb, le-ltb}
use Rattle.rq_standard.specs.Rand.{rand}
use Rattle.rq_standard.specs.Tuple.{degree, seed_of, tuple_of}
use Rattle.rq_base.proofs.base.tuple.intermediate_tuple.Goals as goal
use Rattle.rq_base.proofs.base.tuple.intermediate_tuple.Goals.{then-d-lt4, else-d-lt4}

degree_is : (c : goal.After-rand-b1) → c.deg-d.result ≡ degree (rand (seed_of c.args.systematic_index c.args.internal_symbol_id) 0 (2 ^ 20)) c.args.lt_symbols
degree_is c = c.deg-d.ensures.value ∙ ap (λ (v : ℕ). degree v c.args.lt_symbols) (c.rand.ensures.value ∙ ap (λ (y : ℕ). rand y 0 (2 ^ 20)) c.seed-y.ensures)

d1_is : (c : goal.After-rand-b1) → c.if-d-lt4.d1 ≡ 2 + cond (ltb c.deg-d.result 4) (rand c.args.internal_symbol_id 3 2) 0
d1_is c =
    elim c.if-d-lt4.branch [
      | then-d-lt4 w ↦ rw (lt-ltb c.deg-d.result 4 w.if-d-lt4.true) (w.d1-is ∙ ap (λ (n : ℕ). 2 + n) w.rand-then-d-lt4.ensures.value)
      | else-d-lt4 w ↦ rw (le-ltb c.deg-d.result 4 w.if-d-lt4.false) w.d1-is
    ]

pub returns-clause-value : goal.returns-clause-value
unfolding tuple_of
returns-clause-value c =
    rw (d1_is c, degree_is c, c.rand-a.ensures.value, c.rand-b.ensures.value, c.rand-a1.ensures.value, c.rand-b1.ensures.value, c.seed-y.ensures) refl
