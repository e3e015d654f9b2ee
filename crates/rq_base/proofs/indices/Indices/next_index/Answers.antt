use Rattle.std.proofs.Common.{◌≡◌, ◌++◌, ◌+◌, ◌∷◌, [], ◌∙◌, sym, ap, arith, List, ℕ, map, ◌-◌, ◌<◌, refl}
use Rattle.rq_base.specs.Indices.{walk, walk_below}
use Rattle.rq_base.proofs.WalkLaws.{walk-next, walk-none, walk_below-next, walk_below-none}
use Rattle.rq_base.proofs.indices.Indices.next_index.Goals as goal

pub returns-then-self-gt0 : goal.returns-then-self-gt0
returns-then-self-gt0 c =
    let s = c.self.inside in
    let later = map (λ value. s.lt_symbols + value) (walk_below s.pi_symbols s.p1 s.pi_step s.pi_value s.pi_left) in
    sym c.self.view_is
    ∙ ap (λ (xs : List ℕ). xs ++ later) (walk-next s.lt_symbols s.lt_step s.lt_value s.lt_left c.if-self-gt0.true)
    ∙ ap (λ (y : ℕ). s.lt_value ∷ (walk s.lt_symbols s.lt_step y (s.lt_left - 1) ++ later)) (sym c.sum_modulo-self-inside.ensures.value)

pub returns-then-self-eq0 : goal.returns-then-self-eq0
returns-then-self-eq0 c =
    let s = c.self.inside in
    let none : c.args.self.now ≡ [] =
    sym c.self.view_is
    ∙ rw (walk-none s.lt_symbols s.lt_step s.lt_value s.lt_left (omega arith), walk_below-none s.pi_symbols s.p1 s.pi_step s.pi_value s.pi_left c.if-self-eq0.true) refl in
    (none, none)

pub returns : goal.returns
returns c =
    let s = c.self.inside in
    let some : 0 < s.pi_left = omega (arith, c.if-self-eq0.false) in
    sym c.self.view_is
    ∙ rw (walk-none s.lt_symbols s.lt_step s.lt_value s.lt_left (omega arith), walk_below-next s.pi_symbols s.p1 s.pi_step s.pi_value s.pi_left some, c.sum_modulo-self-inside-2.ensures.value, c.next_below-value.ensures.value) refl
