use Rattle.std.proofs.Common.{◌∙◌, sym, arith, ap, ℕ}
use Rattle.rq_base.specs.Indices.{next_below}
use Rattle.rq_base.proofs.WalkLaws.{HasWalkEnds, next_step, next_here}
use Rattle.rq_base.proofs.indices.next_below.Goals as goal

pub loop-value-preserved : goal.loop-value-preserved
loop-value-preserved c =
    let ends : HasWalkEnds c.args.pi_symbols c.args.p1 c.args.step = record { some = c.requires.some_step; below = c.requires.step; bound = omega arith; above = c.requires.p1_above; near = c.requires.p1_near } in
    let step = next_step c.args.pi_symbols c.args.p1 c.args.step c.loop-value.value ends c.loop-value.invariant.within c.loop-value-test.true in
    record {
      within = c.sum_modulo-value.ensures.below;
      same = ap (λ (y : ℕ). next_below c.args.pi_symbols c.args.p1 c.args.step c.args.p1 y) c.sum_modulo-value.ensures.value ∙ step ∙ c.loop-value.invariant.same;
    }

pub returns-clause-value : goal.returns-clause-value
returns-clause-value c = sym (next_here c.args.pi_symbols c.args.p1 c.args.step c.args.p1 c.loop-value.value c.loop-value-test.false) ∙ c.loop-value.invariant.same
