use Rattle.std.proofs.Common.{ℕ, ◌-◌, ap, min, ◌∙◌}
use Rattle.rq_standard.specs.Tuple.{degree, first_above}
use Rattle.rq_standard.specs.declared.degrees.TheConstants.{DEGREE_STARTS}
use Rattle.rq_standard.proofs.TupleLaws.{between}
use Rattle.rq_base.proofs.base.tuple.deg.Goals as goal

pub returns-clause-value : goal.returns-clause-value
unfolding degree
returns-clause-value c = c.min.ensures ∙ ap (λ (d : ℕ). min d (c.args.lt_symbols - 2)) c.first_above.ensures

pub returns-clause-between : goal.returns-clause-between
returns-clause-between c =
    (first_above c.args.v DEGREE_STARTS, c.min.ensures ∙ ap (λ (d : ℕ). min d (c.args.lt_symbols - 2)) c.first_above.ensures, between c.args.v c.requires.v)
