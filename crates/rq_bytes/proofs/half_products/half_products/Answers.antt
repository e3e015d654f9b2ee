-- What the check leaves to show of `half_products::half_products`.
use Rattle.std.proofs.Common.{List, ℕ, length, get_or, ap, ◌∙◌}
use Rattle.rq_bytes.proofs.HalfLookUps.{sums, sums_long, as_read}
use Rattle.rq_bytes.proofs.half_products.half_products.Goals as goal

pub returns-clause-long : goal.returns-clause-long
returns-clause-long c =
    ap length (as_read c.args.scalar c.from.result c.from-2.result c.ranges.scalar.fits c.from.ensures c.from-2.ensures)
    ∙ sums_long c.args.scalar c.from.result c.from-2.result c.ranges.scalar.fits c.from.ensures c.from-2.ensures

pub returns-clause-each : goal.returns-clause-each
returns-clause-each c = λ i l.
    ap (λ (xs : List ℕ). get_or xs i 0) (as_read c.args.scalar c.from.result c.from-2.result c.ranges.scalar.fits c.from.ensures c.from-2.ensures)
    ∙ sums c.args.scalar c.from.result c.from-2.result c.ranges.scalar.fits c.from.ensures c.from-2.ensures i l
