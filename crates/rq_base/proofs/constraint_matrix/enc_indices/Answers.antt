-- What the check leaves to show of `constraint_matrix::enc_indices`.
use Rattle.std.proofs.Common.{arith}
use Rattle.rq_standard.proofs.PlaceLaws.{places_below}
use Rattle.rq_base.proofs.constraint_matrix.enc_indices.Goals as goal

pub loop-index-init : goal.loop-index-init
loop-index-init g c = rw c.new-indices.ensures (c.requires.callable, λ last calls. calls)

pub returns-clause-below : goal.returns-clause-below
returns-clause-below g c = places_below c.args.lt_symbols c.args.pi_symbols c.args.p1 c.args.source_tuple (omega (arith, c.requires.tuple.ranges.step_below))
