use Rattle.std.proofs.Common.{refl}
use Rattle.rq_standard.specs.Rand.{rand}
use Rattle.rq_tables.proofs.rng.rand.Goals as goal

pub returns-clause-value : goal.returns-clause-value
unfolding rand
returns-clause-value c = rw (c.entry.ensures, c.entry-2.ensures, c.entry-3.ensures, c.entry-4.ensures) refl
