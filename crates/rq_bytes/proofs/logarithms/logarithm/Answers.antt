-- What the check leaves to show of `logarithms::logarithm`.
use Rattle.rq_bytes.proofs.TableFacts.{log_at}
use Rattle.rq_bytes.proofs.logarithms.logarithm.Goals as goal

pub returns-clause-power : goal.returns-clause-power
returns-clause-power c = (log_at c.args.value c.ranges.value.fits c.requires).1

pub returns-clause-below : goal.returns-clause-below
returns-clause-below c = (log_at c.args.value c.ranges.value.fits c.requires).0
