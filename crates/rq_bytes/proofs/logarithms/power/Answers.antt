-- What the check leaves to show of `logarithms::power`.
use Rattle.rq_bytes.proofs.TableFacts.{exp_at}
use Rattle.rq_bytes.proofs.logarithms.power.Goals as goal

pub returns : goal.returns
returns c = exp_at c.args.exponent c.requires
