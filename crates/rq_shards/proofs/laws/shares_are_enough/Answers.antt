use Rattle.rq_shards.proofs.EnoughShares.{alike, enough}
use Rattle.rq_shards.proofs.laws.shares_are_enough.Goals as goal

pub returns-clause-enough : goal.returns-clause-enough
returns-clause-enough c = enough

pub returns-clause-alike : goal.returns-clause-alike
returns-clause-alike c = alike
