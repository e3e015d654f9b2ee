use Rattle.rq_shards.proofs.DealtShards.{hold}
use Rattle.rq_shards.proofs.laws.shards_hold_theirs.Goals as goal

pub returns : goal.returns
returns g c = λ key cells old new rest each deals shard d below. hold g.W.Write.contents key shard d cells old new rest below each deals
