use Rattle.rq_streams.proofs.Unmixed.{unmixed_stream}
use Rattle.rq_streams.proofs.laws.unmixed_streams.Goals as goal

pub returns : goal.returns
returns c = unmixed_stream
