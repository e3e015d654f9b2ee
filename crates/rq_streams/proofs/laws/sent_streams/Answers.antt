use Rattle.rq_streams.proofs.SentLaws.{sent_stream}
use Rattle.rq_streams.proofs.laws.sent_streams.Goals as goal

pub returns : goal.returns
returns c = sent_stream
