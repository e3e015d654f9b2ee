use Rattle.rq_standard.proofs.SourcePackets.{source_packet}
use Rattle.raptorq.proofs.laws.source_packets.Goals as goal

pub returns : goal.returns
returns c = source_packet
