use Rattle.rq_standard.proofs.Contradictions.{honest_runs_grow, honest_packets_fit}
use Rattle.raptorq.proofs.Stops.{honest_is_taken}
use Rattle.raptorq.proofs.laws.honest_packets.Goals as goal

pub returns : goal.returns
returns c = record { runs = honest_runs_grow; fit = honest_packets_fit; taken = honest_is_taken }
