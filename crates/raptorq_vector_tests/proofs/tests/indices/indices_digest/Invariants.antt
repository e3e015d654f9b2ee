use Rattle.std.proofs.Common.{length}
use Rattle.raptorq_vector_tests.proofs.tests.indices.indices_digest.Given as goal

abbrev pub decreases-loop-index : goal.decreases-loop-index
decreases-loop-index l = length l.indices
