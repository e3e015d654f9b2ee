use Rattle.raptorq.proofs.FollowedRuns.{run_refusal_is_one}
use Rattle.raptorq.proofs.laws.first_refusals.Goals as goal

pub returns : goal.returns
returns c = run_refusal_is_one
