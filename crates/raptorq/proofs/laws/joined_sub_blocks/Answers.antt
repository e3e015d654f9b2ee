use Rattle.rq_standard.proofs.Joined.{joined_is_block, symbols_of_joined}
use Rattle.raptorq.proofs.laws.joined_sub_blocks.Goals as goal

pub returns-clause-joined : goal.returns-clause-joined
returns-clause-joined c = joined_is_block

pub returns-clause-cut : goal.returns-clause-cut
returns-clause-cut c = symbols_of_joined
