use Rattle.rq_standard.proofs.MorePackets.{more_determine_block, more_answerable, answer_stays}
use Rattle.raptorq.proofs.laws.more_packets.Goals as goal

pub returns-clause-blocks : goal.returns-clause-blocks
returns-clause-blocks c = more_determine_block

pub returns-clause-objects : goal.returns-clause-objects
returns-clause-objects c = more_answerable

pub returns-clause-answers : goal.returns-clause-answers
returns-clause-answers c = answer_stays
