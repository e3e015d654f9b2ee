use Rattle.raptorq.proofs.AnsweredParts.{parts_of_decoder, parts_are_objects}
use Rattle.raptorq.proofs.laws.joined_blocks.Goals as goal

pub returns : goal.returns
returns c = record { object = parts_of_decoder; parts = parts_are_objects }
