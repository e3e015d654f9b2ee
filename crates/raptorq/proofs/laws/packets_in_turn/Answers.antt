use Rattle.raptorq.proofs.InTurn.{turns_take, turns_remember}
use Rattle.raptorq.proofs.laws.packets_in_turn.Goals as goal

pub returns : goal.returns
returns c = record { take = turns_take; remember = turns_remember }
