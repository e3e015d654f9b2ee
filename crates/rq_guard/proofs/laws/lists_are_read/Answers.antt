use Rattle.rq_guard.proofs.ListBytes.{read_again}
use Rattle.rq_guard.proofs.laws.lists_are_read.Goals as goal

pub returns : goal.returns
returns c = read_again
