use Rattle.rq_cells.proofs.FirstCell.{nothing_before_first}
use Rattle.rq_cells.proofs.laws.nothing_before_first.Goals as goal

pub returns : goal.returns
returns c = λ w bytes rest at h first. nothing_before_first w h bytes rest at first
