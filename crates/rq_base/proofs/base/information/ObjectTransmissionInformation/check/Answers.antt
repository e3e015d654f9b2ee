use Rattle.std.proofs.Common.{arith}
use Rattle.rq_standard.proofs.RowLaws.{greatest_below}
use Rattle.rq_base.proofs.base.information.ObjectTransmissionInformation.check.Goals as goal

pub returns-clause-few : goal.returns-clause-few
returns-clause-few c =
    omega (arith, c.largest_block.ensures, c.greatest.ensures.size, c.from.ensures, greatest_below c.args.table.now c.greatest.ensures.checked)
