use Rattle.std.proofs.Common.{ap, ◌∙◌}
use Rattle.rq_standard.specs.Rows.{row_multiple}
use Rattle.rq_base.proofs.HdpcSteps.{column_before}
use Rattle.rq_base.proofs.constraint_matrix.hdpc.step_back.Goals as goal

pub returns : goal.returns
returns c =
    let next = c.args.octets.now in
    let ones = c.ones_of_mt-first.ensures in
    column_before c.args.row.now.numbers c.args.column c.ones_of_mt-first.result.0 c.ones_of_mt-first.result.1 next _ c.requires.next c.requires.column
    (c.multiply_row.ensures.multiple ∙ ap (λ a. row_multiple a next) c.new.ensures) ones.first ones.second ones.apart ones.ones
