use Rattle.std.proofs.Common.{◌+◌, ◌%◌, ap, ◌∙◌, arith}
use Rattle.rq_base.proofs.HdpcSteps.{mt-is, two_rows}
use Rattle.rq_base.proofs.constraint_matrix.hdpc.ones_of_mt.Goals as goal

pub returns-clause-apart : goal.returns-clause-apart
returns-clause-apart c same =
    let height = c.args.row.now.numbers.hdpc_symbols in
    let second = c.sum_modulo-second.ensures.value ∙ ap (λ n. n % height) {y = c.rand-first.result + c.rand.result + 1} (omega arith) in
    two_rows c.rand-first.result c.rand.result height c.rand-first.ensures.below (omega arith) (same ∙ second)

pub returns-clause-ones : goal.returns-clause-ones
returns-clause-ones c i =
    let first = c.rand-first.result in
    let height = c.args.row.now.numbers.hdpc_symbols in
    let second = c.sum_modulo-second.ensures.value ∙ ap (λ n. n % height) {y = first + c.rand.result + 1} (omega arith) in
    mt-is c.args.row.now.numbers i c.args.column first c.sum_modulo-second.result c.requires.column c.rand-first.ensures.value (second ∙ ap (λ r. (first + r + 1) % height) c.rand.ensures.value)
