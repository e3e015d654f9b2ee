use Rattle.rq_base.proofs.BitRowSteps.{ldpc_1_stepped, three_set}
use Rattle.rq_base.proofs.constraint_matrix.binary.set_ldpc_1_column.Goals as goal

pub returns-clause-done : goal.returns-clause-done
returns-clause-done g c =
    ldpc_1_stepped c.args.row.now.checked c.requires.room c.requires.first c.requires.before c.sum_modulo-second.ensures.value c.sum_modulo-third.ensures.value
    (three_set c.in_ok-set.ensures.ok c.in_ok-set-2.ensures.ok c.in_ok-set-3.ensures.ok c.one.ensures c.one-2.ensures c.one-3.ensures)
