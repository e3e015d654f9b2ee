use Rattle.rq_base.proofs.BitRowSteps.{ldpc_more, three_set}
use Rattle.rq_base.proofs.constraint_matrix.binary.set_ldpc_row.Goals as goal

pub returns-clause-done : goal.returns-clause-done
returns-clause-done g c =
    ldpc_more c.args.row.now.checked c.requires.room c.requires.ldpc c.requires.before
    (rw (c.b.ensures.value, c.lt_symbols-lt_symbols.ensures.value, c.pi_symbols-pi_symbols.ensures.value) at (three_set c.in_ok-set.ensures.ok c.in_ok-set-2.ensures.ok c.in_ok-set-3.ensures.ok c.one.ensures c.one-2.ensures c.one-3.ensures))
