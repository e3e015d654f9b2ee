use Rattle.std.proofs.lemmas.Result.{IfOk-weaker}
use Rattle.rq_block.proofs.Undetermined.{shows_equations}
use Rattle.rq_block.proofs.solving.null_vector_over.Goals as goal

pub returns-clause-shown : goal.returns-clause-shown
returns-clause-shown g c =
    let m = c.in_ok-matrix in
    IfOk-weaker c.null_vector.result _ _ (λ answer shows. shows_equations c.args.row.now.numbers c.args.ids.now (g.T.BinaryMatrix.content m.matrix) m.hdpc m.ensures.bits m.ensures.hdpc answer shows) (rw c.ldpc_symbols.ensures.value at c.null_vector.ensures.shown)
