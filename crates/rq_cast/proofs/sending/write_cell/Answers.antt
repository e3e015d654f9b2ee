use Rattle.std.proofs.Common.{◌+◌}
use Rattle.std.proofs.lemmas.Result.{err_from_is_err_and}
use Rattle.rq_streams.proofs.Bytes.{Appends-next}
use Rattle.rq_cast.proofs.sending.write_cell.Goals as goal

pub returns-in_err-write_rest-in-Ok-clause-beginning : goal.returns-in_err-write_rest-in-Ok-clause-beginning
returns-in_err-write_rest-in-Ok-clause-beginning g c =
    let stopped = c.in_err-write_rest-in-Ok.ensures.beginning in
    let p = err_from_is_err_and c.from_residual.result c.from_residual.ensures.1 in
    rw p.1 (c.in-Ok.n + stopped.0, Appends-next _ _ _ _ _ _ c.in-Ok.ensures.bytes stopped.1)
