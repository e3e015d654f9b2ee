use Rattle.rq_rows.proofs.AllPass.{pass, greatest}
use Rattle.rq_rows.proofs.no_row_fails.Goals as goal

pub returns : goal.returns
returns c = record { table = pass; greatest = greatest }
