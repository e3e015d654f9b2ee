-- What the check leaves to show of `row_sums::add_rows`.
use Rattle.std.proofs.Common.{length, refl, sym, ◌∙◌}
use Rattle.rq_bytes.proofs.RowSums.{rows_at}
use Rattle.rq_bytes.proofs.row_sums.add_rows.Goals as goal

pub returns : goal.returns
returns c = c.change_row.ensures ∙ sym (rows_at (λ r. r.now) c.args.rows.now c.args.octets.now (length c.args.octets.now) refl c.requires)
