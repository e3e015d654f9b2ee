-- What the check leaves to show of `octets::rows`.
use Rattle.rq_standard.proofs.RowSymbols.{add_symbols-rows, scale-rows}
use Rattle.rq_standard.proofs.octets.rows.Goals as goal

pub returns : goal.returns
returns c = record { sum = add_symbols-rows; multiple = scale-rows }
