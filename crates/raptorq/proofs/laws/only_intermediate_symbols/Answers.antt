use Rattle.rq_standard.proofs.Columns.{only_column}
use Rattle.raptorq.proofs.laws.only_intermediate_symbols.Goals as goal

pub returns : goal.returns
returns c = only_column
