use Rattle.rq_standard.proofs.PlaceLaws.{ldpc_places, row_indices_below}
use Rattle.rq_standard.proofs.tables.indices.Goals as goal

pub returns-clause-ldpc : goal.returns-clause-ldpc
returns-clause-ldpc c = ldpc_places

pub returns-clause-below : goal.returns-clause-below
returns-clause-below c = row_indices_below
