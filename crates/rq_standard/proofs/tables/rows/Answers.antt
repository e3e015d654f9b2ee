use Rattle.rq_standard.proofs.RowLaws.{built_in_table, row_checked}
use Rattle.rq_standard.proofs.tables.rows.Goals as goal

pub returns-clause-built_in : goal.returns-clause-built_in
returns-clause-built_in c = built_in_table

pub returns-clause-look_ups : goal.returns-clause-look_ups
returns-clause-look_ups c = row_checked
