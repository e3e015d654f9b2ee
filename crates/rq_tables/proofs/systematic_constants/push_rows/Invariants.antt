use Rattle.std.proofs.Common.{◌≡◌, ◌+◌, ◌++◌, drop, vec_len}
use Rattle.rq_standard.specs.TableRows.{rows_from}
use Rattle.rq_tables.proofs.systematic_constants.push_rows.Given as goal

abbrev pub invariant-loop-numbers_of_row : goal.invariant-loop-numbers_of_row
invariant-loop-numbers_of_row l = record {
  made : l.rows.items ++ rows_from (vec_len l.rows) (drop l.numbers_of_row-index l.numbers) ≡ l.initial.rows.items ++ rows_from (vec_len l.initial.rows) l.numbers;
  count : vec_len l.rows ≡ vec_len l.initial.rows + l.numbers_of_row-index;
}
