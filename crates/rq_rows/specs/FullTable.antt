-- The table of all rows of RFC 6330, 5.6.
use Rattle.std.specs.Prelude.{List, ◌++◌}
use Rattle.rq_standard.specs.declared.row.TableRow.{TableRow}
use Rattle.rq_standard.specs.TableRows.{built_in_rows, rows_from}
use Rattle.rq_rows.specs.declared.further_rows.TheConstants.{FURTHER_ROWS}

unfoldable pub full_rows : List TableRow
full_rows = built_in_rows ++ rows_from 74 FURTHER_ROWS
