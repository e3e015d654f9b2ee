-- What the calls on tables should answer, refusals in their order.
use Rattle.std.specs.Prelude.{ℕ, ◌++◌, List, Option, None, Some, Result, Ok, Err}
use Rattle.rq_bytes.specs.declared.error.Error.{Error}
use Rattle.rq_bytes.specs.declared.error.Error.TheVariants.{RowRefused, TooManySymbols}
use Rattle.rq_bytes.specs.Refusals.{and_then}
use Rattle.rq_standard.specs.declared.row.TableRow.{TableRow}
use Rattle.rq_standard.specs.TableRows.{RowNumbers, built_in_rows, rows_from, first_refused, extended_size}

abbrev pub size_or_refusal : Option ℕ → Result ℕ Error
size_or_refusal None = Err TooManySymbols
size_or_refusal (Some size) = Ok size

-- the least size of at least k symbols, where there is one
abbrev pub wanted_size : ℕ → Result ℕ Error
wanted_size k = size_or_refusal (extended_size k)

abbrev pub refusal_or_ok : Option (ℕ × ℕ) → Result (Unit {0}) Error
refusal_or_ok None = Ok tt
refusal_or_ok (Some refused) = Err (RowRefused refused.0 refused.1)

-- the refusal of the first of these rows that fails a check
abbrev pub wanted_rows : List RowNumbers → Result (Unit {0}) Error
wanted_rows rows = refusal_or_ok (first_refused 0 rows)

-- the table of the built-in rows and these, unless one of these is refused
abbrev pub wanted_table : List RowNumbers → Result (List TableRow) Error
wanted_table rows = and_then (wanted_rows rows) (λ _. Ok (built_in_rows ++ rows_from 74 rows))
