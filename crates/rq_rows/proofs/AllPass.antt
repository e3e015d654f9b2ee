-- Each row of the standard passes the checks.
use Rattle.std.proofs.Common.{◌≡◌, ◌++◌, List, None, Result, Ok, refl, ap}
use Rattle.rq_bytes.specs.declared.error.Error.{Error}
use Rattle.rq_bytes.specs.Refusals.{and_then}
use Rattle.rq_standard.specs.declared.row.TableRow.{TableRow}
use Rattle.rq_standard.specs.TableRows.{IsTable, first_refused, first_failing_check, rows_from, built_in_rows, greatest_size}
use Rattle.rq_standard.proofs.RowLaws.{further_table}
use Rattle.rq_tables.specs.SystematicTable.{wanted_rows, wanted_table, refusal_or_ok}
use Rattle.rq_rows.specs.declared.further_rows.TheConstants.{FURTHER_ROWS}
use Rattle.rq_rows.specs.FullTable.{full_rows}

all_pass : first_refused 0 FURTHER_ROWS ≡ None
unfolding first_refused first_failing_check
all_pass = refl

pub none_refused : wanted_rows FURTHER_ROWS ≡ Ok tt
none_refused = ap refusal_or_ok all_pass

pub pass : wanted_table FURTHER_ROWS ≡ Ok full_rows
unfolding full_rows
pass =
    let made : Result (Unit {0}) Error → Result (List TableRow) Error = λ tested. and_then tested (λ _. Ok (built_in_rows ++ rows_from 74 FURTHER_ROWS)) in
    ap made none_refused

pub greatest : greatest_size full_rows ≡ 56403
unfolding full_rows greatest_size built_in_rows rows_from
greatest = refl

pub full_table : IsTable full_rows
unfolding full_rows
full_table = further_table FURTHER_ROWS all_pass
