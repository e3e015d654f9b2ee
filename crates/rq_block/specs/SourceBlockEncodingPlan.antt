-- What a plan shows.
use Rattle.std.specs.Prelude.{◌≡◌, ◌⊎◌, ℕ, List, Result, Ok, Err, if◌then◌else◌, nat_lt}
use Rattle.rq_algebra.specs.Operations.{Operation}
use Rattle.rq_bytes.specs.declared.error.Error.{Error}
use Rattle.rq_bytes.specs.declared.error.Error.TheVariants.{BlockOverTable, Singular}
use Rattle.rq_bytes.specs.Refusals.{IsRefusal}
use Rattle.rq_operations.specs.RecordedOperations.{operations_of}
use Rattle.rq_standard.specs.declared.row.TableRow.{TableRow}
use Rattle.rq_standard.specs.TableRows.{greatest_size, row_of}
use Rattle.rq_standard.specs.Headline.{IsSingular}
use Rattle.rq_block.specs.declared.encoder.plan.SourceBlockEncodingPlan.{SourceBlockEncodingPlan}

-- the number of source symbols that it was made for, their row, and its operations
pub record Plan : Type 0 where
  pub count : ℕ
  pub row : TableRow
  pub operations : List Operation

abbrev pub plan_of : SourceBlockEncodingPlan → Plan
plan_of p = record { count = p.source_symbol_count; row = p.row.numbers; operations = operations_of p.operations }

-- whether a table has a row for `count` symbols
abbrev pub plan_refusal : List TableRow → ℕ → Result (Unit {0}) Error
plan_refusal table count = if nat_lt (greatest_size table) count then Err BlockOverTable else Ok tt

-- what a plan of `count` symbols is refused for: first this, and then a singular row
abbrev pub RefusesPlan : List TableRow → ℕ → Error → Type 0
RefusesPlan table count e =
    let wanted = plan_refusal table count in
    IsRefusal e wanted ⊎ ((wanted ≡ Ok tt) × (e ≡ Singular) × IsSingular (row_of table count))
