-- The blocks of a configuration that coders take, over a checked table.
use Rattle.std.proofs.Common.{ℕ, ◌<◌, ◌≤◌, List, arith}
use Rattle.rq_standard.specs.declared.row.TableRow.{TableRow}
use Rattle.rq_standard.specs.TableRows.{IsTable, greatest_size}
use Rattle.rq_standard.specs.Configuration.{Configuration, IsAccepted, IsAligned}
use Rattle.rq_standard.specs.Cutting.{block_symbols}
use Rattle.rq_standard.specs.Headline.{block_row}
use Rattle.rq_standard.specs.PacketLaws.{AnswerableIsOnlyObject}
use Rattle.rq_standard.proofs.BlockCuts.{block_symbols_few}
use Rattle.rq_standard.proofs.OneObject.{one_object}
use Rattle.rq_standard.proofs.OtherObjects.{only_is_answerable}
use Rattle.rq_standard.proofs.StandingSteps.{HasRow}
use Rattle.rq_standard.proofs.RowLaws.{row_checked}

-- they have checked rows with room for them
pub block_has_row : (table : List TableRow) (c : Configuration) → IsTable table → IsAccepted (greatest_size table) c → (b : ℕ) → b < c.source_blocks → HasRow (block_row table c b) (block_symbols c b)
block_has_row table c checked accepted b below =
    let few : block_symbols c b ≤ greatest_size table = omega (arith, block_symbols_few c b below, accepted.in_table) in
    let q = row_checked table (block_symbols c b) checked few in
    record { checked = q.0; fits = q.1 }

-- so an honest run determines each of them exactly where no other object fits
pub answerable_only : AnswerableIsOnlyObject
answerable_only table c object packets checked accepted run =
    let rows = block_has_row table c checked accepted in
    let aligned : IsAligned c = record { alignment_positive = accepted.alignment_positive; aligned = accepted.aligned } in (
      λ d other fits. one_object table c object other packets accepted.size_positive accepted.blocks_positive aligned rows run fits d,
      only_is_answerable table c accepted.size_positive accepted.blocks_positive aligned rows object packets run,
    )
