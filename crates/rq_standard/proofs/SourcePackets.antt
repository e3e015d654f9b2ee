-- The packets of source symbols carry them.
use Rattle.std.proofs.Common.{◌≡◌, ◌+◌, ◌-◌, cond, length, ap, ◌∙◌, arith}
use Rattle.std.proofs.lemmas.Bool.{lt-ltb}
use Rattle.rq_standard.specs.Cutting.{block_symbols}
use Rattle.rq_standard.specs.Equations.{tuple_sum, internal_id}
use Rattle.rq_standard.specs.Headline.{block_row, block_source}
use Rattle.rq_standard.specs.PacketLaws.{SourcePacketsAreSymbols}
use Rattle.rq_standard.proofs.BlockRows.{block_has_row}
use Rattle.rq_standard.proofs.Columns.{source_sum}
use Rattle.rq_standard.proofs.StandingSteps.{length-block_source, source_at, source_sized}

pub source_packet : SourcePacketsAreSymbols
source_packet table c object p checked accepted is below =
    let b = p.id.block in
    let e = p.id.esi in
    let row = block_row table c b in
    let source = block_source c object b in
    let column = is.symbol.column in
    let has = block_has_row table c checked accepted b is.block in
    let k = block_symbols c b in
    let own : internal_id row (length source) e ≡ e = ap (λ n. internal_id row n e) (length-block_source c object b) ∙ ap (λ t. cond t e (e + row.extended_symbols - k)) (lt-ltb e k below) in
    is.symbol.is_sum ∙ ap (tuple_sum row column) own
    ∙ source_sum row c.symbol_size e source column has.checked is.symbol.is_only.is (source_sized c object b) (omega (arith, has.fits)) ∙ source_at c object b e below
