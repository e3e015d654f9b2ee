use Rattle.std.proofs.Common.{◌≡◌, ◌<◌, sym, ap, ◌∙◌, length, arith, rules, Some}
use Rattle.std.specs.Prelude.{option_and_then}
use Rattle.rq_cells.specs.Cells.{head_at, cell_behind, cell_size}
use Rattle.rq_cells.proofs.CellBytes.{none_behind_in_short}
use Rattle.rq_cells.proofs.cell.Cell.read.Goals as goal

pub returns-then-bytes-length-clause-cell : goal.returns-then-bytes-length-clause-cell
returns-then-bytes-length-clause-cell c =
    let key = c.args.key.now in
    let bytes = c.args.bytes.now in
    let h = c.in-Some.head in
    let headed : head_at key bytes ≡ Some h = sym c.read.ensures ∙ c.in-Some.is in
    let streamed : length h.stream ≡ 8 = search rules in
    let named : length h.name ≡ 16 = search rules in
    let short : length bytes < cell_size h.configuration.symbol_size = omega (arith, c.if-bytes-length.true, c.cell_length-length.ensures) in
    sym (ap (option_and_then (λ k. cell_behind key k bytes)) headed ∙ none_behind_in_short key h bytes streamed named short)
