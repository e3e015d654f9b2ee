use Rattle.std.specs.Prelude.{option_and_then}
use Rattle.std.proofs.Common.{ap, ◌≡◌, ◌<◌, ◌≤◌, sym, subst, ◌∙◌, length, arith, Some, true}
use Rattle.rq_cells.specs.Cells.{head_at, head_size, cell_size, cell_behind}
use Rattle.rq_cells.specs.Wanted.{wish_of, is_wanted, IsSight}
use Rattle.rq_cells.proofs.WantedCells.{headed_is_long, found_cell}
use Rattle.rq_cells.proofs.NotedHeads.{begun_noted, damaged_noted}
use Rattle.rq_cells.proofs.wanted.sight_behind.Goals as goal
use Rattle.rq_cells.proofs.wanted.sight_behind.Goals.{in-Some, in-None}

pub returns-then-bytes-cell_length-clause-sight : goal.returns-then-bytes-cell_length-clause-sight
returns-then-bytes-cell_length-clause-sight c =
    let w = wish_of c.args.wanted.now in
    let bytes = c.args.bytes.now in
    let h = c.args.head in
    let short : length bytes < cell_size h.configuration.symbol_size = omega (arith, c.if-bytes-cell_length.true, c.cell_length.ensures) in
    begun_noted w bytes (headed_is_long w.key bytes h c.requires.head) h c.requires.head c.requires.wanted short (omega (arith, short))

pub returns-clause-sight : goal.returns-clause-sight
returns-clause-sight c =
    let w = wish_of c.args.wanted.now in
    let bytes = c.args.bytes.now in
    let h = c.args.head in
    let headed : head_at w.key bytes ≡ Some h = c.requires.head in
    let wanted : is_wanted w h ≡ true = c.requires.wanted in
    let long : head_size ≤ length bytes = headed_is_long w.key bytes h headed in
    let whole : cell_size h.configuration.symbol_size ≤ length bytes = omega (arith, c.if-bytes-cell_length.false, c.cell_length.ensures) in
    let behind = sym (ap (option_and_then (λ k. cell_behind w.key k bytes)) headed) ∙ sym c.in_ok-cell.ensures.cell in
    elim c.match-branch-2.branch [
      | in-Some x ↦ subst (IsSight w bytes) (sym x.result-is) (found_cell w bytes long h headed wanted x.in-Some.cell (behind ∙ x.in-Some.is))
      | in-None x ↦ subst (IsSight w bytes) (sym x.result-is) (damaged_noted w bytes long h headed wanted whole (behind ∙ x.in-None.is))
    ]
