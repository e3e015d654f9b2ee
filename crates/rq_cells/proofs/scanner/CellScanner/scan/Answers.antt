use Rattle.std.proofs.Common.{sym, ap, subst, ◌∙◌, refl}
use Rattle.std.specs.List.{All}
use Rattle.std.specs.Prelude.{filter_map, count_by}
use Rattle.rq_cells.specs.Found.{Source}
use Rattle.rq_cells.specs.LongHeads.{IsHeaded, cell_there, is_damaged_there}
use Rattle.rq_cells.proofs.FoundCells.{headed_before, settles_there}
use Rattle.rq_cells.proofs.scanner.CellScanner.scan.Goals as goal

pub check_cells-requires : goal.check_cells-requires
check_cells-requires c =
    let s = c.args.self.now in
    let bytes = c.args.bytes.now in
    let are = c.in_ok-found.ensures.found in
    let source = c.self.view_is ∙ c.long_heads.ensures.same in
    let size = c.from-symbol_size.ensures ∙ ap (λ (k : Source). k.symbol_size) source in
    let heads = c.as_slice.ensures.value ∙ are.heads in
    subst (λ n. All (IsHeaded c.self.inside.key n bytes) c.as_slice.result.now) (sym size)
    (subst (λ (k : Source). All (IsHeaded k.key s.symbol_size bytes) c.as_slice.result.now) (sym source)
    (subst (All (IsHeaded s.key s.symbol_size bytes)) (sym heads) (headed_before s bytes c.in_ok-found.found.places)))

pub returns-clause-scan : goal.returns-clause-scan
returns-clause-scan c =
    let bytes = c.args.bytes.now in
    let checked = c.in_ok-checked.ensures in
    let source = c.self.view_is ∙ c.long_heads.ensures.same in
    let key = ap (λ (k : Source). k.key) source in
    let heads = c.as_slice.ensures.value in
    settles_there c.args.self.now bytes c.in_ok-found.found _ c.in_ok-found.ensures.found refl refl
    (checked.cells ∙ (λ i. filter_map (cell_there (key i) bytes) (heads i)))
    checked.digests
    (checked.damaged ∙ (λ i. count_by (is_damaged_there (key i) bytes) (heads i)))
