use Rattle.std.proofs.Common.{◌≡◌, ℕ, List, [], length, map, get_or, ◌∙◌, ap, sym, subst, arith}
use Rattle.std.specs.Prelude.{IfOk}
use Rattle.rq_standard.specs.Cutting.{symbol_of_block, source_symbol}
use Rattle.rq_cells.specs.declared.cell.Cell.{Cell}
use Rattle.rq_cells.specs.declared.cell.FoundCell.{FoundCell}
use Rattle.rq_cells.specs.Cells.{digest_of}
use Rattle.rq_guard.proofs.ListedSymbols.{as_many, symbol_is, digest_is}
use Rattle.rq_guard.specs.Lists.{listed_of}
use Rattle.rq_guard.specs.Damage.{whole_among, whole_cells}
use Rattle.rq_guard.proofs.damage.whole_cells.Goals as goal

pub listed_cells-requires-clause-each : goal.listed_cells-requires-clause-each
listed_cells-requires-clause-each c = ap length (c.as_slice.ensures.value ∙ c.in_ok-digests.ensures.digests) ∙ as_many (listed_of c.args.list.now) c.requires c.args.object.now

pub listed_cells-requires-clause-few : goal.listed_cells-requires-clause-few
listed_cells-requires-clause-few c =
    omega (
      arith,
      ap length (c.as_slice.ensures.value ∙ c.in_ok-digests.ensures.digests) ∙ as_many (listed_of c.args.list.now) c.requires c.args.object.now,
      c.requires.each,
      c.requires.few,
    )

pub listed_cells-requires-clause-digests : goal.listed_cells-requires-clause-digests
listed_cells-requires-clause-digests c = λ e below.
    let l = listed_of c.args.list.now in
    let conf = l.head.configuration in
    let object = c.args.object.now in
    let are = c.as_slice.ensures.value ∙ c.in_ok-digests.ensures.digests in
    ap (λ xs. get_or xs e []) are ∙ digest_is l c.requires object e (omega (arith, below, ap length are))
    ∙ (λ j. digest_of (symbol_of_block conf (sym c.block_symbols.ensures j) (sym c.bytes_of_block-block.ensures j) e))

pub returns-clause-cells : goal.returns-clause-cells
returns-clause-cells c =
    let l = listed_of c.args.list.now in
    let conf = l.head.configuration in
    let object = c.args.object.now in
    let are = c.as_slice.ensures.value ∙ c.in_ok-digests.ensures.digests in
    let payload : (e : ℕ) → symbol_of_block conf c.block_symbols.result c.bytes_of_block-block.result.now e ≡ source_symbol conf object 0 e =
    λ e. (λ j. symbol_of_block conf (c.block_symbols.ensures j) (c.bytes_of_block-block.ensures j) e) ∙ symbol_is l c.requires object e in
    let cell = λ (e : ℕ) (symbol : List ℕ). let made : Cell = record { head = l.head; packet = record { id = record { block = 0; esi = e }; payload = symbol } } in made in
    let same : map (λ e. cell e (symbol_of_block conf c.block_symbols.result c.bytes_of_block-block.result.now e)) (whole_among l.digests c.as_slice.result.now) ≡ whole_cells l object =
    λ j. map (λ e. cell e (payload e j)) (whole_among l.digests (are j)) in
    subst (λ (cells : List Cell). IfOk c.listed_cells.result (λ v. map (λ (f : FoundCell). f.cell) v.items ≡ cells)) same c.listed_cells.ensures.cells
