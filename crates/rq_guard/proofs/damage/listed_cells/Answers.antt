use Rattle.std.proofs.Common.{◌≡◌, ℕ, ◌<◌, ◌++◌, [], ◌∷◌, length, map, get_or, Bool, All, sym, ap, refl, subst, ◌∙◌, arith, Vec, Global}
use Rattle.std.proofs.lemmas.List.{map-append}
use Rattle.std.proofs.lemmas.List.Elements.{All-push}
use Rattle.rq_cells.specs.declared.cell.Cell.{Cell}
use Rattle.rq_cells.specs.declared.cell.FoundCell.{FoundCell}
use Rattle.rq_cells.specs.Cells.{digest_of}
use Rattle.rq_cells.specs.Scans.{HasDigest}
use Rattle.std.specs.List.{range_with_len, filter}
use Rattle.rq_guard.specs.Damage.{is_whole, cell_of_block}
use Rattle.rq_guard.proofs.ListedSymbols.{tells_whole, filter_grows, filter_stays}
use Rattle.rq_guard.proofs.damage.listed_cells.Goals as goal
use Rattle.rq_guard.proofs.damage.listed_cells.Goals.{then-lists+in_ok-cell+in_ok-push, else-lists}

pub loop-e-preserved : goal.loop-e-preserved
loop-e-preserved c =
    let e = c.loop-e.e in
    let listed = c.args.list.now.digests.items in
    let digests = c.args.digests.now in
    let p : ℕ → Bool = is_whole listed digests in
    let below : e < length listed = omega (arith, c.loop-e-test.true, c.requires.each) in
    let test : c.lists.result ≡ is_whole listed digests e = tells_whole c.lists.result listed digests e _ below refl c.lists.ensures in
    let items = λ (v : Vec FoundCell Global). v.items in
    let cell : FoundCell → Cell = λ f. f.cell in
    let of = cell_of_block c.args.list.now.head c.args.layout.now c.args.block.now in
    elim c.if-lists.branch [
      | then-lists+in_ok-cell+in_ok-push w ↦
          let made = w.in_ok-cell.cell in
          let found : FoundCell = record { cell = made; digest = get_or digests e [] } in
          let pushed = ap items w.cells-is ∙ w.in_ok-push.ensures.items in
          let digest : HasDigest found =
          c.requires.digests e c.loop-e-test.true
          ∙ ap (λ (x : Cell). digest_of x.packet.payload) (sym w.in_ok-cell.ensures.cell) in
          record {
            cells = ap (map cell) pushed ∙ map-append cell c.loop-e.cells.items (found ∷ [])
                ∙ ap (λ xs. xs ++ made ∷ []) c.loop-e.invariant.cells
                ∙ ap (λ x. map of (filter p (range_with_len 0 e)) ++ x ∷ []) w.in_ok-cell.ensures.cell
                ∙ sym (map-append of (filter p (range_with_len 0 e)) (e ∷ []))
                ∙ sym (ap (map of) (filter_grows p e (sym test ∙ w.if-lists.true)));
            digests = subst (All HasDigest) (sym pushed) (All-push HasDigest c.loop-e.cells.items found c.loop-e.invariant.digests digest);
          }
      | else-lists w ↦ record {
        cells = ap (λ v. map cell (items v)) w.cells-is ∙ c.loop-e.invariant.cells ∙ sym (ap (map of) (filter_stays p e (sym test ∙ w.if-lists.false)));
        digests = subst (All HasDigest) (sym (ap items w.cells-is)) c.loop-e.invariant.digests;
      }
    ]
