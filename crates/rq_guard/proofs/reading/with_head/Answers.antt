use Rattle.std.proofs.Common.{◌≡◌, ◌++◌, [], ◌∷◌, List, Bool, true, cond, All, refl, sym, ap, subst, ◌∙◌, append_assoc, arith}
use Rattle.std.specs.Prelude.{Contains}
use Rattle.std.specs.List.{filter}
use Rattle.std.specs.Vec.Iter.{into_iter_items}
use Rattle.std.proofs.lemmas.List.{map-append}
use Rattle.std.proofs.lemmas.List.Elements.{All-contains, All-push, Contains-append_right, filter-append}
use Rattle.rq_cells.specs.declared.cell.Cell.{Cell}
use Rattle.rq_cells.specs.declared.cell.FoundCell.{FoundCell}
use Rattle.rq_cells.specs.Scans.{HasDigest}
use Rattle.rq_cast.specs.Taken.{has_head}
use Rattle.rq_guard.specs.Reading.{cells_of}
use Rattle.rq_guard.proofs.reading.with_head.Goals as goal

-- one more that passes
filter_taken : (p : Cell → Bool) (cells : List Cell) (x : Cell) → p x ≡ true → filter p (cells ++ x ∷ []) ≡ filter p cells ++ x ∷ []
filter_taken p cells x taken = filter-append p cells (x ∷ []) ∙ ap (λ b. filter p cells ++ cond b (x ∷ []) []) taken

pub loop-found-preserved-in-Continue-branch-2 : goal.loop-found-preserved-in-Continue-branch-2
loop-found-preserved-in-Continue-branch-2 c =
    let found = c.in-Some.found in
    let done = c.loop-found.yielded in
    let cell : FoundCell → Cell = λ f. f.cell in
    let p = has_head c.args.head.now in
    let kept = c.loop-found.kept.items in
    let pushed = c.in_ok-push.ensures.items in
    let whole = c.loop-found.invariant.whole ∙ ap (λ xs. done ++ xs) c.in-Some.ensures.steps.0 in
    let there = Contains-append_right done (found ∷ into_iter_items c.next.new.self) found (0, omega arith, refl) in
    let digest : HasDigest found = All-contains HasDigest c.args.cells.items found c.requires (subst (λ xs. Contains xs found) (sym whole) there) in
    record {
      whole = whole ∙ sym (append_assoc done (found ∷ []) (into_iter_items c.next.new.self));
      kept = ap cells_of pushed ∙ map-append cell kept (found ∷ []) ∙ ap (λ xs. xs ++ found.cell ∷ []) c.loop-found.invariant.kept
          ∙ sym (ap (filter p) (map-append cell done (found ∷ [])) ∙ filter_taken p (cells_of done) found.cell (sym c.eq.ensures ∙ c.if-eq.true));
      digests = subst (All HasDigest) (sym pushed) (All-push HasDigest kept found c.loop-found.invariant.digests digest);
    }
