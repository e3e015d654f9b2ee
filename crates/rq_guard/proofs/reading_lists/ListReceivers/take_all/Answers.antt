use Rattle.std.proofs.Common.{◌≡◌, ◌∷◌, [], ◌++◌, map, refl, sym, ap, subst, ◌∙◌, append_assoc, append-nil, arith}
use Rattle.std.specs.Prelude.{Contains}
use Rattle.std.specs.Vec.Iter.{into_iter_items}
use Rattle.std.proofs.lemmas.List.{nil_from_length, map-append}
use Rattle.std.proofs.lemmas.List.Elements.{All-contains, Contains-append_right}
use Rattle.rq_cells.specs.declared.cell.FoundCell.{FoundCell}
use Rattle.rq_cells.specs.Scans.{HasDigest}
use Rattle.rq_guard.specs.Reading.{cells_of}
use Rattle.rq_guard.specs.ListReading.{HasLists, TakesListCells}
use Rattle.rq_guard.proofs.reading_lists.ListReceivers.take_all.Goals as goal
use Rattle.rq_guard.proofs.reading_lists.ListReceivers.take_all.Goals.{In-None}

pub loop-found-init : goal.loop-found-init
loop-found-init c = record {
  whole = sym c.into_iter-found-iterator.ensures.into_iter_gives.0;
  sound = c.requires.sound;
  taken = λ came has. subst (λ cs. HasLists c.args.table.now cs c.args.self.now) (sym (append-nil came)) has;
}

pub take-requires-clause-digest : goal.take-requires-clause-digest
take-requires-clause-digest c =
    let found = c.in-Some.found in
    let whole = c.loop-found.invariant.whole ∙ ap (λ xs. c.loop-found.yielded ++ xs) c.in-Some.ensures.steps.0 in
    let there = Contains-append_right c.loop-found.yielded (found ∷ into_iter_items c.next.new.self) found (0, omega arith, refl) in
    All-contains HasDigest c.args.cells.items found c.requires.digests (subst (λ xs. Contains xs found) (sym whole) there)

pub loop-found-preserved : goal.loop-found-preserved
loop-found-preserved c =
    let found = c.in-Some.found in
    let cell = λ (f : FoundCell). f.cell in
    let done = c.loop-found.yielded in
    record {
      whole = c.loop-found.invariant.whole ∙ ap (λ xs. done ++ xs) c.in-Some.ensures.steps.0
          ∙ sym (append_assoc done (found ∷ []) (into_iter_items c.next.new.self));
      sound = c.in_ok-take.ensures.sound;
      taken = λ came has.
          subst (λ cs. HasLists c.args.table.now cs c.take.new.self)
          (append_assoc came (map cell done) (found.cell ∷ []) ∙ ap (λ cs. came ++ cs) (sym (map-append cell done (found ∷ []))))
          (c.in_ok-take.ensures.takes (came ++ map cell done) (c.loop-found.invariant.taken came has));
    }

module _ (c : In-None) where
  all : c.args.cells.items ≡ c.loop-found.yielded
  all =
      let none : into_iter_items c.loop-found.found-iterator ≡ [] =
      nil_from_length (into_iter_items c.loop-found.found-iterator) (omega (arith, c.in-None.ensures.steps.0)) in
      c.loop-found.invariant.whole ∙ ap (λ xs. c.loop-found.yielded ++ xs) none ∙ append-nil c.loop-found.yielded

pub returns-clause-takes : goal.returns-clause-takes
returns-clause-takes c =
    let all = all (goal.at.returns-clause-takes c).In-None in
    subst (λ xs. TakesListCells c.args.table.now c.args.self.now (cells_of xs) c.loop-found.self) (sym all) c.loop-found.invariant.taken
