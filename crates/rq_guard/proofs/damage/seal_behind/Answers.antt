use Rattle.std.proofs.Common.{◌≡◌, ◌+◌, ◌<◌, ◌++◌, length, take, map, suc, sym, ap, subst, ◌∙◌, arith}
use Rattle.std.specs.List.{concat}
use Rattle.sha2.specs.Hashers.{Holds512}
use Rattle.std.proofs.lemmas.List.{take-map, get_or-map, length-map}
use Rattle.rq_cells.proofs.Digests.{concat_next}
use Rattle.rq_guard.specs.declared.list.DigestList.{DigestList}
use Rattle.rq_guard.proofs.damage.seal_behind.Goals as goal

pub loop-list-preserved : goal.loop-list-preserved
loop-list-preserved c =
    let before = c.args.before.now in
    let name = λ (m : DigestList). m.head.name in
    let names = map name before in
    let i = c.loop-list.list-index in
    let d = c.list-item.result in
    let below : i < length before = omega (arith, c.loop-list-test.true, c.loop-list.auto.list-index-end) in
    let next : suc i ≡ i + 1 = omega arith in
    let more = concat_next names i d.head.name (omega (arith, below, length-map before name)) ∙ ap (λ x. concat (take i names) ++ x) (get_or-map name before i d d.head.name below ∙ ap name (sym c.list-item.is)) in
    let so_far : concat (take (i + 1) names) ≡ concat (map name (take i before)) ++ d.head.name =
    ap (λ n. concat (take n names)) (sym next) ∙ more ∙ ap (λ xs. concat xs ++ d.head.name) (take-map name i before) in
    subst (λ xs. Holds512 c.update.new.self xs) (sym so_far ∙ ap concat (take-map name (i + 1) before))
    (c.update.ensures (concat (map name (take i before))) c.loop-list.invariant)
