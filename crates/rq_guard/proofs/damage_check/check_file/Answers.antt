use Rattle.std.proofs.Common.{◌≡◌, ◌+◌, ◌<◌, ◌++◌, [], ◌∷◌, length, take, sym, ap, subst, ◌∙◌, arith}
use Rattle.std.proofs.lemmas.List.{take_more}
use Rattle.rq_guard.specs.declared.list.DigestList.{DigestList}
use Rattle.rq_guard.specs.Checking.{ArePartDamages}
use Rattle.rq_guard.proofs.CheckedParts.{damages_push}
use Rattle.rq_guard.proofs.damage_check.check_file.Goals as goal

pub loop-i-preserved : goal.loop-i-preserved
loop-i-preserved g c =
    let lists = c.args.lists.now in
    let i = c.loop-i.i in
    let l = c.index-lists-i.result in
    let below : i < length lists = omega (arith, c.loop-i-test.true, c.loop-i.auto.i-end) in
    let more : take (i + 1) lists ≡ take i lists ++ l ∷ [] = take_more lists i l below ∙ ap (λ (x : DigestList). take i lists ++ x ∷ []) (sym c.index-lists-i.is) in
    let before = g.F.Read.remaining c.args.file.now.inner in
    let mid = g.F.Read.remaining c.loop-i.file.inner in
    let after = g.F.Read.remaining c.part_damage.new.file.inner in
    record {
      parts = subst (λ ls. ArePartDamages [] ls before after c.push_part.new.parts.items) (sym more)
          (subst (ArePartDamages [] (take i lists ++ l ∷ []) before after) (sym c.in_ok-push_part.ensures)
          (damages_push (take i lists) l [] before mid after c.loop-i.parts.items c.in_ok-damage.damage c.loop-i.invariant.parts c.in_ok-damage.ensures.damage));
      count = omega (arith, c.in_ok-damage.ensures.counts, c.loop-i.invariant.count);
    }
