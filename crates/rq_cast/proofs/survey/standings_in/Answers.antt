use Rattle.std.proofs.Common.{◌≡◌, ◌++◌, ◌<◌, ◌∷◌, [], length, map, take, ap, sym, subst, ◌∙◌, arith}
use Rattle.std.specs.Prelude.{All}
use Rattle.std.proofs.lemmas.List.{map-append, take_more}
use Rattle.std.proofs.lemmas.List.Elements.{All-push}
use Rattle.rq_cast.specs.declared.survey.Standing.{Standing}
use Rattle.rq_cast.specs.Surveyed.{IsStanding}
use Rattle.rq_cast.proofs.survey.standings_in.Goals as goal

pub loop-head-preserved : goal.loop-head-preserved
loop-head-preserved c =
    let heads = c.deref-head-items.result.now in
    let before = c.loop-head.standings.items in
    let here = c.in_ok-standing_of.field-0 in
    let at = c.loop-head.head-index in
    let pushed : c.push.new.self.items ≡ before ++ (here ∷ []) = c.in_ok-push.ensures.items in
    let less : at < length heads = omega arith in
    record {
      each = subst (All (IsStanding c.args.table.now c.args.key.now c.args.window c.args.bytes.now)) (sym pushed)
          (All-push (IsStanding c.args.table.now c.args.key.now c.args.window c.args.bytes.now) before here c.loop-head.invariant.each c.in_ok-standing_of.ensures.standing);
      heads = ap (map (λ (s : Standing). s.head)) pushed ∙ map-append (λ (s : Standing). s.head) before (here ∷ [])
          ∙ ap (λ hs. hs ++ (here.head ∷ [])) c.loop-head.invariant.heads
          ∙ ap (λ h. take at heads ++ (h ∷ [])) (c.in_ok-standing_of.ensures.head ∙ c.head-item.is)
          ∙ sym (take_more heads at c.head-item.result less);
    }
