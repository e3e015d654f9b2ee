use Rattle.std.proofs.Common.{◌∷◌, [], ◌++◌, All, Bool, true, false, cond, drop, ap, ◌∙◌, sym, subst, arith}
use Rattle.std.specs.Prelude.{nat_lt}
use Rattle.std.specs.VecDeque.{deque_len}
use Rattle.std.proofs.lemmas.List.Elements.{All-push, All-drop}
use Rattle.rq_block.specs.SourceBlockEncodingPlanCache.{PlanCache, IsPlanOver}
use Rattle.rq_block.proofs.encoder.cache.SourceBlockEncodingPlanCache.put.Goals as goal

pub invariant_of-self : goal.invariant_of-self
invariant_of-self c =
    let table = c.self.inside.table in
    let plans = c.self.inside.plans in
    let over : IsPlanOver table c.args.plan = subst (λ (s : PlanCache). IsPlanOver s.table c.args.plan) (sym c.self.view_is) c.requires.over in
    let kept : (b : Bool) → All (IsPlanOver table) (cond b plans.items (drop 1 plans.items)) = λ b. elim b as (λ v. All (IsPlanOver table) (cond v plans.items (drop 1 plans.items))) [ true ↦ c.self.invariant.0 | false ↦ All-drop (IsPlanOver table) 1 plans.items c.self.invariant.0 ] in
    let items = c.push_back_reserved.ensures.items ∙ ap (λ xs. xs ++ c.args.plan ∷ []) c.make_room.ensures.items in (
      subst (All (IsPlanOver table)) (sym items) (All-push (IsPlanOver table) _ c.args.plan (kept (nat_lt (deque_len plans) 64)) over),
      omega (arith, c.push_back_reserved.ensures.len, c.make_room.ensures.len),
      omega (arith, c.push_back_reserved.ensures.capacity, c.make_room.ensures.capacity, c.self.invariant.2),
    )
