use Rattle.std.proofs.Common.{◌≡◌, ◌≤◌, ◌-◌, ℕ, List, Bool, true, false, length, sym, ap, ◌∙◌, subst}
use Rattle.std.specs.Prelude.{is_some, slice_get, Ok, Some}
use Rattle.std.proofs.lemmas.List.{length-map}
use Rattle.std.proofs.lemmas.Result.{err_from_is_err_and}
use Rattle.rq_block.specs.SourceBlockEncodingPlan.{plan_refusal, RefusesPlan}
use Rattle.rq_block.specs.SourceBlockEncodingPlanCache.{PlanCache, holds_count, counts_after_use}
use Rattle.rq_block.proofs.CacheLaws.{held_at, held_by, held_known, count_found, counts_after_use-held, new_last}
use Rattle.rq_block.proofs.encoder.cache.SourceBlockEncodingPlanCache.get_or_insert.Goals as goal
use Rattle.rq_block.proofs.encoder.cache.SourceBlockEncodingPlanCache.get_or_insert.Goals.{After-index_of, In_default, After-len}

module _ (c : After-index_of) where
  place_is : c.index_of.result ≡ held_at c.args.count c.args.self.now
  place_is = c.index_of.ensures ∙ ap (held_at c.args.count) c.self.view_is

  is_held : (held : Bool) → is_some c.index_of.result ≡ held → holds_count c.args.self.now.counts c.args.count ≡ held
  is_held held is = sym (held_by c.args.self.now.counts c.args.count c.index_of.result place_is) ∙ is

module _ (c : In_default) where
  new : holds_count c.args.self.now.counts c.args.count ≡ false
  new = is_held (goal.at.In_default c).After-index_of false (ap is_some c.in_default.is)

-- a new count is the last
module _ (c : After-len) where
  used : c.put.new.self.counts ≡ counts_after_use c.args.self.now.counts c.args.count
  used = ap (λ (s : PlanCache). s.counts) c.put.ensures ∙ ap (counts_after_use c.args.self.now.counts) c.in_ok-plan.ensures.count

  last : (1 ≤ c.len.result) × (slice_get (counts_after_use c.args.self.now.counts c.args.count) (c.len.result - 1) ≡ Some c.args.count)
  last =
      let items = c.self-2.inside.plans.items in
      new_last c.args.self.now.counts c.args.count c.len.result (new (goal.at.After-len c).In_default)
      (c.len.ensures ∙ c.self-2.inside.plans.ok.0 ∙ sym (length-map items (λ p. p.source_symbol_count)) ∙ ap (λ (s : PlanCache). length s.counts) c.self-2.view_is ∙ ap length used)

pub returns-in-Some-clause-used : goal.returns-in-Some-clause-used
returns-in-Some-clause-used c =
    let cache = c.args.self.now in
    let held = is_held (goal.at.returns-in-Some-clause-used c).After-index_of true (ap is_some c.in-Some.is) in
    ap (λ (xs : List ℕ). let s : PlanCache = record { table = cache.table; counts = xs } in s) (sym (counts_after_use-held cache.counts c.args.count held))

pub returns-in-Some-clause-index : goal.returns-in-Some-clause-index
returns-in-Some-clause-index c = count_found c.args.self.now.counts c.args.count c.in-Some.index (sym (place_is (goal.at.returns-in-Some-clause-index c).After-index_of) ∙ c.in-Some.is)

pub returns-in-Some-clause-taken : goal.returns-in-Some-clause-taken
returns-in-Some-clause-taken c =
    let known = held_known c.self.inside.table c.self.inside.plans.items c.args.self.now.counts c.args.count c.in-Some.index (ap (λ (s : PlanCache). s.counts) c.self.view_is) c.self.invariant.0 (sym (place_is (goal.at.returns-in-Some-clause-taken c).After-index_of) ∙ c.in-Some.is) in
    subst (λ (s : PlanCache). plan_refusal s.table c.args.count ≡ Ok tt) c.self.view_is known

pub put-requires-clause-new : goal.put-requires-clause-new
put-requires-clause-new c = ap (holds_count c.args.self.now.counts) c.in_ok-plan.ensures.count ∙ new (goal.at.put-requires-clause-new c).In_default

pub overflow_sub-result : goal.overflow_sub-result
overflow_sub-result c = (last (goal.at.overflow_sub-result c).After-len).0

pub returns-clause-index : goal.returns-clause-index
returns-clause-index c =
    let at = (goal.at.returns-clause-index c).After-len in
    ap (λ (xs : List ℕ). slice_get xs (c.len.result - 1)) (used at) ∙ (last at).1

pub returns-in_err-plan-clause-refused : goal.returns-in_err-plan-clause-refused
returns-in_err-plan-clause-refused c =
    let p = err_from_is_err_and c.from_residual.result c.from_residual.ensures.1 in
    rw (p.1, p.2) (new (goal.at.returns-in_err-plan-clause-refused c).In_default, subst (λ (s : PlanCache). RefusesPlan s.table c.args.count c.in_err-plan.field-0.0) c.self.view_is c.in_err-plan.ensures.refused)
