use Rattle.std.proofs.Common.{◌≡◌, ap, ◌∙◌, sym}
use Rattle.std.specs.Prelude.{is_some}
use Rattle.rq_standard.specs.TableRows.{row_of}
use Rattle.rq_block.specs.SourceBlockEncodingPlanCache.{PlanCache, IsPlanOver, holds_count}
use Rattle.rq_block.proofs.CacheLaws.{held_at, held_by, plan_found}
use Rattle.rq_block.proofs.encoder.cache.SourceBlockEncodingPlanCache.get.Goals as goal
use Rattle.rq_block.proofs.encoder.cache.SourceBlockEncodingPlanCache.get.Goals.{After-index_of, After-index}

module _ (c : After-index_of) where
  is_held : is_some c.index_of.result ≡ holds_count c.args.self.now.counts c.args.count
  is_held = held_by c.args.self.now.counts c.args.count c.index_of.result (c.index_of.ensures ∙ ap (held_at c.args.count) c.self.view_is)

module _ (c : After-index) where
  held_plan : (c.index.result.now.source_symbol_count ≡ c.args.count) × IsPlanOver c.self.inside.table c.index.result.now
  held_plan =
      plan_found c.self.inside.table c.self.inside.plans.items c.args.self.now.counts c.args.count c.in_ok-index.index (ap (λ (s : PlanCache). s.counts) c.self.view_is) c.self.invariant.0
      (sym (c.index_of.ensures ∙ ap (held_at c.args.count) c.self.view_is) ∙ c.in_ok-index.was) c.index.result.now c.index.ensures

pub returns-in_err-index-clause-held : goal.returns-in_err-index-clause-held
returns-in_err-index-clause-held c = ap is_some c.from_residual.ensures ∙ sym (ap is_some c.in_err-index.was) ∙ is_held (goal.at.returns-in_err-index-clause-held c).After-index_of

pub returns-clause-held : goal.returns-clause-held
returns-clause-held c = sym (ap is_some c.in_ok-index.was) ∙ is_held (goal.at.returns-clause-held c).After-index_of

pub returns-clause-count : goal.returns-clause-count
returns-clause-count c = (held_plan (goal.at.returns-clause-count c).After-index).0

pub returns-clause-row : goal.returns-clause-row
returns-clause-row c =
    let plan = held_plan (goal.at.returns-clause-row c).After-index in
    plan.1.row ∙ ap (row_of c.self.inside.table) plan.0 ∙ ap (λ (s : PlanCache). row_of s.table c.args.count) c.self.view_is
