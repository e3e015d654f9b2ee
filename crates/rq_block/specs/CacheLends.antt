-- What a cache of plans ends as, once the plan that it lent is given back.
use Rattle.std.specs.Prelude.{◌≡◌, ℕ, Result, MatchResult, ⊤}
use Rattle.std.specs.Borrow.{Fml, Bor, MutBor, follows_so}
use mathlib.Core.Option.{none}
use Rattle.rq_bytes.specs.declared.error.Error.{Error}
use Rattle.rq_block.specs.SourceBlockEncodingPlanCache.{PlanCache, after_use}
use Rattle.rq_block.specs.declared.encoder.plan.SourceBlockEncodingPlan.{SourceBlockEncodingPlan}
use Rattle.rq_block.specs.contracts.encoder.cache.SourceBlockEncodingPlanCache.{the_row}

-- the count is used; after a refusal the cache is as before
abbrev pub EndsUsed : MutBor PlanCache → ℕ → Result (Bor SourceBlockEncodingPlan) Error → Fml
EndsUsed cache count r =
    follows_so the_row the_row cache.ghost_name none (λ _ _. ⊤) (λ after. MatchResult r (λ _. after ≡ after_use cache.now count) (λ _. after ≡ cache.now))
