use Rattle.std.proofs.Common.{List, None, ap, sym, subst}
use Rattle.rq_algebra.specs.Operations.{Operation, AreAllowed}
use Rattle.rq_standard.specs.TableRows.{intermediate_symbols}
use Rattle.rq_block.specs.Planned.{IsPlanOf}
use Rattle.rq_block.specs.SourceBlockEncodingPlan.{Plan}
use Rattle.rq_block.proofs.encoder.plan.SourceBlockEncodingPlanClone.clone.Goals as goal

pub invariant_of-result : goal.invariant_of-result
invariant_of-result c =
    let plan = c.args.self.now in
    let same = c.in_ok-clone.ensures.cases in
    record {
      nonsingular = plan.nonsingular;
      few = plan.few;
      allowed = subst (λ l. AreAllowed (intermediate_symbols plan.row.numbers) None l) (sym same) plan.allowed;
      finds = subst (IsPlanOf plan.row.numbers) (sym same) plan.finds;
    }

pub returns : goal.returns
returns c =
    let plan = c.args.self.now in
    record { cases = ap (λ (l : List Operation). let p : Plan = record { count = plan.source_symbol_count; row = plan.row.numbers; operations = l } in p) c.in_ok-clone.ensures.cases }
