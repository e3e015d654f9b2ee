use Rattle.raptorq_c.proofs.Names.{◌≡◌, Ok, sym, subst, inr, err_from_is_err_and, on_ok_weaker, IsNonsingular, row_of, plan_refusal, plan_of, RefusesPlan, coder_at, plan_in, IsPlanIn}
use Rattle.rq_block.specs.Planned.{IsPlanOf}
use Rattle.raptorq_c.proofs.Held.{said_kept}
use Rattle.raptorq_c.proofs.plans.open.Goals as goal

pub returns-in_err-made-clause-refused : goal.returns-in_err-made-clause-refused
returns-in_err-made-clause-refused c =
    let p = err_from_is_err_and c.from_residual-in_err-made.result c.from_residual-in_err-made.ensures.1 in
    rw (p.1, p.2) (inr (subst (λ t. RefusesPlan t c.args.source_symbols c.in_err-made.field-0.0) c.in_ok-table.ensures.rows c.in_err-made.ensures.refused))

pub returns-clause-plan : goal.returns-clause-plan
returns-clause-plan c =
    let k = c.args.source_symbols in
    let p = plan_of c.in_ok-made.made in
    let full = c.in_ok-table.ensures.rows in
    let ends = c.in_ok-made.ensures in
    let made : IsPlanIn k p = record {
      taken = subst (λ t. plan_refusal t k ≡ Ok tt) full ends.taken;
      nonsingular = subst (λ t. IsNonsingular (row_of t k)) full ends.nonsingular;
      count_is = ends.count;
      row = subst (λ t. p.row ≡ row_of t k) full ends.row;
      plan = subst (λ t. IsPlanOf (row_of t k) p.operations) full ends.plan;
    } in
    on_ok_weaker c.keep.result (λ kept. said_kept plan_in (coder_at c.keep.new.self) _ kept (IsPlanIn k) (subst (λ d. IsPlanIn k (plan_of d)) (sym c.in_ok-new.ensures.ok) made)) c.keep.ensures.kept
