use Rattle.std.proofs.Common.{◌≡◌, ◌≤◌, Ok, length, ap, ◌∙◌, subst}
use Rattle.std.proofs.lemmas.Result.{err_from_is_err_and}
use Rattle.rq_standard.specs.TableRows.{greatest_size}
use Rattle.rq_block.specs.SourceBlockEncodingPlan.{RefusesPlan}
use Rattle.rq_block.specs.RefusedBlocks.{wanted_count}
use Rattle.rq_block.proofs.PlanLaws.{refuses_block}
use Rattle.rq_block.proofs.encoder.block.SourceBlockEncoder.new.Goals as goal

pub returns-in_err-plan-clause-refused : goal.returns-in_err-plan-clause-refused
returns-in_err-plan-clause-refused c =
    let table = c.args.cache.now.table in
    let config = c.args.config.now in
    let bytes = length c.args.block.now in
    let is : Ok c.in_ok-count.count ≡ wanted_count (greatest_size table) config bytes = c.in_ok-count.ensures.wanted ∙ ap (λ t. wanted_count (greatest_size t) config bytes) c.table.ensures in
    let within : c.in_ok-count.count ≤ greatest_size table = subst (λ t. c.in_ok-count.count ≤ greatest_size t) c.table.ensures c.in_ok-count.ensures.few in
    let refused = subst (λ t. RefusesPlan t c.in_ok-count.count c.in_err-plan.field-0.0) c.table-2.ensures c.in_err-plan.ensures.refused in
    let p = err_from_is_err_and c.from_residual-in_err-plan.result c.from_residual-in_err-plan.ensures.1 in
    rw (p.1, p.2) (refuses_block table config bytes c.in_ok-count.count c.in_err-plan.field-0.0 is within refused)
