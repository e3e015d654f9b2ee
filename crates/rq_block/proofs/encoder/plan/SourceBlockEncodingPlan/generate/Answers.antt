use Rattle.std.proofs.Common.{ap, ◌∙◌, subst, arith}
use Rattle.std.proofs.lemmas.Result.{IfErr-weaker, on_ok_weaker}
use Rattle.rq_standard.specs.Headline.{IsNonsingular}
use Rattle.rq_standard.specs.TableRows.{row_of}
use Rattle.rq_block.proofs.PlanLaws.{plan_taken, refuses_plan}
use Rattle.rq_block.proofs.encoder.plan.SourceBlockEncodingPlan.generate.Goals as goal

pub returns-clause-refused : goal.returns-clause-refused
returns-clause-refused c =
    let table = c.args.table.now in
    let taken = plan_taken table c.args.source_symbol_count (omega (arith, c.from-count.ensures, c.greatest.ensures.size)) in
    let row = c.checked_row.ensures.row ∙ ap (row_of table) c.from-count.ensures in
    IfErr-weaker c.of_row.result _ _ (λ e refused. refuses_plan table c.args.source_symbol_count c.checked_row.result.numbers e taken row refused) c.of_row.ensures.refused

pub returns-clause-nonsingular : goal.returns-clause-nonsingular
returns-clause-nonsingular c =
    let row = c.checked_row.ensures.row ∙ ap (row_of c.args.table.now) c.from-count.ensures in
    on_ok_weaker c.of_row.result (λ nonsingular. subst IsNonsingular row nonsingular) c.of_row.ensures.nonsingular
