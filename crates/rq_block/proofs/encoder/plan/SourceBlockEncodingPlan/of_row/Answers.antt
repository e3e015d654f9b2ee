use Rattle.std.proofs.Common.{◌≡◌, refl, ap, ◌∙◌, subst, arith, inr}
use Rattle.rq_operations.specs.RecordedOperations.{operations_of}
use Rattle.rq_standard.specs.Equations.{equation_count, extended_ids}
use Rattle.rq_standard.proofs.KnownIds.{nonsingular_rows}
use Rattle.rq_block.specs.BlockSolutions.{FindsFrom, FindsListed}
use Rattle.rq_block.proofs.Intermediates.{count_source, extended_ids_are, finds_source, plan_allowed, plan_nonsingular, plan_is}
use Rattle.rq_standard.specs.IdLists.{HasDeterminedRows}
use Rattle.rq_standard.specs.TableRows.{intermediate_symbols}
use Rattle.rq_block.proofs.encoder.plan.SourceBlockEncodingPlan.of_row.Goals as goal
use Rattle.rq_block.proofs.encoder.plan.SourceBlockEncodingPlan.of_row.Goals.{After-as_slice}

-- the ids are those of the extended source block
module _ (c : After-as_slice) where
  ids_are : c.as_slice.result.now ≡ extended_ids c.args.row.numbers
  ids_are = c.as_slice.ensures.value ∙ extended_ids_are c.args.row.numbers c.in_ok-ids.ids.items c.in_ok-ids.ensures

  count_is : equation_count c.args.row.numbers c.as_slice.result.now ≡ intermediate_symbols c.args.row.numbers
  count_is = ap (equation_count c.args.row.numbers) ids_are ∙ count_source c.args.row.numbers

pub solve_block-requires-clause-enough : goal.solve_block-requires-clause-enough
solve_block-requires-clause-enough c = omega (arith, count_is (goal.at.solve_block-requires-clause-enough c).After-as_slice)

pub solve_block-requires-clause-fits : goal.solve_block-requires-clause-fits
solve_block-requires-clause-fits c = omega (arith, count_is (goal.at.solve_block-requires-clause-fits c).After-as_slice, c.args.row.checked.few_columns)

pub returns-in_default-clause-refused : goal.returns-in_default-clause-refused
returns-in_default-clause-refused c =
    let row = c.args.row.numbers in
    let none = subst (FindsListed row c.as_slice.result.now) c.in_default.is c.in_ok-solution.ensures.found in
    inr (refl, λ nonsingular. subst (λ l. HasDeterminedRows row l → ⊥) (ids_are (goal.at.returns-in_default-clause-refused c).After-as_slice) none (nonsingular_rows row nonsingular))

pub invariant_of-result : goal.invariant_of-result
invariant_of-result c =
    let row = c.args.row.numbers in
    let operations = operations_of c.in-Some.solution.operations in
    let found = subst (FindsListed row c.as_slice.result.now) c.in-Some.is c.in_ok-solution.ensures.found in
    let finds = finds_source row c.in-Some.solution (subst (λ l. FindsFrom row l c.in-Some.solution) (ids_are (goal.at.invariant_of-result c).After-as_slice) found) in
    record {
      nonsingular = plan_nonsingular row operations finds;
      few = c.requires.few;
      allowed = plan_allowed row operations finds;
      finds = plan_is row operations finds;
    }
