-- What the check leaves to show of `columns::ColumnOrder::new`.
use Rattle.std.proofs.Common.{◌≡◌, refl, ◌∙◌}
use Rattle.std.specs.List.{range_with_len}
use Rattle.rq_matrix.proofs.OrderLaws.{first_numbers}
use Rattle.rq_peeling.proofs.ColumnLaws.{first_state}
use Rattle.rq_peeling.proofs.columns.ColumnOrder.new.Goals as goal
use Rattle.rq_peeling.proofs.columns.ColumnOrder.new.Goals.{In_ok-collect-2}

module _ (c : In_ok-collect-2) where
  order : c.in_ok-collect.field-0.items ≡ range_with_len 0 c.args.width
  order = c.in_ok-collect.ensures.ran.2.0 ∙ first_numbers c.args.width c.in_ok-collect.ensures.ran.0 c.in_ok-collect.ensures.ran.1

  places : c.in_ok-collect-2.field-0.items ≡ range_with_len 0 c.args.width
  places = c.in_ok-collect-2.ensures.ran.2.0 ∙ first_numbers c.args.width c.in_ok-collect-2.ensures.ran.0 c.in_ok-collect-2.ensures.ran.1

pub invariant_of-result : goal.invariant_of-result
invariant_of-result c = rw (order c, places c) (first_state c.args.width c.args.lt_columns c.requires.lt_columns)

pub returns : goal.returns
returns c = rw (order c, places c) refl
