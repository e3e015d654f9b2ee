-- What the check leaves to show of `peeler::Peeler::take_row`.
use Rattle.std.proofs.Common.{◌<◌, ◌≤◌, ℕ, List, length, subst, arith}
use Rattle.std.specs.List.{Contains}
use Rattle.std.proofs.lemmas.List.Elements.{All-contains}
use Rattle.rq_peeling.specs.RowDegrees.{KeepsDegrees, active_ones}
use Rattle.rq_peeling.specs.ColumnState.{InactivatesRow}
use Rattle.rq_peeling.specs.RowOnes.{ones_of}
use Rattle.rq_peeling.proofs.ActiveOnes.{none_behind}
use Rattle.rq_peeling.proofs.PeelerLaws.{leave_lowered, columns_inside}
use Rattle.rq_peeling.proofs.PeelingLaws.{inactivates_none, takes_row}
use Rattle.rq_peeling.proofs.peeler.Peeler.take_row.Goals as goal
use Rattle.rq_peeling.proofs.peeler.Peeler.take_row.Goals.{In_ok-leave_column}

module _ (c : In_ok-leave_column) where
  -- the pivot's column is one of the row's
  there : Contains (ones_of c.args.self.now.system.now.ones c.args.row) c.in-Some.pivot
  there = subst (λ (xs : List ℕ). Contains xs c.in-Some.pivot) c.row-row.ensures c.in-Some.ensures.column

  -- its rows' degrees are lowered
  lowered : KeepsDegrees c.args.self.now.system.now.ones c.args.self.now.columns c.take_pivot.new.self c.args.self.now.degrees c.leave_column.new.self.degrees
  lowered =
      let p = c.args.self.now in
      let inside = All-contains (λ (column : ℕ). column < length p.columns.order) (ones_of p.system.now.ones c.args.row) c.in-Some.pivot (columns_inside p c.args.row c.requires.row) there in
      leave_lowered p c.take_pivot.new.self c.in-Some.pivot c.leave_column.new.self.degrees inside c.in-Some.ensures.active c.take_pivot.ensures.ended c.in_ok-leave_column.ensures.lowered

pub returns-in_ok-inactivate_columns-clause-counted : goal.returns-in_ok-inactivate_columns-clause-counted
returns-in_ok-inactivate_columns-clause-counted c = λ counts.
    let p = c.args.self.now in
    let others : KeepsDegrees p.system.now.ones c.take_pivot.new.self c.inactivate_columns.new.self.columns c.leave_column.new.self.degrees c.inactivate_columns.new.self.degrees = rw (c.leave_column.ensures.system, c.leave_column.ensures.columns) at c.in_ok-inactivate_columns.ensures.counted in
    others (lowered (goal.at.returns-in_ok-inactivate_columns-clause-counted c).In_ok-leave_column counts)

pub returns-in_ok-inactivate_columns-clause-taken : goal.returns-in_ok-inactivate_columns-clause-taken
returns-in_ok-inactivate_columns-clause-taken c = λ _.
    let p = c.args.self.now in
    let row = ones_of p.system.now.ones c.args.row in
    let cur = c.take_pivot.new.self in
    let new = c.inactivate_columns.new.self.columns in
    let others : InactivatesRow row cur new = rw (c.row-row.ensures, c.leave_column.ensures.columns) at c.in_ok-inactivate_columns.ensures.inactive in
    takes_row row c.in-Some.pivot p.columns cur new (there (goal.at.returns-in_ok-inactivate_columns-clause-taken c).In_ok-leave_column) c.in-Some.ensures.active c.take_pivot.ensures.pivots c.take_pivot.ensures.here c.take_pivot.ensures.ended others

-- ---- a row of degree 1

pub returns-else-degree-gt1-clause-taken : goal.returns-else-degree-gt1-clause-taken
returns-else-degree-gt1-clause-taken c = λ _.
    let p = c.args.self.now in
    let row = ones_of p.system.now.ones c.args.row in
    let cur = c.take_pivot.new.self in
    let ends = c.take_pivot.ensures.ended in
    let few : active_ones p.columns row ≤ 1 = omega (arith, c.requires.degree, c.degree-degree.ensures, c.if-degree-gt1.false) in
    let is = there (goal.at.returns-else-degree-gt1-clause-taken c).In_ok-leave_column in
    let none = none_behind row p.columns cur c.in-Some.pivot (columns_inside p c.args.row c.requires.row) is c.in-Some.ensures.active ends few in
    rw c.leave_column.ensures.columns (takes_row row c.in-Some.pivot p.columns cur cur is c.in-Some.ensures.active c.take_pivot.ensures.pivots c.take_pivot.ensures.here ends (inactivates_none row cur none))

pub returns-else-degree-gt1-clause-counted : goal.returns-else-degree-gt1-clause-counted
returns-else-degree-gt1-clause-counted c = rw c.leave_column.ensures.columns (lowered (goal.at.returns-else-degree-gt1-clause-counted c).In_ok-leave_column)
