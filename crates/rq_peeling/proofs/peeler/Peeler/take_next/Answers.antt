-- What the check leaves to show of `peeler::Peeler::take_next`.
use Rattle.rq_peeling.specs.RowDegrees.{KeepsDegrees}
use Rattle.rq_peeling.specs.ColumnState.{HasNoActive}
use Rattle.rq_peeling.specs.RowOnes.{ones_of}
use Rattle.rq_peeling.proofs.PeelerLaws.{least_active}
use Rattle.rq_peeling.proofs.peeler.Peeler.take_next.Goals as goal
use Rattle.rq_peeling.proofs.peeler.Peeler.take_next.Goals.{In_ok-take_row}

-- a row of least degree is taken
is_taken : (c : In_ok-take_row) → HasNoActive (ones_of c.next_row.new.self.system.now.ones c.in-Some.row) c.next_row.new.self.columns → ⊥
is_taken c none =
    let p = c.args.self.now in
    least_active p.system.now.ones p.columns p.degrees c.in-Some.row p.row_count c.requires c.in-Some.ensures.least (rw (c.next_row.ensures.system, c.next_row.ensures.columns) at none)

pub returns-then-branch-clause-counted : goal.returns-then-branch-clause-counted
returns-then-branch-clause-counted c =
    let p = c.args.self.now in
    let keeps : KeepsDegrees p.system.now.ones p.columns c.take_row.new.self.columns p.degrees c.take_row.new.self.degrees = rw (c.next_row.ensures.system, c.next_row.ensures.columns, c.next_row.ensures.degrees) at c.in_ok-take_row.ensures.counted in
    keeps c.requires

pub returns-else-branch-clause-none : goal.returns-else-branch-clause-none
returns-else-branch-clause-none c = absurd (is_taken (goal.at.returns-else-branch-clause-none c).In_ok-take_row (c.in_ok-take_row.ensures.none c.if-branch.false))

pub returns-else-branch-clause-left : goal.returns-else-branch-clause-left
returns-else-branch-clause-left c = absurd (is_taken (goal.at.returns-else-branch-clause-left c).In_ok-take_row (c.in_ok-take_row.ensures.none c.if-branch.false))
