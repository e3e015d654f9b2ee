-- What the check leaves to show of `peeler::Peeler::inactivate_columns`.
use Rattle.std.proofs.Common.{◌<◌, All, Bor, length, subst, ◌∙◌}
use Rattle.rq_algebra.specs.Systems.{at}
use Rattle.rq_peeling.specs.RowDegrees.{KeepsDegrees}
use Rattle.rq_peeling.specs.ColumnState.{IsActive}
use Rattle.rq_peeling.specs.declared.system.System.{System}
use Rattle.std.proofs.lemmas.Bool.{iff_false}
use Rattle.rq_peeling.proofs.PeelerLaws.{leave_lowered}
use Rattle.rq_peeling.proofs.PeelingLaws.{inactivates_more, inactivates_same}
use Rattle.rq_peeling.proofs.peeler.Peeler.inactivate_columns.Goals as goal
use Rattle.rq_peeling.proofs.peeler.Peeler.inactivate_columns.Goals.{then-is_active+in_ok-leave_column, else-is_active}

pub loop-column-preserved : goal.loop-column-preserved
loop-column-preserved c =
    let v = c.loop-column.invariant in
    let row = c.args.row.now in
    let t = c.loop-column.column-index in
    let in_row : t < length row = c.loop-column-test.true in
    let first = c.args.self.now in
    let cur = c.loop-column.self in
    let below : All (λ column. column < length first.columns.order) row = rw first.column_count c.requires in
    let inside : at row t < length cur.columns.order = rw v.inactive.ends.width (below t 0 in_row) in
    elim c.if-is_active.branch [
      | then-is_active+in_ok-leave_column w ↦
          let active : IsActive cur.columns (at row t) = c.is_active.ensures.0 w.if-is_active.true in
          let lowered = leave_lowered cur w.inactivate.new.self (at row t) w.leave_column.new.self.degrees inside active w.inactivate.ensures.ended w.in_ok-leave_column.ensures.lowered in
          let here = subst (λ (s : Bor System). KeepsDegrees s.now.ones cur.columns w.inactivate.new.self cur.degrees w.leave_column.new.self.degrees) v.system lowered in
          rw (w.self-is, w.leave_column.ensures.columns) (record {
            inactive = inactivates_more row t in_row first.columns cur.columns w.inactivate.new.self v.inactive w.inactivate.ensures.ended w.inactivate.ensures.pivots;
            counted = λ counts. here (v.counted counts);
            system = w.leave_column.ensures.system ∙ v.system;
          })
      | else-is_active w ↦ rw w.self-is (record {
        inactive = inactivates_same row t in_row first.columns cur.columns cur.columns v.inactive (iff_false c.is_active.ensures w.if-is_active.false);
        counted = v.counted;
        system = v.system;
      })
    ]
