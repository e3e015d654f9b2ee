-- What the check leaves to show of `pi_solver::first_phase::clear_hdpc::add_pivot`.
use Rattle.std.proofs.Common.{◌≡◌, ℕ, ◌<◌, length, sym, ap, ◌∙◌, arith}
use Rattle.rq_algebra.specs.Systems.{at}
use Rattle.rq_solver.specs.HdpcOctets.{HasPivotsBeside, octets_from}
use Rattle.rq_elimination.specs.HdpcRows.{octet_in}
use Rattle.rq_solver.proofs.OctetColumns.{from_column, same_behind}
use Rattle.rq_solver.proofs.HdpcClearing.{beside_still, changes_no_octets, changes_same, changes_pivot, changes_more_octets, zeros_skipped, column_cleared}
use Rattle.rq_solver.proofs.pi_solver.first_phase.clear_hdpc.add_pivot.Goals as goal
use Rattle.rq_solver.proofs.pi_solver.first_phase.clear_hdpc.add_pivot.Goals.{then-byte-ne0+in_ok-add_multiple, else-byte-ne0}

pub loop-row-init : goal.loop-row-init
loop-row-init c =
    let p = c.args.places.now.peeling.now in
    let hdpc_rows = c.args.hdpc_rows.now in
    let column = at p.order c.args.place in
    let before = octets_from column (octet_in hdpc_rows) in
    record {
      few = omega arith;
      changed = changes_same (λ i q l n. sym (same_behind column 0 before i (at p.order q) (omega arith))) changes_no_octets;
    }

pub add_multiple-requires-clause-two : goal.add_multiple-requires-clause-two
add_multiple-requires-clause-two c =
    let rows = c.args.places.now.peeling.now.rows in
    let read : c.row_of.result ≡ at rows c.args.place = c.row_of.ensures in
    rw read (c.requires.pivots.apart c.loop-row.row c.args.place (omega arith) c.requires.place)

pub loop-row-preserved : goal.loop-row-preserved
loop-row-preserved c =
    let p = c.args.places.now.peeling.now in
    let first = c.args.places.now.first in
    let place = c.args.place in
    let row = c.loop-row.row in
    let hdpc_rows = c.args.hdpc_rows.now in
    let count = length hdpc_rows.table.rows in
    let width = hdpc_rows.table.width in
    let old = c.args.recorded.now in
    let cur = c.loop-row.recorded in
    let v = c.loop-row.invariant in
    let beside = c.requires.pivots in
    let here : ℕ = at p.order place in
    let before = octets_from here (octet_in hdpc_rows) in
    let column : c.column_at-column.result ≡ here = c.column_at-column.ensures in
    let in_rows : row < count = omega (arith, c.requires.count) in
    let scalar_is : c.get-scalar.result ≡ before row here = c.get-scalar.ensures ∙ ap (octet_in hdpc_rows row) column ∙ sym (from_column here (octet_in hdpc_rows) row here (omega arith)) in
    let still : HasPivotsBeside p.rows p.order p.places first count width cur = beside_still beside v.changed.done.height in
    elim c.if-byte-ne0.branch [
      | then-byte-ne0+in_ok-add_multiple w ↦
          let small : c.get-scalar.result < 256 = rw c.byte.ensures at c.byte.type_inv in
          let read : w.row_of.result ≡ at p.rows place = w.row_of.ensures in
          rw w.recorded-is (record {
            few = (let more = w.in_ok-add_multiple.ensures.counted in let so_far = v.few in omega (arith, more, so_far));
            changed = changes_more_octets beside v.changed
                (changes_pivot still before row place _ in_rows c.requires.place small scalar_is (rw read at w.in_ok-add_multiple.ensures.added));
          })
      | else-byte-ne0 w ↦
          let none : before row here ≡ 0 = sym scalar_is ∙ sym c.byte.ensures ∙ w.if-byte-ne0.false in
          rw w.recorded-is (record {
            few = (let so_far = v.few in omega (arith, so_far));
            changed = changes_same (zeros_skipped still before row place 0 in_rows c.requires.place none) v.changed;
          })
    ]

pub returns-clause-changed : goal.returns-clause-changed
returns-clause-changed c =
    let p = c.args.places.now.peeling.now in
    let column = at p.order c.args.place in
    let all : c.loop-row.row ≡ c.args.count = omega (arith, c.loop-row.auto) in
    column_cleared (octet_in c.args.hdpc_rows.now) column c.args.count c.requires.zeros (rw all at c.loop-row.invariant.changed)
