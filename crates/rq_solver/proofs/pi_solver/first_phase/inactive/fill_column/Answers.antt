-- What the check leaves to show of `pi_solver::first_phase::inactive::fill_column`.
use Rattle.std.proofs.Common.{◌<◌, length, lit<, arith}
use Rattle.rq_algebra.specs.Systems.{at}
use Rattle.rq_solver.proofs.InactiveFilling.{column_first, column_next}
use Rattle.rq_elimination.proofs.Writes.{sets_entry}
use Rattle.rq_solver.proofs.pi_solver.first_phase.inactive.fill_column.Goals as goal

pub loop-row-init : goal.loop-row-init
loop-row-init c = column_first c.args.rows.now c.args.column c.args.entries.now c.requires.octets c.requires.zeros

pub loop-row-preserved : goal.loop-row-preserved
loop-row-preserved c =
    let rows = c.args.rows.now in
    let column = c.args.column in
    let t = c.loop-row.row-index in
    let l : t < length rows = c.loop-row-test.true in
    let table = c.loop-row.entries in
    let v = c.loop-row.invariant in
    let inside : at rows t < length table.rows = omega (arith, c.requires.rows t 0 l, v.height) in
    let below : column < table.width = omega (arith, c.requires.column, v.width) in
    column_next rows t column c.args.entries.now table c.set_one.new.self l v (sets_entry table v.octets (at rows t) column 1 inside below (lit< tt) c.set_one.new.self c.set_one.ensures)
