-- What the check leaves to show of `row_selection::FirstPhaseRowSelectionStats::first_phase_selection`.
use Rattle.std.proofs.Common.{◌<◌, get_or, arith}
use Rattle.rq_peeling.specs.FirstPhaseRowSelectionStats.{ones_in_range}
use Rattle.rq_peeling.proofs.RowCounts.{least_same}
use Rattle.rq_peeling.proofs.row_selection.FirstPhaseRowSelectionStats.first_phase_selection.Goals as goal

pub returns-else-least-eq0-2-clause-found : goal.returns-else-least-eq0-2-clause-found
returns-else-least-eq0-2-clause-found g c =
    let counts = c.args.self.now in
    let some : 0 < c.loop-row.least = omega (arith, c.if-least-eq0-2.false) in
    least_same (λ i. get_or counts.ones i 0) (ones_in_range (g.T.BinaryMatrix.content c.args.matrix.now) counts) c.args.start_row c.loop-row.row c.args.end_row (c.loop-row.row_found, c.loop-row.least)
    (omega (arith, c.loop-row-test.false, c.loop-row.auto, c.requires.range))
    (λ i from l. c.requires.counted.counted i (omega (arith, c.requires.from)) (omega (arith, c.requires.rows)))
    (c.loop-row.invariant.found some)
