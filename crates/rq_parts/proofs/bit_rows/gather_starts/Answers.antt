-- What the check leaves to show of `bit_rows::gather_starts`.
use Rattle.std.proofs.Common.{◌+◌, sym, subst}
use Rattle.rq_parts.proofs.RowBuffers.{AreGathered, gathered_more}
use Rattle.rq_parts.proofs.bit_rows.gather_starts.Goals as goal

pub loop-row-preserved : goal.loop-row-preserved
loop-row-preserved c =
    let n = c.loop-row.row in
    subst (AreGathered c.args.kept c.args.row_len (n + 1) c.args.words.now) (sym c.copy_within.ensures.after)
    (gathered_more c.args.kept c.args.row_len c.args.count n c.args.words.now c.loop-row.words c.requires.kept c.loop-row-test.true c.requires.long c.loop-row.invariant)
