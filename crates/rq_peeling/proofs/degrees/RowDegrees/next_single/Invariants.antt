-- What the loops keep in `degrees::RowDegrees::next_single`.
use Rattle.std.proofs.Common.{◌≡◌, length}
use Rattle.rq_peeling.specs.RowDegrees.{AreListed}
use Rattle.rq_peeling.proofs.degrees.RowDegrees.next_single.Given as goal

abbrev pub invariant-loop-row : goal.invariant-loop-row
invariant-loop-row l =
    let s = l.self-inside in
    record { same : s.degrees.items ≡ l.fn.self; listed : AreListed s.degrees.items s.singles.rows s.pairs.rows }

abbrev pub decreases-loop-row : goal.decreases-loop-row
decreases-loop-row l = length l.self-inside.singles.rows
