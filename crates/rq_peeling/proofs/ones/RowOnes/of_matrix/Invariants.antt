-- What the loops keep in `ones::RowOnes::of_matrix`.
use Rattle.std.proofs.Common.{◌≡◌, length}
use Rattle.rq_parts.specs.ImmutableListMap.{lists_between}
use Rattle.rq_peeling.specs.RowDegrees.{CountsBefore}
use Rattle.rq_peeling.specs.RowOnes.{AreOnesOfRows, AreAllBetween}
use Rattle.rq_peeling.proofs.ones.RowOnes.of_matrix.Given as goal

abbrev pub invariant-loop-row : goal.invariant-loop-row
invariant-loop-row g l =
    let content = g.T.BinaryMatrix.content l.bits in
    record {
      between : AreAllBetween l.starts.items l.columns.items;
      ones : AreOnesOfRows l.row content.width content.bit (lists_between l.starts.items l.columns.items);
      rows : length l.counts.items ≡ l.row;
      counted : CountsBefore l.lt_columns (lists_between l.starts.items l.columns.items) l.counts.items;
    }
