-- What the check leaves to show of `null_vector::clear_column`.
use Rattle.std.proofs.Common.{length, arith}
use Rattle.rq_algebra.specs.Systems.{at}
use Rattle.rq_algebra.proofs.Reduction.{clears_none, clears_pivot, clears_more}
use Rattle.rq_standard.specs.OctetField.{octets}
use Rattle.rq_parts.specs.DenseOctetMatrix.{entry_of}
use Rattle.rq_null_vector.proofs.ZeroValues.{keeps_none, keeps_more}
use Rattle.rq_null_vector.proofs.null_vector.clear_column.Goals as goal
use Rattle.rq_null_vector.proofs.null_vector.clear_column.Goals.{then-i-column, else-i-column}

pub loop-i-init : goal.loop-i-init
loop-i-init c = record {
  keeps = keeps_none c.args.matrix.now c.requires.octets;
  cleared = clears_none octets (length c.args.matrix.now.rows) c.args.matrix.now.width (length c.args.rows.now) c.args.column c.args.column (at c.args.rows.now) c.requires.rows c.requires.column (entry_of c.args.matrix.now);
}

pub loop-i-preserved : goal.loop-i-preserved
loop-i-preserved c =
    let rows = c.args.rows.now in
    let old = c.args.matrix.now in
    let v = c.loop-i.invariant in
    elim c.if-i-column.branch [
      | then-i-column w ↦ record {
        keeps = rw w.matrix-is (keeps_more old c.loop-i.matrix w.clear_entry.new.matrix v.keeps w.clear_entry.ensures.keeps);
        cleared = rw w.matrix-is (clears_more octets (length old.rows) old.width (length rows) c.args.column c.args.column (at rows) c.requires.rows c.requires.column (entry_of old) (entry_of c.loop-i.matrix) c.loop-i.i v.cleared
            (entry_of w.clear_entry.new.matrix) (omega arith) c.requires.pivot w.if-i-column.true (rw (v.keeps.height, v.keeps.width) at w.clear_entry.ensures.added));
      }
      | else-i-column w ↦ record {
        keeps = rw w.matrix-is v.keeps;
        cleared = rw w.matrix-is (clears_pivot octets (length old.rows) old.width (length rows) c.args.column c.args.column (at rows) c.requires.rows c.requires.column (entry_of old) (entry_of c.loop-i.matrix) c.loop-i.i v.cleared w.if-i-column.false);
      }
    ]
