-- What the check leaves to show of `sparse_matrix::column_index::add_ones`.
use Rattle.std.proofs.Common.{ℕ, ap, arith}
use Rattle.rq_parts.proofs.MemoryAlone.{on_ok_past}
use Rattle.rq_matrix.proofs.ColumnIndexLaws.{adds_more}
use Rattle.rq_matrix.proofs.sparse_matrix.column_index.add_ones.Goals as goal

pub loop-i-preserved : goal.loop-i-preserved
loop-i-preserved c =
    adds_more c.args.builder.now c.loop-i.builder c.add.new.self c.args.row c.loop-i.i c.get_by_raw_index-column.result.0 c.args.ones.now (omega (arith, c.len-i-end.ensures.count)) (ap (λ (p : ℕ × ℕ). p.0) c.get_by_raw_index-column.ensures)
    c.loop-i.invariant (on_ok_past c.add.result c.in_ok-map_err.ensures.variant c.add.ensures.added)
