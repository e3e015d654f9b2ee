-- What the loop keeps in `sparse_matrix::column_index::add_ones`.
use Rattle.std.proofs.Common.{take}
use Rattle.rq_matrix.specs.SparseRows.{AddsRowPairs}
use Rattle.rq_matrix.proofs.sparse_matrix.column_index.add_ones.Given as goal

abbrev pub invariant-loop-i : goal.invariant-loop-i
invariant-loop-i l = AddsRowPairs l.initial.builder l.row (take l.i l.ones) l.builder
