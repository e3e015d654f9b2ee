-- What the check leaves to show of `sparse_matrix::SparseBinaryMatrix::query_non_zero_columns_into`.
use Rattle.std.proofs.Common.{◌≡◌, ℕ, ◌+◌, ◌-◌, ◌<◌, ◌≤◌, subst, ap, ◌∙◌, arith}
use Rattle.rq_matrix.specs.DenseTails.{tail_bit}
use Rattle.rq_matrix.specs.SparseBinaryMatrix.{sparse_bit}
use Rattle.rq_matrix.proofs.SparseMatrixLaws.{places-same, dense_bit}
use Rattle.rq_matrix.proofs.FoundOnes.{AreFound, places-pass, found_after}
use Rattle.rq_matrix.proofs.sparse_matrix.SparseBinaryMatrixBinaryMatrix.query_non_zero_columns_into.Goals as goal

pub loop-column-preserved : goal.loop-column-preserved
loop-column-preserved c =
    let old = c.args.self.now in
    let start = c.args.start_col in
    let bits = tail_bit old.tail c.stored_row-row.result in
    let bit = λ (k : ℕ). bits (old.width - 1 - k) in
    let last = c.in-Some.ensures in
    let next = old.width - c.loop-column.end in
    let place = old.width - 1 - c.in-Some.column in
    let inside : start ≤ old.width = omega (arith, c.requires.dense, old.boundary_within) in
    let column : old.width - 1 - place ≡ c.in-Some.column = omega (arith, last.below) in
    let none = λ (k : ℕ) (from : next ≤ k) (below : k < place). last.after (old.width - 1 - k) (omega arith) (omega arith) in
    let pushed = c.push_reserved.ensures in
    let found : AreFound bit start (place + 1) old.width c.push_reserved.new.self =
    found_after bit start next old.width place c.loop-column.out c.push_reserved.new.self c.loop-column.invariant.found (omega arith) (omega (arith, last.below)) none (ap bits column ∙ last.one) pushed.items pushed.len pushed.capacity
    in
    let rest : place + 1 ≡ old.width - c.in-Some.column = omega (arith, last.below) in
    record { within = omega (arith, last.below); found = subst (λ n. AreFound bit start n old.width c.push_reserved.new.self) rest found }

pub returns-clause-ok : goal.returns-clause-ok
returns-clause-ok c =
    let old = c.args.self.now in
    let start = c.args.start_col in
    let bit = λ (k : ℕ). tail_bit old.tail c.stored_row-row.result (old.width - 1 - k) in
    places-same bit (sparse_bit old.width old.boundary old.rows.items old.row_order old.column_order old.tail c.args.row) start old.width c.loop-column.out.items
    (λ k from _. dense_bit old.width old.boundary old.rows.items old.row_order old.column_order old.tail c.args.row c.stored_row-row.result c.stored_row-row.ensures.value k (omega (arith, c.requires.dense)))
    (places-pass bit start (old.width - c.loop-column.end) old.width c.loop-column.out.items (omega arith) c.loop-column.invariant.found.places (λ k from below. c.in_default.ensures (old.width - 1 - k) (omega arith) (omega arith)))
