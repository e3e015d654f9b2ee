-- What the check leaves to show of `sparse_matrix::dense_tail::DenseTail::set_ones`.
use Rattle.std.proofs.Common.{get_or, refl, subst}
use Rattle.rq_standard.specs.BitTableSteps.{bit_of}
use Rattle.rq_matrix.specs.DenseTails.{SetsTailBit}
use Rattle.rq_matrix.proofs.DenseTailLaws.{marks_none, marks_more}
use Rattle.rq_matrix.proofs.sparse_matrix.dense_tail.DenseTail.set_ones.Goals as goal

pub loop-row-init : goal.loop-row-init
loop-row-init c = marks_none c.args.self.now c.args.column

pub loop-row-preserved : goal.loop-row-preserved
loop-row-preserved c =
    let n = c.loop-row.row-index in
    let row = get_or c.args.rows.now n 0 in
    let sets = subst (λ bit. SetsTailBit c.loop-row.self row c.args.column (bit_of bit) c.set.new.self) c.one.ensures c.set.ensures in
    marks_more c.args.self.now c.loop-row.self c.set.new.self c.args.rows.now n row c.args.column c.loop-row-test.true refl c.loop-row.invariant sets
