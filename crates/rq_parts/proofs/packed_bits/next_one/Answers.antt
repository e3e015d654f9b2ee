-- What the check leaves to show of `packed_bits::next_one`.
use Rattle.std.proofs.Common.{◌/◌, refl, arith}
use Rattle.rq_bytes.specs.BinaryOctetVec.{packed_bit}
use Rattle.rq_parts.proofs.PackedBits.{next_one-if, one_ahead, zeros_ahead, zeros_before}
use Rattle.rq_parts.proofs.packed_bits.next_one.Goals as goal

pub returns-then-rest-ne0 : goal.returns-then-rest-ne0
returns-then-rest-ne0 c =
    let row = c.args.row.now in
    let column = c.loop-column.column in
    let v = c.loop-column.invariant in
    let next = one_ahead row column _ refl _ (c.type_inv.row (column / 64)).fits c.if-rest-ne0.true refl in
    rw c.then_some.ensures (next_one-if (packed_bit row) c.args.from column c.args.end _ _ v.from v.zeros next refl)

pub loop-column-preserved : goal.loop-column-preserved
loop-column-preserved c =
    let row = c.args.row.now in
    let column = c.loop-column.column in
    let v = c.loop-column.invariant in
    record {
      from = omega (arith, v.from);
      zeros = zeros_before (packed_bit row) c.args.from column _ v.zeros (zeros_ahead row column _ refl c.if-rest-ne0.false);
    }
