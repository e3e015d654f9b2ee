-- What the check leaves to show of a sum of rows' operation on vectors.
use Rattle.std.proofs.Common.{◌≤◌, length, get_or, take, [], ap, sym, ◌∙◌, arith}
use Rattle.std.proofs.lemmas.List.{take_rest, map-id}
use Rattle.std.specs.Int.Bits.{bit_xor}
use lib.Lanes.{zip2}
use Rattle.rq_bytes.proofs.LaneFacts.{alone}
use Rattle.rq_bytes.proofs.RowSums.{one_more_row}
use Rattle.rq_bytes.proofs.row_sums.RowSumLaneOperation.lanes.Goals as goal

pub loop-row-init : goal.loop-row-init
loop-row-init c = sym (alone (λ x. x) c.args.octets c.args.place ∙ map-id c.args.octets)

pub loop-row-preserved : goal.loop-row-preserved
loop-row-preserved c =
    let rows = c.args.self.now.rows.now in
    let row = get_or rows c.loop-row.row-index record { ref_ptr = (0, 0); now = [] } in
    let fits : c.args.self.now.len ≤ length row.now = c.args.self.now.long c.loop-row.row-index record { ref_ptr = (0, 0); now = [] } c.loop-row-test.true in
    ap (λ l. zip2 bit_xor c.loop-row.sum (take 32 l)) (take_rest row.now c.args.place)
    ∙ one_more_row (λ r. r.now) rows c.loop-row.row-index _ c.args.octets c.loop-row.sum c.args.place 32 c.requires.long c.loop-row-test.true c.loop-row.invariant (omega (arith, fits, c.requires.within))
