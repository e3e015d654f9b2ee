-- What the check leaves to show of `pi_solver::first_phase::clear_hdpc::sum_rows`.
use Rattle.std.proofs.Common.{◌≡◌, ◌+◌, ◌<◌, length, refl, sym, ap, ◌∙◌, arith, lit<}
use Rattle.std.proofs.lemmas.List.{length-set}
use Rattle.rq_algebra.specs.Steps.{AddsRow}
use Rattle.rq_standard.specs.OctetField.{octets}
use Rattle.rq_parts.specs.DenseOctetMatrix.{OctetTable, entry_of}
use Rattle.rq_elimination.proofs.ChangedEntries.{summed_row, summed_octets}
use Rattle.rq_solver.proofs.HdpcClearing.{combines_none, combines_more, combines_sum}
use Rattle.rq_solver.proofs.OctetSums.{sum_of_one, sum_of_more}
use Rattle.rq_solver.proofs.pi_solver.first_phase.clear_hdpc.sum_rows.Goals as goal

pub loop-row-init : goal.loop-row-init
loop-row-init c = record {
  few = omega arith;
  width = refl;
  height = refl;
  are_octets = c.requires.octets;
  sum = λ k l. sym (sum_of_one (λ i. entry_of c.args.rows.now i k));
  others = λ i k some l n. refl;
  combined = combines_none;
}

pub loop-row-preserved : goal.loop-row-preserved
loop-row-preserved c =
    let start = c.args.rows.now in
    let was = c.loop-row.rows in
    let now = c.fma_rows.new.self in
    let row = c.loop-row.row in
    let v = c.loop-row.invariant in
    let one : c.one-one.result < 256 = rw c.one-one.ensures (lit< tt) in
    let in_start : row < length start.rows = omega arith in
    let in_rows : row < length was.rows = omega (arith, v.height, in_start) in
    let some : 0 < length was.rows = omega (arith, in_rows) in
    let same_height : length now.rows ≡ length was.rows = ap (λ (t : OctetTable). length t.rows) c.fma_rows.ensures ∙ length-set was.rows 0 _ in
    let same_width : now.width ≡ was.width = ap (λ (t : OctetTable). t.width) c.fma_rows.ensures in
    let added : AddsRow octets (length was.rows) was.width 0 row c.one-one.result (entry_of was) (entry_of now) = rw c.fma_rows.ensures (summed_row was v.are_octets 0 c.one-one.result some one row in_rows) in
    let in_height : AddsRow octets (length start.rows) start.width 0 row c.one-one.result (entry_of was) (entry_of now) = rw (v.height, v.width) at added in
    record {
      few = (let more = c.in_ok-add_multiple.ensures.counted in let so_far = v.few in omega (arith, more, so_far, c.loop-row.auto.row));
      width = same_width ∙ v.width;
      height = same_height ∙ v.height;
      are_octets = rw c.fma_rows.ensures (summed_octets was v.are_octets 0 c.one-one.result some one row in_rows);
      sum = λ k l.
          let is_octet : entry_of start row k < 256 = c.requires.octets.elements row k in_start l in
          in_height.at_dest k l
          ∙ rw (c.one-one.ensures, v.others row k (omega arith) in_start l, octets.one_mul (entry_of start row k) is_octet, v.sum k l) (sym (sum_of_more (λ i. entry_of start i k) row));
      others = λ i k some_row l n. in_height.elsewhere i k l n (λ e. omega (arith, e, some_row)) ∙ v.others i k some_row l n;
      combined = combines_more v.combined
          (combines_sum (rw (v.height, v.width) at v.are_octets.elements) 0 c.args.first_hdpc c.one-one.result (omega (arith, in_start)) (omega arith)
          row (c.args.first_hdpc + row) in_start refl in_height c.in_ok-add_multiple.ensures.added);
    }
