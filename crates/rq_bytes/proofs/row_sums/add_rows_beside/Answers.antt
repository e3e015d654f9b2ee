-- What the check leaves to show of `row_sums::add_rows_beside`.
use Rattle.std.proofs.Common.{◌+◌, ◌-◌, ◌≤◌, ◌++◌, length, length-set, get_or, ⊎_elim, sym, ap, ◌∙◌, arith}
use Rattle.std.proofs.lemmas.List.{length-append}
use Rattle.std.proofs.lemmas.List.Elements.{All-weaker}
use Rattle.rq_bytes.specs.Ranges.{range_of}
use Rattle.rq_bytes.specs.RangeSums.{IsRangeBeside}
use Rattle.rq_bytes.proofs.RangeFacts.{length-range}
use Rattle.rq_bytes.proofs.RowSums.{rows_more, rows_long, rows_summed, range_before, range_behind}
use Rattle.rq_bytes.proofs.row_sums.add_rows_beside.Goals as goal
use Rattle.rq_bytes.proofs.row_sums.add_rows_beside.Goals.{then-starts-i, else-starts-i}

pub loop-i-preserved : goal.loop-i-preserved
loop-i-preserved g c =
    let front = c.args.front.now in
    let row = c.args.row.now in
    let back = c.args.back.now in
    let n = length row in
    let i = c.loop-i.i in
    let start = get_or c.args.starts.now i 0 in
    let beside = c.requires.starts i 0 (omega arith) in
    record {
      so_far =
          rows_more (λ r. r.now) (λ s. range_of (front ++ (row ++ back)) s n) c.loop-i.rows c.args.starts.now i c.if-starts-i.rows 0 c.loop-i.invariant.so_far
          (elim c.if-starts-i.branch [
            | then-starts-i w ↦
                let fits : start + n ≤ length front = ⊎_elim (λ behind. absurd (omega arith)) (λ before. before) beside.1 in
                ap (λ r. r.now) w.rows-is ∙ w.range.ensures ∙ sym (range_before front (row ++ back) start n fits)
            | else-starts-i w ↦
                let fits : length front + n ≤ start = ⊎_elim (λ behind. behind) (λ before. omega arith) beside.1 in
                ap (λ r. r.now) w.rows-is ∙ w.range-else-starts-i.ensures ∙ sym (range_behind front row back start (start - (length front + n)) n (omega arith))
          ])
          (omega (arith, c.loop-i.invariant.long)) (omega arith);
      long = length-set c.loop-i.rows i c.if-starts-i.rows ∙ c.loop-i.invariant.long;
    }

pub add_rows-requires : goal.add_rows-requires
add_rows-requires g c =
    let row = c.args.row.now in
    let front = c.args.front.now in
    let back = c.args.back.now in
    let n = length row in
    let whole = front ++ (row ++ back) in
    rows_long (λ r. r.now) (λ s. range_of whole s n) c.loop-i.rows c.args.starts.now c.loop-i.i g.row.C c.loop-i.invariant.so_far (omega arith) c.requires.count n
    (All-weaker (IsRangeBeside (length front + n + length back) (length front) n) (λ s. n ≤ length (range_of whole s n))
    (λ s beside. let inside = beside.0 in omega (arith, length-range whole s n (omega (arith, inside, length-append front (row ++ back), length-append row back)))) c.args.starts.now c.requires.starts)

pub returns : goal.returns
returns g c =
    let row = c.args.row.now in
    let whole = c.args.front.now ++ (row ++ c.args.back.now) in
    c.add_rows.ensures ∙ rows_summed (λ r. r.now) (λ s. range_of whole s (length row)) c.loop-i.rows c.args.starts.now c.loop-i.i g.row.C c.loop-i.invariant.so_far (omega arith) c.requires.count row
