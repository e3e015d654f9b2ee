-- What the check leaves to show of `packed_bits::count_ones`.
use Rattle.std.proofs.Common.{◌≡◌, ℕ, ◌+◌, ◌-◌, ◌/◌, ◌%◌, ◌<◌, get_or, ap, sym, ◌∙◌, arith}
use Rattle.std.specs.Int.{bit_at}
use Rattle.rq_bytes.specs.BinaryOctetVec.{packed_bit}
use Rattle.rq_standard.specs.BitTableSteps.{ones_below, ones_between}
use Rattle.rq_parts.proofs.CountedOnes.{ones_below-add, ones_below-same}
use Rattle.rq_parts.proofs.PackedBits.{packed_bit-near}
use Rattle.rq_parts.proofs.packed_bits.count_ones.Goals as goal

pub loop-column-preserved : goal.loop-column-preserved
loop-column-preserved c =
    let row = c.args.row.now in
    let start = c.args.start in
    let column = c.loop-column.column in
    let count = c.min-count.result in
    let kept = c.loop-column.invariant in
    let here = λ (k : ℕ) (lt : k < count). sym (packed_bit-near row column k (omega arith)) in
    let part : ones_below (λ k. bit_at (get_or row (column / 64) 0) (column % 64 + k)) count ≡ ones_below (λ k. packed_bit row (start + (column - start + k))) count =
    ones_below-same _ _ count (λ k lt. here k lt ∙ ap (packed_bit row) (let e : column + k ≡ start + (column - start + k) = omega arith in e)) in
    let whole : column + count - start ≡ column - start + count = omega arith in
    let place = λ (k : ℕ). packed_bit row (start + k) in
    let counted : c.loop-column.ones + c.ones_in_word-ones.result ≡ ones_between (packed_bit row) start (column + count) =
    ap (λ n. c.loop-column.ones + n) (c.ones_in_word-ones.ensures.ones ∙ part)
    ∙ ap (λ n. n + ones_below (λ k. place (column - start + k)) count) kept.counted
    ∙ sym (ones_below-add place (column - start) count)
    ∙ ap (ones_below place) (sym whole)
    in
    record {
      from = omega arith;
      before = omega arith;
      counted = counted;
      few = omega arith;
    }
