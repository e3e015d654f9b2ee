-- What the check leaves to show of `bit_rows::add_range`.
use Rattle.std.proofs.Common.{◌≡◌, sym, ap, ◌∙◌}
use Rattle.std.specs.Int.Bits.{bit_xor}
use Rattle.std.proofs.lemmas.Simd.{length-zip2}
use Rattle.rq_bytes.specs.Ranges.{range_of, with_range}
use Rattle.rq_bytes.proofs.RangeFacts.{length-range}
use Rattle.rq_standard.specs.Rows.{row_sum}
use Rattle.rq_bytes.proofs.RangeFacts.{second_kept}
use Rattle.rq_parts.proofs.bit_rows.add_range.Goals as goal

pub returns : goal.returns
returns c =
    let words = c.args.words.now in
    let both = c.get_both_ranges-to.ensures in
    let sum = row_sum (range_of words c.args.dest c.args.len) (range_of words c.args.src c.args.len) in
    let long = length-range words c.args.dest c.args.len c.requires.dest in
    let is : c.add_assign_binary.new.dest ≡ sum = c.add_assign_binary.ensures ∙ ap (λ l. row_sum l c.get_both_ranges-to.result.1.now) both.first ∙ ap (row_sum (range_of words c.args.dest c.args.len)) both.second in
    ap (λ l. with_range (with_range words c.args.dest l) c.args.src c.get_both_ranges-to.result.1.now) is
    ∙ ap (with_range (with_range words c.args.dest sum) c.args.src) both.second
    ∙ second_kept words c.args.dest c.args.src c.args.len sum c.requires.apart c.requires.dest c.requires.src (length-zip2 bit_xor (range_of words c.args.dest c.args.len) (range_of words c.args.src c.args.len) (long ∙ sym (length-range words c.args.src c.args.len c.requires.src)) ∙ long)
