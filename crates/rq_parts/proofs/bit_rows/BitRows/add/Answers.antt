-- What the check leaves to show of `bit_rows::BitRows::add`.
use Rattle.std.proofs.Common.{◌*◌, [], get_or, sym, ap, ◌∙◌}
use Rattle.std.specs.Int.Bits.{bit_xor}
use Rattle.std.proofs.lemmas.List.{with_items_is}
use Rattle.std.proofs.lemmas.Simd.{length-zip2}
use Rattle.rq_bytes.specs.Ranges.{range_of, with_range, cut}
use Rattle.rq_bytes.proofs.Cuts.{pieces_apart}
use Rattle.rq_standard.specs.Rows.{row_sum}
use Rattle.rq_bytes.proofs.Pieces.{piece_at, length-piece, piece_written}
use Rattle.rq_parts.proofs.RowBuffers.{holds_rows, row_in, row_starts}
use Rattle.rq_parts.proofs.bit_rows.BitRows.add.Goals as goal

pub overflow_mul-dest : goal.overflow_mul-dest
overflow_mul-dest c = record { fits = row_starts c.self.inside c.args.self.now c.self.view_is c.self.invariant c.args.dest c.requires.dest }

pub overflow_mul-src : goal.overflow_mul-src
overflow_mul-src c = record { fits = row_starts c.self.inside c.args.self.now c.self.view_is c.self.invariant c.args.src c.requires.src }

pub add_range-requires-clause-apart : goal.add_range-requires-clause-apart
add_range-requires-clause-apart c = pieces_apart c.args.dest c.args.src c.self.inside.row_len (λ e. c.requires.two (sym e))

pub add_range-requires-clause-dest : goal.add_range-requires-clause-dest
add_range-requires-clause-dest c = row_in c.self.inside c.args.self.now c.self.view_is c.self.invariant c.args.dest c.requires.dest c.as_mut_slice.result.now c.as_mut_slice.ensures.value

pub add_range-requires-clause-src : goal.add_range-requires-clause-src
add_range-requires-clause-src c = row_in c.self.inside c.args.self.now c.self.view_is c.self.invariant c.args.src c.requires.src c.as_mut_slice.result.now c.as_mut_slice.ensures.value

pub returns : goal.returns
returns c =
    let words = c.self.inside.words.items in
    let rows = c.args.self.now in
    let size = c.self.inside.row_len in
    let dest = c.args.dest in
    let src = c.args.src in
    let is = holds_rows c.self.inside rows c.self.view_is c.self.invariant in
    let first = get_or rows dest [] in
    let second = get_or rows src [] in
    let items =
    with_items_is c.self.inside.words c.add_range.new.words (c.add_range.auto.words ∙ c.as_mut_slice.ensures.len)
    ∙ c.add_range.ensures
    ∙ ap (λ l. with_range l (dest * size) (row_sum (range_of l (dest * size) size) (range_of l (src * size) size))) c.as_mut_slice.ensures.value
    ∙ ap (λ l. with_range words (dest * size) (row_sum l (range_of words (src * size) size))) (piece_at is dest c.requires.dest)
    ∙ ap (λ l. with_range words (dest * size) (row_sum first l)) (piece_at is src c.requires.src)
    in
    let long = length-piece is dest c.requires.dest in
    ap (cut c.self.inside.count size) items
    ∙ (piece_written is dest (row_sum first second) c.requires.dest (length-zip2 bit_xor first second (long ∙ sym (length-piece is src c.requires.src)) ∙ long)).view
