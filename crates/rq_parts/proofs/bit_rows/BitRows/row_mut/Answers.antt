-- What the check leaves to show of `bit_rows::BitRows::row_mut`.
use Rattle.std.proofs.Common.{◌≡◌, ◌+◌, ◌-◌, ◌*◌, refl, ap, ◌∙◌, arith}
use Rattle.rq_bytes.specs.Ranges.{range_of}
use Rattle.rq_bytes.proofs.Pieces.{within, piece_at}
use Rattle.rq_parts.proofs.RowBuffers.{holds_rows, row_starts, row_ends, words_written, is_row_write}
use Rattle.rq_parts.proofs.bit_rows.BitRows.row_mut.Goals as goal

pub overflow_mul-start : goal.overflow_mul-start
overflow_mul-start c = record { fits = row_starts c.self.inside c.args.self.now c.self.view_is c.self.invariant c.args.i c.requires }

pub overflow_add-start : goal.overflow_add-start
overflow_add-start c = record { fits = row_ends c.self.inside c.args.self.now c.self.view_is c.self.invariant c.args.i c.requires }

pub slice_mut-requires-clause-in_bounds : goal.slice_mut-requires-clause-in_bounds
slice_mut-requires-clause-in_bounds c = omega (arith, within (holds_rows c.self.inside c.args.self.now c.self.view_is c.self.invariant) c.args.i c.requires, c.self.inside.words.ok)

pub returns : goal.returns
returns c =
    let i = c.args.i in
    let inside = c.self.inside in
    let size = inside.row_len in
    let is = holds_rows inside c.args.self.now c.self.view_is c.self.invariant in
    let few : i * size + size - i * size ≡ size = omega arith in (
      (refl, λ w. words_written is i c.requires inside.words.len w inside.words.ok.0),
      record {
        writes_back = tt;
        whole_row = is_row_write is i c.requires;
        row = c.slice_mut.ensures.value ∙ ap (range_of inside.words.items (i * size)) few ∙ piece_at is i c.requires;
      },
    )
