-- What the check leaves to show of `bit_rows::BitRows::row`.
use Rattle.std.proofs.Common.{◌*◌, ap, ◌∙◌}
use Rattle.rq_bytes.specs.Ranges.{range_of}
use Rattle.rq_bytes.proofs.Pieces.{piece_at}
use Rattle.rq_parts.proofs.RowBuffers.{holds_rows, row_in, row_starts}
use Rattle.rq_parts.proofs.bit_rows.BitRows.row.Goals as goal

pub overflow_mul-start : goal.overflow_mul-start
overflow_mul-start c = record { fits = row_starts c.self.inside c.args.self.now c.self.view_is c.self.invariant c.args.i c.requires }

pub range-requires : goal.range-requires
range-requires c = row_in c.self.inside c.args.self.now c.self.view_is c.self.invariant c.args.i c.requires c.as_slice.result.now c.as_slice.ensures.value

pub returns : goal.returns
returns c =
    let size = c.self.inside.row_len in
    c.range.ensures ∙ ap (λ l. range_of l (c.args.i * size) size) c.as_slice.ensures.value ∙ piece_at (holds_rows c.self.inside c.args.self.now c.self.view_is c.self.invariant) c.args.i c.requires
