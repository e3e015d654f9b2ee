-- What the check leaves to show of `bit_rows::BitRows::swap`.
use Rattle.std.proofs.Common.{◌*◌, [], get_or, set, sym, ap, ◌∙◌}
use Rattle.std.specs.List.{swap}
use Rattle.std.proofs.lemmas.List.{with_items_is, set-get_or}
use Rattle.std.proofs.lemmas.List.Edits.{swap_is}
use Rattle.rq_bytes.specs.Ranges.{ranges_exchanged, cut}
use Rattle.rq_bytes.proofs.Cuts.{pieces_apart}
use Rattle.rq_bytes.proofs.Pieces.{exchanged}
use Rattle.rq_parts.proofs.RowBuffers.{holds_rows, row_in, row_starts}
use Rattle.rq_parts.proofs.bit_rows.BitRows.swap.Goals as goal

pub overflow_mul-i : goal.overflow_mul-i
overflow_mul-i c = record { fits = row_starts c.self.inside c.args.self.now c.self.view_is c.self.invariant c.args.i c.requires.first }

pub overflow_mul-j : goal.overflow_mul-j
overflow_mul-j c = record { fits = row_starts c.self.inside c.args.self.now c.self.view_is c.self.invariant c.args.j c.requires.second }

pub swap_ranges-requires-clause-apart : goal.swap_ranges-requires-clause-apart
swap_ranges-requires-clause-apart c = pieces_apart c.args.i c.args.j c.self.inside.row_len (λ e. c.if-i-j.true (sym e))

pub swap_ranges-requires-clause-first : goal.swap_ranges-requires-clause-first
swap_ranges-requires-clause-first c = row_in c.self.inside c.args.self.now c.self.view_is c.self.invariant c.args.i c.requires.first c.as_mut_slice.result.now c.as_mut_slice.ensures.value

pub swap_ranges-requires-clause-second : goal.swap_ranges-requires-clause-second
swap_ranges-requires-clause-second c = row_in c.self.inside c.args.self.now c.self.view_is c.self.invariant c.args.j c.requires.second c.as_mut_slice.result.now c.as_mut_slice.ensures.value

pub returns-then-i-j : goal.returns-then-i-j
returns-then-i-j c =
    let size = c.self.inside.row_len in
    let i = c.args.i in
    let j = c.args.j in
    ap (cut c.self.inside.count size) (
    with_items_is c.self.inside.words c.swap_ranges.new.slice (c.swap_ranges.auto.slice ∙ c.as_mut_slice.ensures.len)
    ∙ c.swap_ranges.ensures
    ∙ ap (λ l. ranges_exchanged l (i * size) (j * size) size) c.as_mut_slice.ensures.value)
    ∙ exchanged (holds_rows c.self.inside c.args.self.now c.self.view_is c.self.invariant) i j c.requires.first c.requires.second

pub returns-else-i-j : goal.returns-else-i-j
returns-else-i-j c =
    let rows = c.args.self.now in
    let i = c.args.i in
    let row = get_or rows i [] in
    sym (set-get_or rows i [])
    ∙ sym (ap (λ l. set l i row) (set-get_or rows i []))
    ∙ swap_is rows i i [] c.requires.first c.requires.first
    ∙ ap (swap rows i) c.if-i-j.false
