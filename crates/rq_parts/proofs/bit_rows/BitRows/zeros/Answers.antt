-- What the check leaves to show of `bit_rows::BitRows::zeros`.
use Rattle.std.proofs.Common.{◌*◌, replicate, ap, ◌∙◌}
use Rattle.rq_bytes.specs.Ranges.{cut}
use Rattle.rq_bytes.proofs.Cuts.{cut-replicate}
use Rattle.rq_parts.specs.PackedBits.{word_count}
use Rattle.rq_parts.proofs.bit_rows.BitRows.zeros.Goals as goal

pub returns : goal.returns
returns c =
    ap (λ s. cut c.args.height s c.in_ok-vec.field-0.items) c.words_for-row_len.ensures ∙ ap (cut c.args.height (word_count c.args.width)) (c.in_ok-vec.ensures.items_if_clones_equal (λ _ same. same) ∙ ap (λ s. replicate (c.args.height * s) 0) c.words_for-row_len.ensures) ∙ cut-replicate c.args.height (word_count c.args.width) 0
