-- What the check leaves to show of `bit_rows::BitRows::narrow`.
use Rattle.std.proofs.Common.{◌*◌, List, ℕ, map, min, take, ap, ◌∙◌}
use Rattle.std.proofs.lemmas.List.{with_items_is}
use Rattle.rq_bytes.specs.Ranges.{cut}
use Rattle.rq_parts.specs.PackedBits.{word_count}
use Rattle.rq_bytes.proofs.Cuts.{cut-take}
use Rattle.rq_parts.proofs.RowBuffers.{holds_rows, cut_short}
use Rattle.rq_parts.proofs.bit_rows.BitRows.narrow.Goals as goal

pub returns : goal.returns
returns c =
    let words = c.self.inside.words.items in
    let count = c.self.inside.count in
    let size = c.self.inside.row_len in
    let width = word_count c.args.width in
    let kept = c.min-kept.result in
    let gathered = c.gather_starts.new.words in
    let is = holds_rows c.self.inside c.args.self.now c.self.view_is c.self.invariant in
    ap (cut count kept) (c.truncate.ensures.items ∙ ap (take (count * kept)) (with_items_is c.self.inside.words gathered (c.gather_starts.auto.words ∙ c.as_mut_slice-words.ensures.len)))
    ∙ cut-take count kept gathered
    ∙ c.gather_starts.ensures
    ∙ ap (λ l. map (λ (row : List ℕ). take kept row) (cut count size l)) c.as_mut_slice-words.ensures.value
    ∙ ap (λ n. map (λ (row : List ℕ). take n row) (cut count size words)) (c.min-kept.ensures ∙ ap (λ n. min n size) c.words_for.ensures)
    ∙ cut_short width size count words
    ∙ ap (map (λ (row : List ℕ). take width row)) is.view
