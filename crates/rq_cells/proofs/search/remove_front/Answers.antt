use Rattle.std.proofs.Common.{◌≡◌, ◌+◌, ◌-◌, length, take, drop, sym, ap, ◌∙◌, arith, rules, length-drop, take_all}
use Rattle.std.specs.List.{copy_within}
use Rattle.std.specs.Vec.{vec_len}
use Rattle.std.proofs.lemmas.List.Edits.{take-paste}
use Rattle.rq_cells.proofs.search.remove_front.Goals as goal

pub returns : goal.returns
returns c =
    let all = c.args.bytes.now.items in
    let n = c.args.n in
    let size : length all ≡ vec_len c.args.bytes.now = search rules in
    let length_is : c.len.result ≡ length all = search rules in
    let left = length all - n in
    let same : left ≡ 0 + left = omega arith in
    let rest : length (drop n all) ≡ left = length-drop n all in
    c.truncate.ensures.items ∙ ap (λ m. take (m - n) c.copy_within.new.self.items) length_is ∙ ap (take left) c.copy_within.ensures.items
    ∙ ap (λ m. take left (copy_within all n m 0)) (sym size)
    ∙ ap (λ k. take k (copy_within all n (length all) 0)) same ∙ take-paste all 0 (drop n all) left (omega arith) (omega arith)
    ∙ take_all left (drop n all) (omega arith)
