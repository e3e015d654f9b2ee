-- What the check leaves to show of `sparse_matrix::dense_tail::DenseTail::last_one`.
use Rattle.std.proofs.Common.{◌≡◌, ℕ, ◌-◌, ◌/◌, ◌<◌, List, [], length, get_or, ap, ◌∙◌, arith}
use Rattle.std.proofs.lemmas.List.{get_or_read}
use Rattle.rq_matrix.specs.DenseTails.{Tail}
use Rattle.rq_matrix.proofs.DenseTailLaws.{last_one-word}
use Rattle.rq_matrix.proofs.sparse_matrix.dense_tail.DenseTail.last_one.Goals as goal

pub returns-in-Some : goal.returns-in-Some
returns-in-Some c =
    let tail = c.args.self.now in
    let end = c.loop-end.end in
    let block = (end - 1) / 64 in
    let blocks = c.self.inside.blocks.items in
    let within : block < length blocks = omega (arith, c.self.invariant.enough, ap (λ (t : Tail). length t.blocks) c.self.view_is, ap (λ (t : Tail). t.columns) c.self.view_is) in
    let at : c.index.result.now ≡ get_or tail.blocks block [] = get_or_read blocks block c.index.result.now within c.index.ensures [] ∙ ap (λ (t : Tail). get_or t.blocks block []) c.self.view_is in
    let word : c.word-word.result ≡ get_or (get_or tail.blocks block []) c.args.row 0 = c.word-word.ensures ∙ ap (λ (l : List ℕ). get_or l c.args.row 0) at in
    last_one-word tail c.args.row end c.args.end c.in-Some.bit c.word-word.result (omega arith) word c.in-Some.ensures (omega arith) c.loop-end.invariant.zeros
