-- What the check leaves to show of `sparse_matrix::dense_tail::add_words`.
use Rattle.std.proofs.Common.{◌≡◌, ◌<◌, ℕ, List, [], length, set, get_or, ap, ◌∙◌, arith, sym, subst}
use Rattle.std.proofs.lemmas.List.{get_or_default}
use Rattle.rq_parts.proofs.ListChanges.{mapped_until-next, mapped_until-more}
use Rattle.rq_matrix.specs.DenseTails.{with_word_added}
use Rattle.rq_matrix.proofs.sparse_matrix.dense_tail.add_words.Goals as goal
use Rattle.rq_matrix.proofs.sparse_matrix.dense_tail.add_words.Goals.{After-index-blocks-block}

-- the block that is changed next is still the old one
module _ (c : After-index-blocks-block) where
  read : get_or c.loop-block.blocks c.loop-block.block c.index-blocks-block.result ≡ get_or c.args.blocks.now c.loop-block.block []
  read =
      let f : List ℕ → List ℕ = λ block. with_word_added block c.args.dest c.args.src in
      let n = c.loop-block.block in
      let inside : n < length c.loop-block.blocks = omega (arith, c.loop-block.auto.blocks) in
      get_or_default c.loop-block.blocks n c.index-blocks-block.result [] inside ∙ ap (λ l. get_or l n []) c.loop-block.invariant ∙ mapped_until-next f 0 n c.args.blocks.now (omega arith) c.loop-block-test.true []

pub add_word-requires-clause-dest : goal.add_word-requires-clause-dest
add_word-requires-clause-dest c = subst (λ (l : List ℕ). c.args.dest < length l) (sym (read c)) (c.requires.dest c.loop-block.block [] c.loop-block-test.true)

pub add_word-requires-clause-src : goal.add_word-requires-clause-src
add_word-requires-clause-src c = subst (λ (l : List ℕ). c.args.src < length l) (sym (read c)) (c.requires.src c.loop-block.block [] c.loop-block-test.true)

pub loop-block-preserved : goal.loop-block-preserved
loop-block-preserved c =
    let f : List ℕ → List ℕ = λ block. with_word_added block c.args.dest c.args.src in
    let blocks = c.args.blocks.now in
    let items = c.loop-block.blocks in
    let n = c.loop-block.block in
    ap (set items n) (c.add_word.ensures ∙ ap f (read (goal.at.loop-block-preserved c).After-index-blocks-block))
    ∙ ap (λ l. set l n (f (get_or blocks n []))) c.loop-block.invariant
    ∙ mapped_until-more f 0 n blocks (omega arith) c.loop-block-test.true []
