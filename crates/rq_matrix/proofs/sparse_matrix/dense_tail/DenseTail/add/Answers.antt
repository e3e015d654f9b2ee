-- What the check leaves to show of `sparse_matrix::dense_tail::DenseTail::add`.
use Rattle.std.proofs.Common.{◌≡◌, ℕ, List, map, ap, sym, subst, ◌∙◌}
use Rattle.std.specs.Vec.{with_items}
use Rattle.std.proofs.lemmas.List.{with_items_is}
use Rattle.rq_matrix.specs.DenseTails.{with_word_added, Tail, IsTail, AddsTailRow}
use Rattle.rq_matrix.proofs.DenseTailLaws.{tail_added, tail_adds, tail_added_is}
use Rattle.rq_matrix.proofs.sparse_matrix.dense_tail.DenseTail.add.Goals as goal
use Rattle.rq_matrix.proofs.sparse_matrix.dense_tail.DenseTail.add.Goals.{After-self-1}

module _ (c : After-self-1) where
  inside : ◌≡◌ {A = Tail} (record { rows = c.self.inside.rows; columns = c.self.inside.columns; blocks = c.self.inside.blocks.items }) c.args.self.now
  inside = c.self.view_is

  is : IsTail c.args.self.now
  is = subst IsTail inside c.self.invariant

  now : ◌≡◌ {A = Tail} (tail_added c.args.self.now c.args.dest c.args.src) (record { rows = c.self.inside.rows; columns = c.self.inside.columns; blocks = (with_items c.self.inside.blocks c.add_words.new.blocks).items })
  now =
      let blocks = c.self.inside.blocks in
      let items = with_items_is blocks c.add_words.new.blocks (c.add_words.auto.blocks ∙ c.as_mut_slice.ensures.len) ∙ c.add_words.ensures ∙ ap (map (λ block. with_word_added block c.args.dest c.args.src)) c.as_mut_slice.ensures.value in
      ap (λ (t : Tail). tail_added t c.args.dest c.args.src) (sym inside)
      ∙ ap (λ (bs : List (List ℕ)). let t : Tail = record { rows = c.self.inside.rows; columns = c.self.inside.columns; blocks = bs } in t) (sym items)

pub invariant_of-self : goal.invariant_of-self
invariant_of-self c = subst IsTail (now c) (tail_added_is c.args.self.now (is c) c.args.dest c.args.src c.requires.dest c.requires.src)

pub returns : goal.returns
returns c = subst (AddsTailRow c.args.self.now c.args.dest c.args.src) (now c) (tail_adds c.args.self.now (is c) c.args.dest c.args.src c.requires.dest c.requires.src)
