use Rattle.std.proofs.Common.{◌≡◌, ℕ, ◌<◌, ◌++◌, Bool, true, false, List, length, take, Option, Some, None, Vec, Global, refl, sym, ap, ◌∙◌, subst, arith}
use Rattle.std.specs.Prelude.{is_none, is_some, not, option_map, vec_items, ◌&&◌}
use Rattle.rq_standard.specs.Differences.{AreUnansweredDetermined, IsDifference}
use Rattle.rq_block.specs.SourceBlockDecoder.{received_of}
use Rattle.raptorq.specs.Unanswered.{ShowsUnanswered}
use Rattle.rq_block.specs.Difference.{octets_of_column}
use Rattle.raptorq.specs.Decoder.{state_of, received_at, answer_at}
use Rattle.raptorq.specs.declared.decoder.object.Decoder.{Decoder}
use Rattle.rq_block.proofs.Numbered.{length-numbered, turn_of}
use Rattle.raptorq.proofs.ObjectBlocks.{block_number, received_here, answer_here}
use Rattle.raptorq.proofs.Witnesses.{DifferenceSoFar, nothing_found, one_found, all_determined, some_undetermined, difference_found, received_has_row, block_is_cut}
use Rattle.raptorq.proofs.decoder.object.Decoder.difference.Goals as goal
use Rattle.raptorq.proofs.decoder.object.Decoder.difference.Goals.{After-loop-block, After-truncate}

found : (s : Decoder) (bytes new : List ℕ) → DifferenceSoFar s.config s.blocks.items s.config.source_blocks false bytes → new ≡ take s.config.transfer_length bytes → IsDifference (state_of s) new
found s bytes new so cut =
    subst (IsDifference (state_of s)) (sym cut)
    (difference_found s.config s.blocks.items bytes s.positive s.some s.aligned
    (λ b below. received_has_row s.config s.blocks.items s.numbered s.cut b below)
    (λ b below. block_is_cut s.config s.blocks.items s.numbered s.cut b below)
    so)

-- whether there is a column
told_of : (t : Bool) (o : Option (Vec ℕ Global)) → is_some o ≡ not t → t ≡ is_none (option_map vec_items o)
told_of true None is = refl
told_of false None is = absurd (cc is)
told_of true (Some v) is = absurd (cc is)
told_of false (Some v) is = refl

pub loop-block-init : goal.loop-block-init
loop-block-init c = nothing_found c.args.self.now.config c.args.self.now.blocks.items c.in_ok-bytes.bytes.items c.in_ok-bytes.ensures.items

pub loop-block-preserved : goal.loop-block-preserved
loop-block-preserved c =
    let s = c.args.self.now in
    let items = s.blocks.items in
    let x = c.block-item.result in
    let n = c.loop-block.block-index in
    let t = turn_of items _ n x c.deref-block-items.ensures.value c.loop-block-test.true c.block-item.is in
    let in_object : n < s.config.source_blocks = omega (arith, t.below, length-numbered block_number s.config.source_blocks items s.numbered) in
    let received = received_here s.config items n x t.below t.is in
    let column = option_map vec_items c.in_ok-column.column in
    let shows : ShowsUnanswered (received_at s.config items n) (answer_at items n) column =
    subst (λ h. ShowsUnanswered h (answer_at items n) column) (sym received) (subst (λ a. ShowsUnanswered (received_of x.decoder) a column) (sym (answer_here items n x t.below t.is)) c.in_ok-column.ensures.shown) in
    one_found s.config items n c.loop-block.determined c.loop-block.bytes.items column c.loop-block.invariant shows (c.loop-block.determined && c.is_none.result) c.in_ok-difference.field-0.items c.extend_from_slice.new.self.items
    (ap (λ t. c.loop-block.determined && t) (told_of c.is_none.result c.in_ok-column.column c.is_none.ensures))
    (ap (λ h. h.configuration) received ∙ ap (λ b. (received_of b.decoder).configuration) t.is ∙ s.same n x t.below)
    (block_is_cut s.config items s.numbered s.cut n in_object)
    (c.in_ok-difference.ensures ∙ ap (octets_of_column (received_of x.decoder)) c.as_deref.ensures.value ∙ ap (λ h. octets_of_column h column) (sym received))
    (c.in_ok-extend_from_slice.ensures.items ∙ ap (λ l. c.loop-block.bytes.items ++ l) c.as_slice.ensures.value)

-- the blocks were all taken
module _ (c : After-loop-block) where
  all : c.loop-block.block-index ≡ c.args.self.now.config.source_blocks
  all = omega (arith, c.loop-block-test.false, c.loop-block.auto.block-index-end, ap length c.deref-block-items.ensures.value, length-numbered block_number c.args.self.now.config.source_blocks c.args.self.now.blocks.items c.args.self.now.numbered)

  taken : (t : Bool) → c.loop-block.determined ≡ t → DifferenceSoFar c.args.self.now.config c.args.self.now.blocks.items c.args.self.now.config.source_blocks t c.loop-block.bytes.items
  taken t is =
      let s = c.args.self.now in
      let bytes = c.loop-block.bytes.items in
      subst (λ n. DifferenceSoFar s.config s.blocks.items n t bytes) all (subst (λ d. DifferenceSoFar s.config s.blocks.items c.loop-block.block-index d bytes) is c.loop-block.invariant)

  is_determined : c.loop-block.determined ≡ true → AreUnansweredDetermined (state_of c.args.self.now)
  is_determined is = all_determined c.args.self.now.config c.args.self.now.blocks.items c.loop-block.bytes.items (taken true is)

  undetermined : c.loop-block.determined ≡ false → AreUnansweredDetermined (state_of c.args.self.now) → ⊥
  undetermined is = some_undetermined c.args.self.now.config c.args.self.now.blocks.items c.loop-block.bytes.items (taken false is)

module _ (c : After-truncate) where
  difference : IsDifference (state_of c.args.self.now) c.truncate.new.self.items
  difference = found c.args.self.now c.loop-block.bytes.items _ (taken (goal.at.After-truncate c).After-loop-block false c.if-determined.false) (c.truncate.ensures.items ∙ ap (λ n. take n c.loop-block.bytes.items) c.transfer_length.ensures.value)

pub returns-then-determined-clause-exactly : goal.returns-then-determined-clause-exactly
returns-then-determined-clause-exactly c = (λ _. is_determined (goal.at.returns-then-determined-clause-exactly c).After-loop-block c.if-determined.true, λ _. refl)

pub returns-clause-exactly : goal.returns-clause-exactly
returns-clause-exactly c = (λ none. absurd (cc none), λ determined. absurd (undetermined (goal.at.returns-clause-exactly c).After-loop-block c.if-determined.false determined))

pub returns-clause-bytes : goal.returns-clause-bytes
returns-clause-bytes c = difference (goal.at.returns-clause-bytes c).After-truncate
