use Rattle.std.proofs.Common.{◌≡◌, ℕ, ◌+◌, ◌-◌, ◌*◌, ◌/◌, ◌%◌, ◌^◌, ◌<◌, min, sym, ap, subst, ◌∙◌, arith}
use Rattle.rq_standard.specs.Configuration.{Configuration}
use Rattle.raptorq.specs.Encoder.{encoded_of}
use Rattle.rq_cast.proofs.Groups.{group_within, some_blocks, id_below, block_below}
use Rattle.rq_cast.proofs.sending.Sender.place.Goals as goal
use Rattle.rq_cast.proofs.sending.Sender.place.Goals.{After-from-whole}

module _ (c : After-from-whole) where
  blocks_are : (encoded_of c.args.self.now.encoder).configuration.source_blocks ≡ c.from-blocks.result
  blocks_are = sym (c.from-blocks.ensures ∙ c.source_blocks.ensures ∙ ap (λ (k : Configuration). k.source_blocks) c.get_config.ensures)

  below : c.args.number < c.from-whole.result * c.from-blocks.result
  below = subst (λ n. c.args.number < n) (λ i. sym c.from-whole.ensures i * blocks_are i) c.requires

  -- how many blocks its group has
  some : 0 < min 8 (c.from-blocks.result - 8 * (c.args.number / (8 * c.from-whole.result)))
  some = some_blocks c.from-whole.result c.from-blocks.result c.args.number below

  id_few : (w : ℕ) → w ≡ min 8 (c.from-blocks.result - 8 * (c.args.number / (8 * c.from-whole.result)))
      → c.args.self.now.series.first + c.args.self.now.series.step * (c.args.number % (8 * c.from-whole.result) / w) < 2 ^ 24
  id_few w is =
      let k = c.args.number % (8 * c.from-whole.result) / w in
      let least = id_below c.from-whole.result c.from-blocks.result c.args.number below in
      let few : k < c.args.self.now.series.count = omega (arith, c.from-whole.ensures, least, ap (λ v. c.args.number % (8 * c.from-whole.result) / v) is) in
      c.args.self.now.series.ids k few

  block_few : (w : ℕ) → w ≡ min 8 (c.from-blocks.result - 8 * (c.args.number / (8 * c.from-whole.result)))
      → 8 * (c.args.number / (8 * c.from-whole.result)) + c.args.number % (8 * c.from-whole.result) % w < c.from-blocks.result
  block_few w is =
      let least = block_below c.from-whole.result c.from-blocks.result c.args.number below in
      omega (arith, least, ap (λ v. c.args.number % (8 * c.from-whole.result) % v) is)

pub overflow_sub-blocks : goal.overflow_sub-blocks
overflow_sub-blocks c =
    let moved = (goal.at.overflow_sub-blocks c).After-from-whole in
    omega (arith, group_within c.from-whole.result c.from-blocks.result c.args.number (below moved))

pub nonzero_div-esi : goal.nonzero_div-esi
nonzero_div-esi c = omega (arith, c.min-width.ensures, some (goal.at.nonzero_div-esi c).After-from-whole)

pub overflow_mul-esi : goal.overflow_mul-esi
overflow_mul-esi c = omega (arith, id_few (goal.at.overflow_mul-esi c).After-from-whole c.min-width.result c.min-width.ensures)

pub overflow_add-esi : goal.overflow_add-esi
overflow_add-esi c = omega (arith, id_few (goal.at.overflow_add-esi c).After-from-whole c.min-width.result c.min-width.ensures)

pub nonzero_rem-result : goal.nonzero_rem-result
nonzero_rem-result c = omega (arith, c.min-width.ensures, some (goal.at.nonzero_rem-result c).After-from-whole)

pub overflow_cast-result : goal.overflow_cast-result
overflow_cast-result c =
    let moved = (goal.at.overflow_cast-result c).After-from-whole in
    omega (arith, block_few moved c.min-width.result c.min-width.ensures, c.from-blocks.ensures)

pub returns-clause-known : goal.returns-clause-known
returns-clause-known c =
    let moved = (goal.at.returns-clause-known c).After-from-whole in
    omega (arith, block_few moved c.min-width.result c.min-width.ensures, blocks_are moved)

pub returns-clause-few : goal.returns-clause-few
returns-clause-few c = id_few (goal.at.returns-clause-few c).After-from-whole c.min-width.result c.min-width.ensures
