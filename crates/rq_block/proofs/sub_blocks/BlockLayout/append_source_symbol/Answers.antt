use Rattle.std.proofs.Common.{◌≡◌, ◌+◌, ◌*◌, ◌<◌, ◌≤◌, ◌++◌, append-nil, append_assoc, map, get_or, refl, sym, ap, ◌∙◌, arith}
use Rattle.std.specs.List.{range_with_len}
use Rattle.rq_standard.specs.Cutting.{place_in_block, symbol_of_block}
use Rattle.rq_block.proofs.Interleaving.{reaches_none, reaches_more, symbol_more, place_fits, width_within}
use Rattle.rq_block.proofs.sub_blocks.BlockLayout.append_source_symbol.Goals as goal
use Rattle.rq_block.proofs.sub_blocks.BlockLayout.append_source_symbol.Goals.{After-sub_block_size-width}

module _ (c : After-sub_block_size-width) where
  -- the sub-block has bytes, and ends within the symbol
  within : (0 < c.sub_block_size-width.result) × (c.loop-start.start + c.sub_block_size-width.result ≤ c.from-size.result)
  within = width_within c.args.self.now.config c.loop-start.start c.sub_block_size-width.result c.from-size.result c.args.self.now.aligned c.loop-start.invariant.at c.loop-start-test.true (c.from-size.ensures ∙ c.symbol_size.ensures) c.sub_block_size-width.ensures

  fits : c.loop-start.start * c.args.self.now.source_symbols + c.sub_block_size-width.result * c.args.e + c.sub_block_size-width.result < 18446744073709551616
  fits = place_fits c.loop-start.start c.sub_block_size-width.result c.args.self.now.source_symbols c.args.e c.from-size.result within.1 (omega (arith, c.from-size.ensures, c.symbol_size.type_inv)) (omega arith) c.ranges.e.fits

pub loop-start-init : goal.loop-start-init
loop-start-init c = record { at = reaches_none c.args.self.now.config c.args.self.now.aligned; so_far = sym (append-nil c.args.bytes.now.items) }

pub overflow_mul-place-in-loop-start : goal.overflow_mul-place-in-loop-start
overflow_mul-place-in-loop-start c = omega (arith, fits (goal.at.overflow_mul-place-in-loop-start c).After-sub_block_size-width)

pub overflow_add-place : goal.overflow_add-place
overflow_add-place c = omega (arith, fits (goal.at.overflow_add-place c).After-sub_block_size-width)

pub append_padded-requires-clause-place : goal.append_padded-requires-clause-place
append_padded-requires-clause-place c = omega (arith, fits (goal.at.append_padded-requires-clause-place c).After-sub_block_size-width)

pub append_padded-requires-clause-room : goal.append_padded-requires-clause-room
append_padded-requires-clause-room c =
    let w = within (goal.at.append_padded-requires-clause-room c).After-sub_block_size-width in
    omega (arith, c.loop-start.bytes.ok.1, c.loop-start.bytes.small, w.1, c.from-size.ensures, c.symbol_size.type_inv)

pub overflow_add-start : goal.overflow_add-start
overflow_add-start c = omega (arith, (within (goal.at.overflow_add-start c).After-sub_block_size-width).1)

pub loop-start-smaller : goal.loop-start-smaller
loop-start-smaller c = omega (arith, (within (goal.at.loop-start-smaller c).After-sub_block_size-width).0, (within (goal.at.loop-start-smaller c).After-sub_block_size-width).1)

pub loop-start-preserved : goal.loop-start-preserved
loop-start-preserved c =
    let at = c.loop-start.invariant.at in
    let k = c.args.self.now.config in
    let place = c.loop-start.start * c.args.self.now.source_symbols + c.sub_block_size-width.result * c.args.e in
    let below : c.loop-start.start < k.symbol_size = omega (arith, c.loop-start-test.true, c.from-size.ensures, c.symbol_size.ensures) in
    record {
      at = reaches_more k c.loop-start.start c.sub_block_size-width.result c.args.self.now.aligned at below c.sub_block_size-width.ensures;
      so_far =
          let old = c.args.bytes.now.items in
          let parts = map (λ t. get_or c.args.block.now (place_in_block k c.args.self.now.source_symbols c.args.e t) 0) (range_with_len 0 c.loop-start.start) in
          let part = map (λ i. get_or c.args.block.now (place + i) 0) (range_with_len 0 c.sub_block_size-width.result) in
          c.in_ok-append_padded.ensures.padded
          ∙ ap (λ l. l ++ part) c.loop-start.invariant.so_far
          ∙ append_assoc old parts part
          ∙ ap (λ l. old ++ l) (symbol_more k c.args.self.now.source_symbols c.args.e c.loop-start.start c.sub_block_size-width.result place c.args.block.now parts (parts ++ part) c.args.self.now.aligned at below c.sub_block_size-width.ensures refl refl refl);
    }

pub returns-clause-symbol : goal.returns-clause-symbol
unfolding symbol_of_block
returns-clause-symbol c =
    let k = c.args.self.now.config in
    let all : c.loop-start.start ≡ k.symbol_size = omega (arith, c.loop-start-test.false, c.loop-start.invariant.at.within, c.from-size.ensures, c.symbol_size.ensures) in
    c.loop-start.invariant.so_far ∙ ap (λ n. c.args.bytes.now.items ++ map (λ t. get_or c.args.block.now (place_in_block k c.args.self.now.source_symbols c.args.e t) 0) (range_with_len 0 n)) all
