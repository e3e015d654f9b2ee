use Rattle.std.proofs.Common.{◌≡◌, ◌+◌, ◌*◌, ◌<◌, ◌≤◌, ap, ◌∙◌, arith}
use Rattle.rq_block.specs.SourceSymbols.{source_symbol}
use Rattle.rq_block.proofs.Interleaving.{reaches_none, reaches_more, width_within, parts_none, parts_more, parts_all}
use Rattle.rq_block.proofs.sub_blocks.BlockLayout.block_of_symbols.Goals as goal
use Rattle.rq_block.proofs.sub_blocks.BlockLayout.block_of_symbols.Goals.{After-loop-start, After-sub_block_size-width}

pub loop-start-init : goal.loop-start-init
loop-start-init c = record { at = reaches_none c.args.self.now.config c.args.self.now.aligned; so_far = parts_none c.args.self.now.config c.args.self.now.source_symbols (source_symbol c.args.symbols.now) c.args.room.items c.requires.empty }

module _ (c : After-sub_block_size-width) where
  -- the sub-block has bytes, and ends within the symbol
  within : (0 < c.sub_block_size-width.result) × (c.loop-start.start + c.sub_block_size-width.result ≤ c.from-size.result)
  within = width_within c.args.self.now.config _ _ _ c.args.self.now.aligned c.loop-start.invariant.at c.loop-start-test.true (c.from-size.ensures ∙ c.symbol_size.ensures) c.sub_block_size-width.ensures

pub overflow_add-start : goal.overflow_add-start
overflow_add-start c = omega (arith, (within (goal.at.overflow_add-start c).After-sub_block_size-width).1)

pub append_sub_block-requires-clause-within : goal.append_sub_block-requires-clause-within
append_sub_block-requires-clause-within c = omega (arith, (within (goal.at.append_sub_block-requires-clause-within c).After-sub_block_size-width).1, c.from-size.ensures, c.symbol_size.ensures)

pub loop-start-smaller : goal.loop-start-smaller
loop-start-smaller c =
    let w = within (goal.at.loop-start-smaller c).After-sub_block_size-width in
    omega (arith, w.0, w.1)

pub loop-start-preserved : goal.loop-start-preserved
loop-start-preserved c =
    let k = c.args.self.now.config in
    let v = c.loop-start.invariant in
    let below : c.loop-start.start < k.symbol_size = omega (arith, c.loop-start-test.true, c.from-size.ensures, c.symbol_size.ensures) in
    record {
      at = reaches_more k c.loop-start.start c.sub_block_size-width.result c.args.self.now.aligned v.at below c.sub_block_size-width.ensures;
      so_far = parts_more k c.args.self.now.source_symbols c.loop-start.start c.sub_block_size-width.result (source_symbol c.args.symbols.now) c.loop-start.block.items c.append_sub_block.new.block.items
          c.args.self.now.aligned v.at below c.sub_block_size-width.ensures c.requires.symbols v.so_far c.in_ok-append_sub_block.ensures;
    }

module _ (c : After-loop-start) where
  all : c.loop-start.start ≡ c.args.self.now.config.symbol_size
  all = omega (arith, c.loop-start-test.false, c.loop-start.invariant.at.within, c.from-size.ensures, c.symbol_size.ensures)

pub returns-clause-long : goal.returns-clause-long
returns-clause-long c = omega (arith, c.loop-start.invariant.so_far.long, ap (λ n. n * c.args.self.now.source_symbols) (all (goal.at.returns-clause-long c).After-loop-start))

pub returns-clause-each : goal.returns-clause-each
returns-clause-each c =
    parts_all c.args.self.now.config c.args.self.now.source_symbols c.loop-start.start (source_symbol c.args.symbols.now) c.loop-start.block.items (all (goal.at.returns-clause-each c).After-loop-start) c.requires.symbols c.loop-start.invariant.so_far
