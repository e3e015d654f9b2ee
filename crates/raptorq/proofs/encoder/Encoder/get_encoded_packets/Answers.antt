use Rattle.std.proofs.Common.{◌≡◌, ◌+◌, ◌-◌, ◌<◌, ◌++◌, length, Result, Ok, sym, ap, ◌∙◌, arith}
use Rattle.std.proofs.lemmas.List.{map-id}
use Rattle.std.specs.declared.alloc.AllocError.{AllocError}
use Rattle.std.proofs.lemmas.Iterator.Adapters.{YieldsList-from_vec, fact_from_extend}
use Rattle.rq_standard.specs.Cutting.{block_symbols}
use Rattle.rq_standard.proofs.BlockCuts.{first_is_largest}
use Rattle.rq_block.specs.SourceBlockEncoder.{block_encoded_of}
use Rattle.raptorq.specs.Encoder.{encoded_of}
use Rattle.raptorq.proofs.EncodedBlocks.{encoder_number, source_count, encoded_more, encoded_all, enough_ids, block_at}
use Rattle.rq_block.proofs.Numbered.{IsTurn, turn_of, length-numbered, mapped_at, numbered_at}
use Rattle.raptorq.proofs.encoder.Encoder.get_encoded_packets.Goals as goal
use Rattle.raptorq.proofs.encoder.Encoder.get_encoded_packets.Goals.{After-source_symbol_count}

abbrev all_taken : Unit {0} → Result (Unit {0}) AllocError
all_taken u = Ok u

-- the block of this turn is its encoder's, and has the symbols of its number
module _ (c : After-source_symbol_count) where
  turn : IsTurn c.args.self.now.blocks.items c.loop-block.block-index c.block-item.result
  turn = turn_of c.args.self.now.blocks.items _ _ _ c.deref-block-items.ensures.value c.loop-block-test.true c.block-item.is

  within : c.loop-block.block-index < c.args.self.now.config.source_blocks
  within = omega (arith, turn.below, length-numbered encoder_number c.args.self.now.config.source_blocks c.args.self.now.blocks.items c.args.self.now.numbered)

  count : source_count c.block-item.result ≡ block_symbols c.args.self.now.config c.loop-block.block-index
  count = mapped_at source_count (block_symbols c.args.self.now.config) c.args.self.now.config.source_blocks c.args.self.now.blocks.items c.args.self.now.counted _ _ within turn.is

pub packets-requires-clause-ids : goal.packets-requires-clause-ids
packets-requires-clause-ids c =
    let at = (goal.at.packets-requires-clause-ids c).After-source_symbol_count in
    omega (arith, c.source_symbol_count.ensures, count at, first_is_largest c.args.self.now.config c.loop-block.block-index (within at), enough_ids c.args.self.now.config c.args.repair_packets_per_block (sym c.in_ok-check_repair.ensures))

pub loop-block-preserved : goal.loop-block-preserved
loop-block-preserved c =
    let at = (goal.at.loop-block-preserved c).After-source_symbol_count in
    let s = c.args.self.now in
    let items = s.blocks.items in
    let x = c.block-item.result in
    let n = c.loop-block.block-index in
    let more = c.in_ok-packets.field-0.items in
    let grown : c.extend.new.self.items ≡ c.loop-block.packets.items ++ more = fact_from_extend (λ p. p) (all_taken c.in_ok-extend.field-0) c.in_ok-extend.ensures.ran (λ it made. YieldsList-from_vec more made.0 (made.1 ∙ c.in_ok-packets.field-0.ok.0))
    (λ xs are grows. grows.0 ∙ ap (λ l. c.loop-block.packets.items ++ l) (sym (map-id xs) ∙ are)) in
    encoded_more (encoded_of s) c.args.repair_packets_per_block n (c.source_symbol_count.result + c.args.repair_packets_per_block - 0) (block_encoded_of x) c.loop-block.packets.items more c.extend.new.self.items (within at)
    (block_at s.config items n x (turn at).below (turn at).is) (numbered_at encoder_number s.config.source_blocks items s.numbered n x (within at) (turn at).is) (count at) (omega (arith, c.source_symbol_count.ensures)) c.loop-block.invariant c.in_ok-packets.ensures.packets grown

pub returns-clause-packets : goal.returns-clause-packets
returns-clause-packets c =
    let s = c.args.self.now in
    encoded_all (encoded_of s) c.args.repair_packets_per_block c.loop-block.block-index c.loop-block.packets.items
    (omega (arith, c.loop-block-test.false, c.loop-block.auto.block-index-end, ap length c.deref-block-items.ensures.value, length-numbered encoder_number s.config.source_blocks s.blocks.items s.numbered)) c.loop-block.invariant
