use Rattle.std.proofs.Common.{◌≡◌, ◌<◌, ◌≤◌, ◌+◌, ◌^◌, length, sym, ap, ◌∙◌, subst, arith}
use borrow.Author.Count.{below_more}
use Rattle.std.proofs.lemmas.List.FromFn.{length-map-range_with_len}
use Rattle.std.proofs.lemmas.Result.{err_from_is_err_and}
use Rattle.rq_standard.specs.Headline.{block_row, IsNonsingular}
use Rattle.rq_standard.proofs.BlockCuts.{first_is_largest}
use Rattle.rq_standard.specs.Cutting.{block_symbols, symbol_of_block}
use Rattle.rq_block.specs.BlockData.{block_by_plan}
use Rattle.rq_block.specs.BorrowedBlock.{borrowed_of}
use Rattle.rq_block.specs.SourceBlockEncoder.{BlockEncoded}
use Rattle.rq_block.specs.SourceBlockEncodingPlan.{plan_of}
use Rattle.rq_block.proofs.AppendedPackets.{extends_more}
use Rattle.raptorq.specs.BlockCutting.{CutsBlock}
use Rattle.raptorq.proofs.AppendedBlocks.{so_far-all, so_far-extends, so_far-more}
use Rattle.raptorq.proofs.EncodedBlocks.{enough_ids}
use Rattle.raptorq.proofs.encoder.frames.append_blocks.Goals as goal
use Rattle.raptorq.proofs.encoder.frames.append_blocks.Goals.{After-source_symbol_count}

pub returns-in_err-block-clause-begun : goal.returns-in_err-block-clause-begun
returns-in_err-block-clause-begun c =
    let v = c.loop-number.invariant in
    let p = err_from_is_err_and c.from_residual.result c.from_residual.ensures.1 in
    rw p.1 (so_far-extends c.args.blocks c.loop-number.blocks c.args.repair c.loop-number.number c.args.bytes.now.items c.loop-number.bytes.items v.appends)

pub returns-in_err-borrowed-clause-begun : goal.returns-in_err-borrowed-clause-begun
returns-in_err-borrowed-clause-begun c =
    let v = c.loop-number.invariant in
    let p = err_from_is_err_and c.from_residual-in_err-borrowed.result c.from_residual-in_err-borrowed.ensures.1 in
    rw p.1 (so_far-extends c.args.blocks c.loop-number.blocks c.args.repair c.loop-number.number c.args.bytes.now.items c.loop-number.bytes.items v.appends)

module _ (c : After-source_symbol_count) where
  ends : c.source_symbol_count.result + c.args.repair ≤ 2 ^ 24
  ends =
      let config = c.args.blocks.config.now in
      let n = c.loop-number.number in
      let within : n < config.source_blocks = omega (arith, c.loop-number-test.true, c.source_blocks-count.ensures) in
      let next = c.next_block.new.self in
      let count = (plan_of next.plan).count in
      let symbols : length (borrowed_of c.in_ok-borrowed.borrowed).source ≡ block_symbols config n =
      ap (λ (k : BlockEncoded). length k.source) c.in_ok-borrowed.ensures
      ∙ length-map-range_with_len (symbol_of_block next.config.now count c.in_ok-block.block.now) 0 count
      ∙ c.in_ok-block.ensures.count
      ∙ (λ i. block_symbols (c.loop-number.invariant.config i).now n) in
      omega (arith, c.source_symbol_count.ensures, symbols, first_is_largest config n within, enough_ids config c.args.repair c.requires)

pub overflow_add-source_symbol_count : goal.overflow_add-source_symbol_count
overflow_add-source_symbol_count c = record { fits = omega (arith, ends c) }

pub append_packets-requires : goal.append_packets-requires
append_packets-requires c = ends (goal.at.append_packets-requires c).After-source_symbol_count

pub returns-in_err-append_packets-clause-begun : goal.returns-in_err-append_packets-clause-begun
returns-in_err-append_packets-clause-begun c =
    let v = c.loop-number.invariant in
    let old = c.args.bytes.now.items in
    let cur = c.loop-number.bytes.items in
    let p = err_from_is_err_and c.from_residual-in_err-append_packets.result c.from_residual-in_err-append_packets.ensures.1 in
    rw p.1 (extends_more old cur c.append_packets.new.bytes.items (so_far-extends c.args.blocks c.loop-number.blocks c.args.repair c.loop-number.number old cur v.appends) c.in_err-append_packets.ensures.begun)

pub loop-number-preserved : goal.loop-number-preserved
loop-number-preserved c =
    let v = c.loop-number.invariant in
    let start = c.args.blocks in
    let n = c.loop-number.number in
    let old = c.loop-number.blocks in
    let new = c.next_block.new.self in
    let b = borrowed_of c.in_ok-borrowed.borrowed in
    let next = c.next_block.ensures in
    let is : b ≡ block_by_plan (plan_of new.plan) old.config.now n c.in_ok-block.block.now =
    c.in_ok-borrowed.ensures ∙ (λ i. block_by_plan (plan_of new.plan) (next.config i).now n c.in_ok-block.block.now) in
    let cuts : CutsBlock n old b new = subst (λ k. CutsBlock n old k new) (sym is) c.in_ok-block.ensures.cut in
    let within : n < start.config.now.source_blocks = omega (arith, c.loop-number-test.true, c.source_blocks-count.ensures) in
    record {
      table = next.table ∙ v.table;
      config = next.config ∙ v.config;
      appends = so_far-more start old new c.args.repair n (c.source_symbol_count.result + c.args.repair) b c.args.bytes.now.items c.loop-number.bytes.items c.append_packets.new.bytes.items
          v.table v.config within (ap (λ m. m + c.args.repair) c.source_symbol_count.ensures) v.appends cuts c.in_ok-append_packets.ensures.packets;
      nonsingular = below_more (λ k. IsNonsingular (block_row start.table.now start.config.now k)) n v.nonsingular (rw (v.table, v.config) at c.in_ok-block.ensures.nonsingular);
    }

pub returns-clause-packets : goal.returns-clause-packets
returns-clause-packets c =
    let all : c.loop-number.number ≡ c.args.blocks.config.now.source_blocks = omega (arith, c.loop-number-test.false, c.loop-number.auto, c.source_blocks-count.ensures) in
    so_far-all c.args.blocks c.loop-number.blocks c.args.repair c.loop-number.number c.args.bytes.now.items c.loop-number.bytes.items all c.loop-number.invariant.appends

pub returns-clause-nonsingular : goal.returns-clause-nonsingular
returns-clause-nonsingular c = λ b below. c.loop-number.invariant.nonsingular b (omega (arith, below, c.loop-number-test.false, c.source_blocks-count.ensures))
