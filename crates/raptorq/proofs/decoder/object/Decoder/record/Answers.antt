use Rattle.std.proofs.Common.{◌≡◌, ◌<◌, set, refl, sym, ap, ◌∙◌, subst, arith}
use Rattle.std.proofs.lemmas.Result.{err_from_is_err_and}
use Rattle.rq_block.specs.SourceBlockDecoder.{received_of}
use Rattle.rq_block.proofs.Numbered.{length-numbered, numbered_at}
use Rattle.raptorq.specs.InTurn.{RecordsHere}
use Rattle.raptorq.proofs.InTurn.{records_refused, records_tested}
use Rattle.raptorq.proofs.ObjectBlocks.{AreBlocksOf, block_number, IsBlockOf, block_of_packet, block_takes, blocks_same, changes_block}
use Rattle.raptorq.proofs.decoder.object.Decoder.record.Goals as goal
use Rattle.raptorq.proofs.decoder.object.Decoder.record.Goals.{After-from, After-index_mut}

-- the packet's block number, which is below the number of blocks
module _ (c : After-from) where
  number : c.from.result ≡ c.args.packet.id.block
  number = c.from.ensures ∙ c.source_block_number-number.ensures ∙ ap (λ i. i.block) c.payload_id.ensures

  below : c.from.result < c.args.self.now.config.source_blocks
  below = omega (arith, number, c.in_ok-check_packet.ensures.known)

module _ (c : After-index_mut) where
  block : IsBlockOf c.args.self.now.blocks.items c.args.packet c.from.result c.index_mut.result.now
  block =
      let at = (goal.at.After-index_mut c).After-from in
      block_of_packet c.args.self.now.blocks.items c.args.packet c.args.self.now.config.source_blocks c.from.result c.index_mut.result.now c.args.self.now.numbered (number at) (below at) c.index_mut.ensures.value

pub index_mut-requires : goal.index_mut-requires
index_mut-requires c =
    let s = c.args.self.now in
    let within = below (goal.at.index_mut-requires c).After-from in
    let count = length-numbered block_number s.config.source_blocks s.blocks.items s.numbered in
    omega (arith, within, count, s.blocks.ok.0)

pub record-requires : goal.record-requires
record-requires c =
    let s = c.args.self.now in
    let p = c.args.packet in
    let x = c.index_mut.result.now in
    let at = block (goal.at.record-requires c).After-index_mut in
    let within = below (goal.at.record-requires c).After-from in
    block_takes s.config (received_of x.decoder) p (ap (λ b. (received_of b.decoder).configuration) at.is ∙ s.same p.id.block x at.below) (numbered_at block_number s.config.source_blocks s.blocks.items s.numbered p.id.block x (omega (arith, at.here, within)) at.is) c.in_ok-check_packet.ensures.sized

pub invariant_of-self : goal.invariant_of-self
invariant_of-self c =
    let s = c.args.self.now in
    let x = c.index_mut.result.now in
    let at = block (goal.at.invariant_of-self c).After-index_mut in
    let made = c.record.ensures in
    let blocks = subst (λ i. AreBlocksOf s.config (set s.blocks.items i c.record.new.self)) (sym at.here) (blocks_same s c.args.packet.id.block x c.record.new.self at.below at.is made.number made.configuration made.symbols) in
    record { positive = s.positive; aligned = s.aligned; some = s.some; numbered = blocks.numbered; same = blocks.same; cut = blocks.cut }

pub returns-in_err-check_packet : goal.returns-in_err-check_packet
returns-in_err-check_packet c =
    let p = err_from_is_err_and c.from_residual.result c.from_residual.ensures.1 in
    rw (p.1, p.2) (records_refused c.args.self.now c.args.packet c.in_err-check_packet.field-0.0 (sym c.in_err-check_packet.ensures.tests))

pub returns : goal.returns
returns c =
    let s = c.args.self.now in
    let p = c.args.packet in
    let at = block (goal.at.returns c).After-index_mut in
    record {
      tested = records_tested c.record.result _ (sym c.in_ok-check_packet.ensures.tests) c.record.ensures.memory;
      block = changes_block s _ p.id.block c.index_mut.result.now c.record.new.self at.below at.is refl (ap (λ i. set s.blocks.items i c.record.new.self) at.here) (RecordsHere p c.record.result) c.record.ensures.records;
    }
