use Rattle.std.proofs.Common.{◌<◌, length, ◌∙◌, subst, arith}
use Rattle.std.proofs.lemmas.Result.{IfOk-weaker}
use Rattle.rq_bytes.specs.Refusals.{IsAnswer}
use Rattle.raptorq.specs.Encoder.{encoded_of}
use Rattle.rq_block.specs.SourceBlockEncoder.{block_encoded_of}
use Rattle.raptorq.proofs.EncodedBlocks.{encoder_number, block_at, packet_in}
use Rattle.raptorq.proofs.EncodedBlocks.{new_id-in}
use Rattle.rq_block.proofs.Numbered.{length-numbered, numbered_at}
use Rattle.raptorq.proofs.encoder.Encoder.packet.Goals as goal
use Rattle.raptorq.proofs.encoder.Encoder.packet.Goals.{After-from}

-- the object has the block
module _ (c : After-from) where
  below : c.from.result < c.args.self.now.config.source_blocks
  below = omega (arith, c.if-number-source_blocks.false, c.source_block_number-number.ensures, c.source_blocks.ensures, c.from.ensures)

  among : c.from.result < length c.args.self.now.blocks.items
  among = omega (arith, below, length-numbered encoder_number c.args.self.now.config.source_blocks c.args.self.now.blocks.items c.args.self.now.numbered)

pub index-requires : goal.index-requires
index-requires c = let at = (goal.at.index-requires c).After-from in omega (arith, among at, c.args.self.now.blocks.ok.0)

pub returns-clause-id : goal.returns-clause-id
returns-clause-id c =
    let s = c.args.self.now in
    let at = (goal.at.returns-clause-id c).After-from in
    let x = c.index.result.now in
    let number = numbered_at encoder_number s.config.source_blocks s.blocks.items s.numbered c.from.result x (below at) c.index.ensures ∙ c.from.ensures ∙ c.source_block_number-number.ensures in
    subst (IsAnswer (λ p. p.id) c.packet.result) (new_id-in s.config (encoder_number x) c.encoding_symbol_id.result c.args.id (omega (arith, below at, c.from.ensures, c.source_block_number-number.ensures)) c.encoding_symbol_id.ensures.below number c.encoding_symbol_id.ensures.value) c.packet.ensures.id

pub returns-clause-packet : goal.returns-clause-packet
returns-clause-packet c =
    let s = c.args.self.now in
    let at = (goal.at.returns-clause-packet c).After-from in
    let x = c.index.result.now in
    IfOk-weaker c.packet.result _ _ (λ p is. packet_in (encoded_of s) c.from.result (block_encoded_of x) p (below at) (block_at s.config s.blocks.items c.from.result x (among at) c.index.ensures) is) c.packet.ensures.packet
