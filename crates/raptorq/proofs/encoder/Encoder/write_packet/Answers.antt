use Rattle.std.proofs.Common.{◌≡◌, ◌+◌, ◌<◌, length, refl, sym, ap, ◌∙◌, arith}
use Rattle.rq_standard.specs.Packet.{Packet}
use Rattle.rq_block.specs.SourceBlockEncoder.{block_encoded_of}
use Rattle.rq_block.proofs.Numbered.{length-numbered, mapped_at, numbered_at}
use Rattle.raptorq.specs.Encoder.{encoded_of}
use Rattle.raptorq.proofs.EncodedBlocks.{encoder_number, block_at, packet_in}
use Rattle.raptorq.proofs.encoder.Encoder.write_packet.Goals as goal
use Rattle.raptorq.proofs.encoder.Encoder.write_packet.Goals.{After-from}

-- the object has the block
module _ (c : After-from) where
  below : c.from.result < c.args.self.now.config.source_blocks
  below = omega (arith, c.from.ensures, c.requires.block)

  among : c.from.result < length c.args.self.now.blocks.items
  among = omega (arith, below, length-numbered encoder_number c.args.self.now.config.source_blocks c.args.self.now.blocks.items c.args.self.now.numbered)

pub index-requires : goal.index-requires
index-requires c = let at = (goal.at.index-requires c).After-from in omega (arith, among at, c.args.self.now.blocks.ok.0)

pub write_packet-requires-clause-len : goal.write_packet-requires-clause-len
write_packet-requires-clause-len c =
    let s = c.args.self.now in
    let at = (goal.at.write_packet-requires-clause-len c).After-from in
    let x = c.index.result.now in
    c.requires.len ∙ ap (λ n. 4 + n) (sym (mapped_at (λ b. (block_encoded_of b).size) (λ b. s.config.symbol_size) s.config.source_blocks s.blocks.items s.sized c.from.result x (below at) c.index.ensures))

pub returns : goal.returns
returns c =
    let s = c.args.self.now in
    let at = (goal.at.returns c).After-from in
    let x = c.index.result.now in
    let frame = c.write_packet.ensures in
    let number : encoder_number x ≡ c.args.source_block_number = numbered_at encoder_number s.config.source_blocks s.blocks.items s.numbered c.from.result x (below at) c.index.ensures ∙ c.from.ensures in
    let p : Packet = record { id = record { block = encoder_number x; esi = c.args.esi }; payload = frame.payload } in
    record {
      packet = p;
      id = λ i. record { block = number i; esi = c.args.esi };
      of_object = packet_in (encoded_of s) c.from.result (block_encoded_of x) p (below at) (block_at s.config s.blocks.items c.from.result x (among at) c.index.ensures) (record { number = refl; esi = c.requires.id; symbol = frame.symbol });
      long = frame.long ∙ ap (λ n. 4 + n) (mapped_at (λ b. (block_encoded_of b).size) (λ b. s.config.symbol_size) s.config.source_blocks s.blocks.items s.sized c.from.result x (below at) c.index.ensures);
      spelled = frame.spelled;
    }
