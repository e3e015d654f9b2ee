-- The packets of an object's blocks, appended to bytes block by block.
use Rattle.std.proofs.Common.{◌≡◌, ℕ, ◌+◌, ◌<◌, List, ◌++◌, length, refl, sym, ap, ◌∙◌, append_assoc}
use Rattle.std.proofs.lemmas.List.Concat.{flat_map-append}
use Rattle.rq_standard.specs.declared.row.TableRow.{TableRow}
use Rattle.rq_standard.specs.Configuration.{Configuration}
use Rattle.rq_standard.specs.Packet.{Packet, packet_bytes}
use Rattle.rq_standard.specs.Streams.{frames_of}
use Rattle.rq_standard.proofs.StandingSteps.{length-block_source}
use Rattle.rq_block.specs.AppendedBlock.{AppendsBlock, KeepsFront}
use Rattle.raptorq.specs.BlockCutting.{AppendsBlocks, CutsBlock, StandsBefore}
use Rattle.raptorq.specs.Encoder.{Encoded}
use Rattle.raptorq.specs.BlocksEncoded.{new_block_encoded}
use Rattle.rq_block.specs.SourceBlockEncoder.{BlockEncoded}
use Rattle.raptorq.specs.declared.encoder.blockwise_encoder.BlockwiseEncoder.{BlockwiseEncoder}
use Rattle.raptorq.proofs.EncodedBlocks.{AreEncodedSoFar, encoded_all, encoded_more}

-- ---- block after block

-- the encoder of an object, by what is encoded of its blocks
abbrev pub new_encoded : List TableRow → Configuration → List ℕ → Encoded
new_encoded table c object = record { configuration = c; block = new_block_encoded table c object }

-- the packets of the first n blocks stand behind bytes, and the others are left
pub record AppendsBlocksSoFar (start : BlockwiseEncoder) (repair n : ℕ) (blocks : BlockwiseEncoder) (old new : List ℕ) : Type 0 where
  pub packets : List Packet
  pub grown : new ≡ old ++ frames_of packets
  pub encoded : (object : List ℕ) → StandsBefore object 0 start → AreEncodedSoFar start.config.now repair n (new_encoded start.table.now start.config.now object) packets
  pub left : (object : List ℕ) → StandsBefore object 0 start → StandsBefore object n blocks

pub so_far-more : (start old_blocks new_blocks : BlockwiseEncoder) (repair n end : ℕ) (b : BlockEncoded) (old cur new : List ℕ) → old_blocks.table ≡ start.table → old_blocks.config ≡ start.config → n < start.config.now.source_blocks
    → end ≡ length b.source + repair → AppendsBlocksSoFar start repair n old_blocks old cur → CutsBlock n old_blocks b new_blocks → AppendsBlock b end cur new → AppendsBlocksSoFar start repair (n + 1) new_blocks old new
so_far-more start old_blocks new_blocks repair n end b old cur new table config below so_many so cuts more = record {
  packets = so.packets ++ more.packets;
  grown = more.grown ∙ ap (λ xs. xs ++ frames_of more.packets) so.grown ∙ append_assoc old (frames_of so.packets) (frames_of more.packets) ∙ ap (λ xs. old ++ xs) (sym (flat_map-append packet_bytes so.packets more.packets));
  encoded = λ object stands.
      let c = start.config.now in
      let is : b ≡ new_block_encoded start.table.now c object n = (cuts object (so.left object stands)).0 ∙ (λ i. new_block_encoded (table i).now (config i).now object n) in
      encoded_more (new_encoded start.table.now c object) repair n end b so.packets more.packets (so.packets ++ more.packets) below is (ap (λ k. k.number) is)
      (ap (λ k. length k.source) is ∙ length-block_source c object n) so_many (so.encoded object stands) more.are refl;
  left = λ object stands. (cuts object (so.left object stands)).1;
}

pub so_far-all : (start blocks : BlockwiseEncoder) (repair n : ℕ) (old new : List ℕ) → n ≡ start.config.now.source_blocks → AppendsBlocksSoFar start repair n blocks old new → AppendsBlocks start repair old new
so_far-all start blocks repair n old new all so = record {
  packets = so.packets;
  grown = so.grown;
  encoded = λ object long stands. encoded_all (new_encoded start.table.now start.config.now object) repair n so.packets all (so.encoded object stands) start.table.now object (record { long = long; block = λ b below. refl });
}

-- ---- bytes with others behind them

pub so_far-extends : (start blocks : BlockwiseEncoder) (repair n : ℕ) (old new : List ℕ) → AppendsBlocksSoFar start repair n blocks old new → KeepsFront old new
so_far-extends start blocks repair n old new so = record { more = frames_of so.packets; grown = so.grown }
