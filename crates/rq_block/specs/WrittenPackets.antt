-- Bytes of packets of a block, written over others.
use Rattle.std.specs.Prelude.{◌≡◌, ℕ, ◌+◌, List, length}
use Rattle.rq_bytes.specs.Ranges.{with_range}
use Rattle.rq_standard.specs.Headline.{IsEncodingSymbol}
use Rattle.rq_standard.specs.Packet.{Packet, packet_bytes}
use Rattle.rq_standard.specs.Streams.{frames_of}
use Rattle.rq_block.specs.SourceBlockEncoder.{BlockEncoded, AreBlockPackets}

-- bytes are the packet of an encoding symbol id of a block
pub record IsFrame (b : BlockEncoded) (esi : ℕ) (bytes : List ℕ) : Type 0 where
  pub payload : List ℕ
  pub symbol : IsEncodingSymbol b.row b.size b.source esi payload
  pub long : length bytes ≡ 4 + b.size
  pub spelled : bytes ≡ packet_bytes (record { id = record { block = b.number; esi = esi }; payload = payload })

-- they stand in the place of others
pub record WritesFrame (b : BlockEncoded) (esi place : ℕ) (before after : List ℕ) : Type 0 where
  pub bytes : List ℕ
  pub frame : IsFrame b esi bytes
  pub written : after ≡ with_range before place bytes

-- bytes are the packets of a block with `count` ids from one on, one behind another
pub record AreStretchBytes (b : BlockEncoded) (first count : ℕ) (bytes : List ℕ) : Type 0 where
  pub packets : List Packet
  pub are : AreBlockPackets b first count packets
  pub spelled : bytes ≡ frames_of packets
