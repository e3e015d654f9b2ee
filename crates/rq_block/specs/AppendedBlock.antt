-- What is appended to bytes of a block: symbols, and packets as frames.
use Rattle.std.specs.Prelude.{◌≡◌, ℕ, List, ◌++◌}
use Rattle.rq_standard.specs.Headline.{IsEncodingSymbol}
use Rattle.rq_standard.specs.Packet.{Packet}
use Rattle.rq_standard.specs.Streams.{frames_of}
use Rattle.rq_block.specs.SourceBlockEncoder.{BlockEncoded, AreBlockPackets}

-- bytes stay, with others behind them
pub record KeepsFront (old new : List ℕ) : Type 0 where
  pub more : List ℕ
  pub grown : new ≡ old ++ more

-- the encoding symbol of an id of a block stands behind bytes
pub record AppendsSymbol (b : BlockEncoded) (esi : ℕ) (old new : List ℕ) : Type 0 where
  pub payload : List ℕ
  pub symbol : IsEncodingSymbol b.row b.size b.source esi payload
  pub grown : new ≡ old ++ payload

-- the packets of the first n ids of a block stand behind bytes
pub record AppendsBlock (b : BlockEncoded) (n : ℕ) (old new : List ℕ) : Type 0 where
  pub packets : List Packet
  pub are : AreBlockPackets b 0 n packets
  pub grown : new ≡ old ++ frames_of packets
