-- What is appended to bytes of an object: its packets as frames.
use Rattle.std.specs.Prelude.{◌≡◌, ℕ, List, ◌++◌, length, Ok, Err}
use Rattle.rq_bytes.specs.declared.error.Error.{Error}
use Rattle.rq_standard.specs.declared.row.TableRow.{TableRow}
use Rattle.rq_standard.specs.Configuration.{Configuration}
use Rattle.rq_standard.specs.Headline.{HasNonsingularRows}
use Rattle.rq_standard.specs.ObjectPackets.{AreEncoded}
use Rattle.rq_standard.specs.Packet.{Packet}
use Rattle.rq_standard.specs.Streams.{frames_of}
use Rattle.rq_standard.specs.TableRows.{greatest_size}
use Rattle.raptorq.specs.Encoder.{packets_refusal}
use Rattle.raptorq.specs.Refused.{new_encoder, RefusesEncoder}

-- the packets of an object, with `repair` repair packets a block, stand behind bytes
pub record AppendsObject (table : List TableRow) (c : Configuration) (object : List ℕ) (repair : ℕ) (old new : List ℕ) : Type 0 where
  pub taken : new_encoder (greatest_size table) c (length object) ≡ Ok tt
  pub nonsingular : HasNonsingularRows table c
  pub enough : packets_refusal c repair ≡ Ok tt
  pub packets : List Packet
  pub encoded : AreEncoded table c object repair packets
  pub grown : new ≡ old ++ frames_of packets

-- why an object's packets are refused: for what the object's encoder is refused for, and then more packets than there are ids
pub data RefusesPackets (table : List TableRow) (c : Configuration) (bytes repair : ℕ) (e : Error) : Type 0 where
  no_encoder : RefusesEncoder table c bytes e → RefusesPackets table c bytes repair e
  too_many : new_encoder (greatest_size table) c bytes ≡ Ok tt → HasNonsingularRows table c
      → packets_refusal c repair ≡ Err e → RefusesPackets table c bytes repair e
