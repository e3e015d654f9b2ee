-- What a sender wrote is what a receiver takes, with any frames removed, repeated or moved, and nothing of it is skipped.
use Rattle.std.specs.Prelude.{◌≡◌, ℕ, ◌<◌, ◌^◌, List, [], Some, Ok, Contains}
use Rattle.std.specs.List.{AllByRecursion}
use Rattle.rq_standard.specs.declared.row.TableRow.{TableRow}
use Rattle.rq_standard.specs.TableRows.{IsTable}
use Rattle.rq_standard.specs.Packet.{Packet}
use Rattle.rq_standard.specs.Configuration.{Configuration}
use Rattle.rq_standard.specs.ObjectPackets.{AreEncoded}
use Rattle.rq_standard.specs.Streams.{stream_of}
use Rattle.rq_streams.specs.ReceivedStreams.{IsStreamOf}
use Rattle.rq_streams.specs.MixedStreams.{Frame, packets_among, other_count, IsMixedStream}
use Rattle.rq_streams.specs.Sent.{IsSent}

-- A stream of an object's packets, each frame of which a receiver takes: any list of its packets is a stream of the object.
pub record IsSentStream (table : List TableRow) (repair : ℕ) (object stream : List ℕ) : Type 0 where
  pub configuration : Configuration
  pub packets : List Packet
  pub encoded : AreEncoded table configuration object repair packets
  pub whole : stream ≡ stream_of configuration packets
  pub taken : (some : List Packet) → AllByRecursion (Contains packets) some → IsStreamOf table configuration object some (stream_of configuration some)

abbrev pub SentStreamsAreTaken : Type 0
SentStreamsAreTaken =
    (table : List TableRow) (packet_size repair : ℕ) (object stream : List ℕ) → IsTable table
    → packet_size < 2 ^ 16 → IsSent table packet_size repair object (Ok (Some stream)) → IsSentStream table repair object stream

-- A stream of an object's packets is a mixed stream of these packets, in which nothing is skipped.
pub record IsUnmixed (table : List TableRow) (c : Configuration) (object : List ℕ) (packets : List Packet) (bytes : List ℕ) : Type 0 where
  pub frames : List Frame
  pub mixed : IsMixedStream table c object frames [] bytes
  pub same : packets_among frames ≡ packets
  pub none : other_count frames [] ≡ 0

abbrev pub StreamsAreUnmixed : Type 0
StreamsAreUnmixed =
    (table : List TableRow) (c : Configuration) (object : List ℕ) (packets : List Packet) (bytes : List ℕ)
    → IsStreamOf table c object packets bytes → IsUnmixed table c object packets bytes
