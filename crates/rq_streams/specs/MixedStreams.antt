-- Streams in which other frames stand among the packets of an object.
use Rattle.std.specs.Prelude.{◌≡◌, ℕ, ◌+◌, ◌<◌, ◌≤◌, List, [], ◌∷◌, ◌++◌, length, flat_map, slice_index}
use Rattle.std.specs.List.{AllByRecursion}
use Rattle.rq_standard.specs.declared.row.TableRow.{TableRow}
use Rattle.rq_standard.specs.TableRows.{IsTable, greatest_size}
use Rattle.rq_standard.specs.Packet.{Packet, packet_bytes}
use Rattle.rq_standard.specs.Configuration.{Configuration, IsConfiguration, IsAccepted}
use Rattle.rq_standard.specs.Headline.{IsHonestRun}
use Rattle.rq_standard.specs.Streams.{frame_size}
use Rattle.rq_streams.specs.Frames.{header_length, configuration_in, bytes_of_frames}

-- a frame of a packet, or other bytes in its place
pub data Frame : Type 0 where
  Holds : Packet → Frame
  Other : List ℕ → Frame

abbrev pub frame_bytes : Frame → List ℕ
frame_bytes (Holds p) = packet_bytes p
frame_bytes (Other bytes) = bytes

-- the packets among some frames
abbrev pub packets_among : List Frame → List Packet
packets_among [] = []
packets_among (Holds p ∷ frames) = p ∷ packets_among frames
packets_among (Other bytes ∷ frames) = packets_among frames

-- the other frames among them
abbrev pub others_among : List Frame → List (List ℕ)
others_among [] = []
others_among (Holds p ∷ frames) = others_among frames
others_among (Other bytes ∷ frames) = bytes ∷ others_among frames

-- as long as a frame, and its first byte is the number of no block
pub record IsOtherFrame (c : Configuration) (bytes : List ℕ) : Type 0 where
  pub long : length bytes ≡ frame_size c
  pub unknown : c.source_blocks ≤ slice_index bytes 0

-- packets of the object, in a configuration that coders take over a checked table
pub record IsStreamRun (table : List TableRow) (c : Configuration) (object : List ℕ) (packets : List Packet) : Type 0 where
  pub checked : IsTable table
  pub fits : IsConfiguration c
  pub accepted : IsAccepted (greatest_size table) c
  pub run : IsHonestRun table c object packets

-- Any twelve bytes that read as the configuration, then frames of packets of the object and other frames in any order, and then a rest shorter than a frame.
pub record IsMixedStream (table : List TableRow) (c : Configuration) (object : List ℕ) (frames : List Frame) (rest bytes : List ℕ) : Type 0 where
  pub stream_run : IsStreamRun table c object (packets_among frames)
  pub others : AllByRecursion (IsOtherFrame c) (others_among frames)
  pub short : length rest < frame_size c
  pub long : header_length ≤ length bytes
  pub header : configuration_in bytes ≡ c
  pub spelled : bytes_of_frames bytes ≡ flat_map frame_bytes frames ++ rest

-- one for a rest that isn't empty
abbrev pub rest_count : List ℕ → ℕ
rest_count [] = 0
rest_count (b ∷ rest) = 1

-- how many frames of a mixed stream hold no packet, its rest being one of them
abbrev pub other_count : List Frame → List ℕ → ℕ
other_count frames rest = length (others_among frames) + rest_count rest

-- P of each mixed stream that the bytes may be
abbrev pub OverMixedStreams : List TableRow → List ℕ → (Configuration → List ℕ → List Frame → List ℕ → Type 0) → Type 0
OverMixedStreams table bytes P =
    (c : Configuration) (object : List ℕ) (frames : List Frame) (rest : List ℕ)
    → IsMixedStream table c object frames rest bytes → P c object frames rest
