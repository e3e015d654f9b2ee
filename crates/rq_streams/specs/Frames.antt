-- The frames behind a stream's header, and which of them are skipped.
use Rattle.std.specs.Prelude.{ℕ, List, length, take, drop, filter_map, count_by, Option, Some, None, if◌then◌else◌, Bool, not, ◌||◌, nat_lt}
use Rattle.rq_standard.specs.Packet.{Packet, packet_of_bytes}
use Rattle.rq_standard.specs.Configuration.{Configuration, configuration_of_bytes}
use Rattle.rq_standard.specs.Streams.{frame_size, frames_in}

-- how long a stream's header is, that of a configuration
abbrev pub header_length : ℕ
header_length = 12

-- the configuration that the header spells
abbrev pub configuration_in : List ℕ → Configuration
configuration_in bytes = configuration_of_bytes (take header_length bytes)

-- the bytes behind it
abbrev pub bytes_of_frames : List ℕ → List ℕ
bytes_of_frames bytes = drop header_length bytes

-- a frame is skipped that isn't whole, or whose block isn't one of the object's
abbrev pub is_skipped : Configuration → List ℕ → Bool
is_skipped c frame = nat_lt (length frame) (frame_size c) || not (nat_lt (packet_of_bytes frame).id.block c.source_blocks)

-- the packet of a frame, unless it is skipped
abbrev pub kept_packet : Configuration → List ℕ → Option Packet
kept_packet c frame = if is_skipped c frame then None else Some (packet_of_bytes frame)

-- how many of some frames are skipped
abbrev pub skipped_count : Configuration → List (List ℕ) → ℕ
skipped_count c frames = count_by (is_skipped c) frames

-- the packets of the others
abbrev pub kept_packets : Configuration → List (List ℕ) → List Packet
kept_packets c frames = filter_map (kept_packet c) frames

-- those of bytes that are cut into frames
abbrev pub packets_in_bytes : Configuration → List ℕ → List Packet
packets_in_bytes c bytes = kept_packets c (frames_in (frame_size c) bytes)

abbrev pub skipped_in_bytes : Configuration → List ℕ → ℕ
skipped_in_bytes c bytes = skipped_count c (frames_in (frame_size c) bytes)

-- how many frames of a stream are skipped
abbrev pub skipped_in : List ℕ → ℕ
skipped_in bytes = skipped_in_bytes (configuration_in bytes) (bytes_of_frames bytes)
