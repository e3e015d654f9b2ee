-- An object on a stream: the twelve bytes of its configuration, then a frame for each packet.
use Rattle.std.specs.Prelude.{ℕ, ◌+◌, ◌*◌, List, ◌++◌, flat_map, length, take, drop, map}
use Rattle.std.specs.List.{range_with_len}
use Rattle.std.specs.Int.{div_ceil}
use Rattle.rq_standard.specs.Packet.{Packet, packet_bytes}
use Rattle.rq_standard.specs.Configuration.{Configuration, header_bytes}

abbrev pub frames_of : List Packet → List ℕ
frames_of packets = flat_map packet_bytes packets

abbrev pub stream_of : Configuration → List Packet → List ℕ
stream_of c packets = header_bytes c ++ frames_of packets

-- how long a frame is: a payload id and a symbol
abbrev pub frame_size : Configuration → ℕ
frame_size c = 4 + c.symbol_size

-- bytes cut into parts of this size, of which the last one may be shorter
unfoldable pub frames_in : ℕ → List ℕ → List (List ℕ)
frames_in size bytes = map (λ i. take size (drop (i * size) bytes)) (range_with_len 0 (div_ceil (length bytes) size))
