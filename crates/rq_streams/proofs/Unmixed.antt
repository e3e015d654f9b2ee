-- A stream of an object's packets is a mixed stream with nothing skipped.
use Rattle.std.proofs.Common.{◌≡◌, List, [], ◌∷◌, ◌++◌, map, take, drop, refl, sym, ap, ◌∙◌, subst, arith, append-nil, length, length-append}
use Rattle.std.specs.Prelude.{flat_map}
use Rattle.std.specs.List.{AllByRecursion}
use Rattle.std.proofs.lemmas.List.{take_at, drop_at}
use Rattle.rq_standard.specs.Packet.{Packet, packet_bytes}
use Rattle.rq_standard.specs.Configuration.{Configuration, header_bytes, configuration_of_bytes}
use Rattle.rq_standard.specs.Streams.{frames_of}
use Rattle.rq_standard.proofs.HeaderBytes.{configuration_of_bytes-header_bytes}
use Rattle.rq_streams.specs.MixedStreams.{Frame, Holds, frame_bytes, packets_among, others_among, IsOtherFrame, IsStreamRun}
use Rattle.rq_streams.specs.SentStreams.{StreamsAreUnmixed}

abbrev held : List Packet → List Frame
held packets = map (λ p. Holds p) packets

packets-held : (packets : List Packet) → packets_among (held packets) ≡ packets
packets-held [] = refl
packets-held (p ∷ packets) = ap (λ ps. p ∷ ps) (packets-held packets)

others-held : (packets : List Packet) → others_among (held packets) ≡ []
others-held [] = refl
others-held (p ∷ packets) = others-held packets

bytes-held : (packets : List Packet) → frames_of packets ≡ flat_map frame_bytes (held packets)
bytes-held [] = refl
bytes-held (p ∷ packets) = ap (λ xs. packet_bytes p ++ xs) (bytes-held packets)

length-header_bytes : (c : Configuration) → length (header_bytes c) ≡ 12
unfolding header_bytes
length-header_bytes c = refl

pub unmixed_stream : StreamsAreUnmixed
unmixed_stream table c object packets bytes s = record {
  frames = held packets;
  mixed = record {
    stream_run = subst (IsStreamRun table c object) (sym (packets-held packets)) s.stream_run;
    others = subst (AllByRecursion (IsOtherFrame c)) (sym (others-held packets)) tt;
    short = omega arith;
    long = omega (arith, ap length s.spelled, length-append (header_bytes c) (frames_of packets), length-header_bytes c);
    header = ap configuration_of_bytes (ap (take 12) s.spelled ∙ take_at (header_bytes c) (frames_of packets) 12 (length-header_bytes c)) ∙ configuration_of_bytes-header_bytes c s.stream_run.fits;
    spelled = ap (drop 12) s.spelled ∙ drop_at (header_bytes c) (frames_of packets) 12 (length-header_bytes c) ∙ bytes-held packets ∙ sym (append-nil (flat_map frame_bytes (held packets)));
  };
  same = packets-held packets;
  none = omega (arith, ap length (others-held packets));
}
