use Rattle.std.proofs.Common.{ap, ◌∙◌, ◌≡◌, ◌++◌, sym}
use Rattle.rq_standard.specs.Packet.{Packet, id_of_bytes, packet_of_bytes, packet_bytes}
use Rattle.rq_standard.proofs.PacketBytes.{packet_of_bytes-packet_bytes}
use Rattle.rq_base.proofs.base.packet.EncodingPacket.serialize.Goals as goal

pub returns-clause-read : goal.returns-clause-read
returns-clause-read c =
    let p : Packet = record { id = c.self.inside.payload_id; payload = c.self.inside.payload } in
    let front : c.extend_from_slice.new.self.items ≡ c.serialize.result = c.in_ok-extend_from_slice.ensures.items ∙ ap (λ xs. xs ++ c.serialize.result) c.in_ok-bytes.ensures.items in
    let bytes : c.extend_from_slice-2.new.self.items ≡ packet_bytes p = c.in_ok-extend_from_slice-2.ensures.items ∙ ap (λ xs. xs ++ c.as_bytes-payload.result.now) (front ∙ c.serialize.ensures.value) ∙ ap (λ ys. packet_bytes (record { id = p.id; payload = ys })) c.as_bytes-payload.ensures in
    ap packet_of_bytes bytes ∙ packet_of_bytes-packet_bytes p (ap id_of_bytes (sym c.serialize.ensures.value) ∙ c.serialize.ensures.read) ∙ c.self.view_is
