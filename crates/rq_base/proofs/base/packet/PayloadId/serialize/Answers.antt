use Rattle.std.proofs.Common.{ap, ◌∙◌}
use Rattle.rq_standard.specs.Packet.{id_bytes, id_of_bytes}
use Rattle.rq_standard.proofs.PacketBytes.{id_of_bytes-id_bytes}
use Rattle.rq_base.proofs.base.packet.PayloadId.serialize.Goals as goal

pub returns-clause-read : goal.returns-clause-read
returns-clause-read c = ap id_of_bytes c.to_be_bytes.ensures ∙ ap (λ n. id_of_bytes (id_bytes (record { block = n; esi = c.self.inside.encoding_symbol_id }))) c.from.ensures ∙ id_of_bytes-id_bytes _ c.self.invariant ∙ c.self.view_is
