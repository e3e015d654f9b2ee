use Rattle.std.proofs.Common.{ap, ◌∙◌, ◌/◌, ◌%◌}
use Rattle.rq_standard.specs.Packet.{id_bytes, id_of_bytes}
use Rattle.rq_standard.proofs.PacketBytes.{id_bytes-id_of_bytes}
use Rattle.rq_base.proofs.base.packet.PayloadId.deserialize.Goals as goal

pub returns-clause-value : goal.returns-clause-value
unfolding id_of_bytes
returns-clause-value c = ap (λ n. record { block = n / 16777216; esi = n % 16777216 }) c.from_be_bytes-number.ensures

pub returns-clause-written : goal.returns-clause-written
returns-clause-written c = ap id_bytes (returns-clause-value c) ∙ id_bytes-id_of_bytes c.args.bytes.now c.told-bytes c.fits-bytes
