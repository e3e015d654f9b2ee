-- What the check leaves to show of `octets::BinaryOctetVec::new`.
use Rattle.rq_bytes.proofs.PackedRows.{length-packed_bits}
use Rattle.rq_bytes.proofs.octets.BinaryOctetVec.new.Goals as goal

pub returns-clause-len : goal.returns-clause-len
returns-clause-len c = length-packed_bits c.args.elements.items c.args.len
