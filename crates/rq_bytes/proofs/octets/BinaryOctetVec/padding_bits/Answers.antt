-- What the check leaves to show of `octets::BinaryOctetVec::padding_bits`.
use Rattle.std.proofs.Common.{length, ap, sym, ◌∙◌}
use Rattle.rq_bytes.specs.BinaryOctetVec.{padding_of}
use Rattle.rq_bytes.proofs.PackedRows.{length-packed_bits}
use Rattle.rq_bytes.proofs.octets.BinaryOctetVec.padding_bits.Goals as goal

pub returns : goal.returns
returns c = ap padding_of (sym (length-packed_bits c.self.inside.elements.items c.self.inside.length) ∙ ap length c.self.view_is)
