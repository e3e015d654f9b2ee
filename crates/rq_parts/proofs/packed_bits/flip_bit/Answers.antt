-- What the check leaves to show of `packed_bits::flip_bit`.
use Rattle.std.specs.Int.Bits.{bit_xor}
use Rattle.rq_bytes.specs.BinaryOctetVec.{packed_bit}
use Rattle.rq_parts.proofs.PackedBits.{packed_bit-set_here, packed_bit-set_other}
use Rattle.rq_parts.proofs.packed_bits.flip_bit.Goals as goal

pub returns-clause-here : goal.returns-clause-here
returns-clause-here c = packed_bit-set_here c.args.row.now c.args.column (bit_xor (packed_bit c.args.row.now c.args.column) 1) c.word_flipped.result c.requires c.word_flipped.ensures

pub returns-clause-elsewhere : goal.returns-clause-elsewhere
returns-clause-elsewhere c = λ k other. packed_bit-set_other c.args.row.now c.args.column (bit_xor (packed_bit c.args.row.now c.args.column) 1) c.word_flipped.result k c.requires c.word_flipped.ensures other
