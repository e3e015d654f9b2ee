-- What the check leaves to show of `packed_bits::set_bit`.
use Rattle.rq_parts.proofs.PackedBits.{packed_bit-set_here, packed_bit-set_other}
use Rattle.rq_parts.proofs.packed_bits.set_bit.Goals as goal

pub returns-clause-here : goal.returns-clause-here
returns-clause-here c = packed_bit-set_here c.args.row.now c.args.column 1 c.word_with_one.result c.requires c.word_with_one.ensures

pub returns-clause-elsewhere : goal.returns-clause-elsewhere
returns-clause-elsewhere c = λ k other. packed_bit-set_other c.args.row.now c.args.column 1 c.word_with_one.result k c.requires c.word_with_one.ensures other
