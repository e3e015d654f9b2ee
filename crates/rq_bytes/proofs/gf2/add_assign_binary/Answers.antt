-- What the check leaves to show of `gf2::add_assign_binary`.
use Rattle.std.proofs.Common.{arith}
use Rattle.std.specs.Int.Bits.{bit_xor}
use Rattle.rq_bytes.proofs.ZipUpto.{step_one, at_end}
use Rattle.rq_bytes.proofs.gf2.add_assign_binary.Goals as goal

pub loop-i-preserved : goal.loop-i-preserved
loop-i-preserved c =
    step_one bit_xor c.loop-i.i c.loop-i.dest c.args.dest.now c.args.src.now 0 0 c.loop-i.invariant (omega arith) (omega arith)

pub returns : goal.returns
returns c = at_end bit_xor c.loop-i.i c.loop-i.dest c.args.dest.now c.args.src.now c.loop-i.invariant (omega arith) (omega arith)
