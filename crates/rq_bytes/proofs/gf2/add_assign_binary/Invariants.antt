-- What the loops keep in `gf2::add_assign_binary`.
use Rattle.std.proofs.Common.{◌≡◌}
use Rattle.std.specs.Int.Bits.{bit_xor}
use Rattle.rq_bytes.specs.Lanes.{zip_upto}
use Rattle.rq_bytes.proofs.gf2.add_assign_binary.Given as goal

abbrev pub invariant-loop-i : goal.invariant-loop-i
invariant-loop-i l = l.dest ≡ zip_upto bit_xor l.i l.fn.dest l.src
