-- What the check leaves to show of `entries::InactiveEntries::count_entries`.
use Rattle.std.proofs.Common.{◌≤◌, ◌+◌, ◌-◌, arith}
use Rattle.rq_bytes.specs.BinaryOctetVec.{packed_bit}
use Rattle.rq_standard.specs.BitTableSteps.{ones_between}
use Rattle.rq_parts.proofs.CountedOnes.{ones_below-le}
use Rattle.rq_parts.proofs.PackedBits.{packed_bit-lt}
use Rattle.rq_elimination.proofs.entries.InactiveEntries.count_entries.Goals as goal

pub returns-in-Bits : goal.returns-in-Bits
returns-in-Bits c =
    let bits = c.in-Bits.bits.now in
    let few : ones_between (packed_bit bits) 0 c.args.count ≤ c.args.count - 0 = ones_below-le (λ k. packed_bit bits (0 + k)) (c.args.count - 0) (λ k _. packed_bit-lt bits (0 + k)) in
    omega (arith, few, c.count_ones.ensures)
