-- What the check leaves to show of `octets::sums`.
use Rattle.std.proofs.lemmas.Nat.{xor_comm}
use Rattle.std.specs.Int.Bits.{xor_assoc, xor_self, xor_zero_r}
use Rattle.rq_standard.specs.OctetProducts.{xor-octet}
use Rattle.rq_standard.proofs.octets.sums.Goals as goal

pub returns : goal.returns
returns c = record { closed = xor-octet; associative = xor_assoc; commutative = xor_comm; zero = xor_zero_r; own_opposite = xor_self }
