use Rattle.std.proofs.Common.{◌≡◌, ℕ, ◌<◌, get_or}
use Rattle.rq_standard.specs.Octets.{octet_power}
use Rattle.rq_base.proofs.constraint_matrix.hdpc.fill_powers.Given as goal

abbrev pub invariant-loop-i : goal.invariant-loop-i
invariant-loop-i l = (i : ℕ) → i < l.i → get_or l.octets i 0 ≡ octet_power i
