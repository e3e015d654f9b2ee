-- What the loops keep in `octet::fill_row`.
use Rattle.std.proofs.Common.{◌≡◌, ℕ, ◌<◌, ◌*◌, ◌%◌, get_or}
use Rattle.rq_standard.specs.Octets.{octet_mul}
use Rattle.rq_bytes.proofs.octet.fill_row.Given as goal

abbrev pub invariant-loop-j : goal.invariant-loop-j
invariant-loop-j l = (j : ℕ) → j < l.j → get_or l.row j 0 ≡ octet_mul l.scalar (j % l.modulus * l.step)
