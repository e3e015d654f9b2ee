-- Shares that are enough.
use Rattle.std.proofs.Common.{◌≡◌, ℕ, ◌+◌, ◌*◌, ◌<◌, ◌≤◌, subst, arith}
use Rattle.std.specs.Prelude.{max}
use Rattle.std.proofs.Math.Nat.{mul_comm, mul-le-mul_right}
use Rattle.std.proofs.lemmas.Grind.{div_ceil_times}
use Rattle.rq_cast.specs.declared.shares.Shares.{Shares}
use Rattle.rq_cast.specs.Shares.{enough_of, packets_of, shares_repair}

-- those that are needed have enough packets
pub enough : (k : ℕ) (s : Shares) → 0 < s.needed → enough_of k ≤ s.needed * packets_of k s
enough k s some =
    let covered : enough_of k ≤ packets_of k s * max s.needed 1 = (div_ceil_times (enough_of k) (max s.needed 1) (omega arith)).0 in
    let same : max s.needed 1 ≡ s.needed = omega (arith, some) in
    subst (λ n. enough_of k ≤ n) (mul_comm (packets_of k s) s.needed) (subst (λ n. enough_of k ≤ packets_of k s * n) same covered)

-- all have as many as are sent
pub alike : (k : ℕ) (s : Shares) → 0 < s.needed → s.needed ≤ s.all → k + shares_repair k s ≡ s.all * packets_of k s
alike k s some few =
    let covered : enough_of k ≤ s.needed * packets_of k s = enough k s some in
    let more : s.needed * packets_of k s ≤ s.all * packets_of k s = mul-le-mul_right (packets_of k s) few in
    omega (arith, covered, more)
