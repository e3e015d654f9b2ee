-- What the loops keep in `products::plane_products`.
use Rattle.std.proofs.Common.{◌≡◌, ◌-◌, ◌/◌, ◌^◌, ◌<◌, ℕ, length, get_or}
use Rattle.std.specs.Int.Bits.{bit_xor}
use Rattle.rq_standard.specs.Octets.{octet_times, octet_mul}
use Rattle.rq_bytes.proofs.products.plane_products.Given as goal

abbrev pub invariant-loop-k : goal.invariant-loop-k
invariant-loop-k l = record {
  octet : l.term < 256;
  long : length l.sum ≡ 32;
  each : (i : ℕ) → i < 32 → bit_xor (get_or l.sum i 0) (octet_times (8 - l.k) l.term (get_or l.lanes i 0 / 2 ^ l.k)) ≡ octet_mul l.fn.scalar (get_or l.lanes i 0);
}
