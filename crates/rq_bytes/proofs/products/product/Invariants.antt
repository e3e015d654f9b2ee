-- What the loops keep in `products::product`.
use Rattle.std.proofs.Common.{◌≡◌, ◌-◌, ◌/◌, ◌^◌, ◌<◌}
use Rattle.std.specs.Int.Bits.{bit_xor}
use Rattle.rq_standard.specs.Octets.{octet_times, octet_mul}
use Rattle.rq_bytes.proofs.products.product.Given as goal

abbrev pub invariant-loop-k : goal.invariant-loop-k
invariant-loop-k l = record {
  octet : l.term < 256;
  same : bit_xor l.sum (octet_times (8 - l.k) l.term (l.b / 2 ^ l.k)) ≡ octet_mul l.a l.b;
}
