-- What the check leaves to show of `octets::products`.
use Rattle.rq_standard.specs.OctetFacts.{one-mul, mul-inverse, inverse-lt}
use Rattle.rq_standard.proofs.Powers.{div_from_mul}
use Rattle.rq_standard.specs.OctetProducts.{mul-lt, mul-comm, mul-assoc, mul-xor_right, mul-zero, no_zero_divisor}
use Rattle.rq_standard.proofs.octets.products.Goals as goal

pub returns-clause-ring : goal.returns-clause-ring
returns-clause-ring c = record {
  closed = mul-lt;
  associative = mul-assoc;
  commutative = mul-comm;
  distributive = mul-xor_right;
  one = one-mul;
  zero = mul-zero;
}

pub returns-clause-inverses : goal.returns-clause-inverses
returns-clause-inverses c = record {
  inverse_closed = inverse-lt;
  inverse = mul-inverse;
  no_zero_divisors = no_zero_divisor;
  quotient = div_from_mul;
}
