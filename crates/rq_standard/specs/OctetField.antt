-- The octets as a field.
use Rattle.std.proofs.Common.{◌∙◌, lit<}
use Rattle.rq_algebra.specs.Field.{Field}
use Rattle.rq_algebra.specs.FromLaws.{ElementLaws, field_from}
use Rattle.rq_standard.specs.Octets.{octet_mul, octet_inverse}
use Rattle.rq_standard.specs.OctetFacts.{one-mul, mul-inverse, inverse-lt}
use Rattle.rq_standard.specs.OctetProducts.{mul-lt, mul-comm, mul-assoc, mul-xor_right}

pub octet_laws : ElementLaws 8 octet_mul octet_inverse
octet_laws = record {
  mul_comm = mul-comm;
  mul_assoc = λ x y z l m n. mul-assoc x y z l m;
  mul_add = mul-xor_right;
  one_mul = one-mul;
  inverse_mul = λ x l d. mul-comm (octet_inverse x) x (inverse-lt x l d) l ∙ mul-inverse x l d;
  one_below = lit< tt;
  mul_below = λ x y l m. mul-lt x y l;
  inverse_below = inverse-lt;
}

-- its product reduces both factors below 256 first, so that the laws hold of all numbers
abbrev pub octets : Field
octets = field_from 8 octet_mul octet_inverse octet_laws
