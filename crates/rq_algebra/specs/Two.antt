-- The field of two elements.
use Rattle.std.proofs.Common.{◌≡◌, ℕ, ◌<◌, ◌*◌, ◌⊎◌, arith, inl, inr}
use Rattle.std.proofs.lemmas.Bool.{cases_eq}
use Rattle.std.proofs.Math.Nat.{mul_comm, mul_assoc, zero-mul, one-mul}
use Rattle.rq_algebra.specs.Field.{Field}
use Rattle.rq_algebra.specs.FromLaws.{ElementLaws, field_from}

bit : (x : ℕ) → x < 2 → (x ≡ 0) ⊎ (x ≡ 1)
bit x l = elim (cases_eq x 0) [ inl e ↦ inl e | inr d ↦ inr (omega arith) ]

pub two_laws : ElementLaws 1 ◌*◌ (λ x. x)
two_laws = record {
  mul_comm = λ x y l m. mul_comm x y;
  mul_assoc = λ x y z l m n. mul_assoc x y z;
  mul_add = λ x y z l m n. elim (bit x l) [ inl a ↦ rw a (simp zero-mul) | inr a ↦ rw a (simp one-mul) ];
  one_mul = λ x l. omega arith;
  inverse_mul = λ x l d. let e : x ≡ 1 = omega arith in rw e;
  one_below = omega arith;
  mul_below = λ x y l m. elim (bit x l) [ inl a ↦ rw a (omega arith) | inr a ↦ rw a (omega arith) ];
  inverse_below = λ x l d. l;
}

abbrev pub two : Field
two = field_from 1 ◌*◌ (λ x. x) two_laws
