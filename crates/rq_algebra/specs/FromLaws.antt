-- A field from laws that hold of its elements alone: the product reduces what it is given, and then they hold of all numbers.
use Rattle.std.specs.Prelude.{◌≡◌, ◌≢◌, ℕ, ◌<◌, ◌%◌, ◌^◌, bit_xor}
use Rattle.std.proofs.Common.{arith}
use Rattle.std.specs.Int.Bits.{xor_comm, xor_assoc, xor_self, xor_zero_l, xor_mod, xor_lt}
use Rattle.std.proofs.Math.Nat.{mod-eq_of_lt}
use Rattle.rq_algebra.specs.Field.{Field}

-- a product and inverses on the numbers below 2 ^ bits, whose sum is `^`
pub record ElementLaws (bits : ℕ) (mul : ℕ → ℕ → ℕ) (inverse : ℕ → ℕ) : Type 0 where
  pub mul_comm : (x y : ℕ) → x < 2 ^ bits → y < 2 ^ bits → mul x y ≡ mul y x
  pub mul_assoc : (x y z : ℕ) → x < 2 ^ bits → y < 2 ^ bits → z < 2 ^ bits → mul (mul x y) z ≡ mul x (mul y z)
  pub mul_add : (x y z : ℕ) → x < 2 ^ bits → y < 2 ^ bits → z < 2 ^ bits → mul x (bit_xor y z) ≡ bit_xor (mul x y) (mul x z)
  pub one_mul : (x : ℕ) → x < 2 ^ bits → mul 1 x ≡ x
  pub inverse_mul : (x : ℕ) → x < 2 ^ bits → x ≢ 0 → mul (inverse x) x ≡ 1
  pub one_below : 1 < 2 ^ bits
  pub mul_below : (x y : ℕ) → x < 2 ^ bits → y < 2 ^ bits → mul x y < 2 ^ bits
  pub inverse_below : (x : ℕ) → x < 2 ^ bits → x ≢ 0 → inverse x < 2 ^ bits

module _ (bits : ℕ) (mul : ℕ → ℕ → ℕ) (inverse : ℕ → ℕ) (laws : ElementLaws bits mul inverse) where
  abbrev pub low : ℕ → ℕ
  low x = x % 2 ^ bits

  abbrev pub mul_low : ℕ → ℕ → ℕ
  mul_low x y = mul (low x) (low y)

  pub low_below : (x : ℕ) → low x < 2 ^ bits
  low_below x = let p : 0 < 2 ^ bits = omega (arith, laws.one_below) in omega arith

  pub low_is : (x : ℕ) → x < 2 ^ bits → low x ≡ x
  low_is x l = mod-eq_of_lt l

  pub low_mul_below : (x y : ℕ) → mul_low x y < 2 ^ bits
  low_mul_below x y = laws.mul_below (low x) (low y) (low_below x) (low_below y)

  pub low_mul_comm : (x y : ℕ) → mul_low x y ≡ mul_low y x
  low_mul_comm x y = laws.mul_comm (low x) (low y) (low_below x) (low_below y)

  pub low_mul_assoc : (x y z : ℕ) → mul_low (mul_low x y) z ≡ mul_low x (mul_low y z)
  low_mul_assoc x y z = cc (
    low_is (mul_low x y) (low_mul_below x y),
    low_is (mul_low y z) (low_mul_below y z),
    laws.mul_assoc (low x) (low y) (low z) (low_below x) (low_below y) (low_below z),
  )

  pub low_mul_add : (x y z : ℕ) → mul_low x (bit_xor y z) ≡ bit_xor (mul_low x y) (mul_low x z)
  low_mul_add x y z = cc (xor_mod y z bits, laws.mul_add (low x) (low y) (low z) (low_below x) (low_below y) (low_below z))

  pub low_one_mul : (x : ℕ) → x < 2 ^ bits → mul_low 1 x ≡ x
  low_one_mul x l = cc (low_is 1 laws.one_below, low_is x l, laws.one_mul x l)

  pub low_inverse_mul : (x : ℕ) → x < 2 ^ bits → x ≢ 0 → mul_low (inverse x) x ≡ 1
  low_inverse_mul x l d = cc (low_is (inverse x) (laws.inverse_below x l d), low_is x l, laws.inverse_mul x l d)

  abbrev pub field_from : Field
  field_from = record {
    size = 2 ^ bits;
    add = bit_xor;
    mul = mul_low;
    inverse = inverse;
    add_comm = xor_comm;
    add_assoc = xor_assoc;
    zero_add = xor_zero_l;
    add_self = xor_self;
    mul_comm = low_mul_comm;
    mul_assoc = low_mul_assoc;
    mul_add = low_mul_add;
    one_mul = low_one_mul;
    inverse_mul = low_inverse_mul;
    one_below = laws.one_below;
    add_below = xor_lt bits;
    mul_below = low_mul_below;
    inverse_below = laws.inverse_below;
  }

  -- on elements it is the product that was given
  pub field_mul_is : (x y : ℕ) → x < 2 ^ bits → y < 2 ^ bits → field_from.mul x y ≡ mul x y
  field_mul_is x y l m = cc (low_is x l, low_is y m)
