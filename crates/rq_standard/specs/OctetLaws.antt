-- The laws of the octets.
use Rattle.std.specs.Prelude.{ℕ, ◌+◌, ◌<◌, ◌≡◌, ◌≢◌}
use Rattle.std.specs.Int.Bits.{bit_xor}
use Rattle.rq_standard.specs.Octets.{octet_mul, octet_power, octet_inverse, octet_div}

-- sums: octets again, associative, commutative, with 0 neutral and each octet its own opposite
pub record SumsAreAGroup : Type 0 where
  pub closed : (a b : ℕ) → a < 256 → b < 256 → bit_xor a b < 256
  pub associative : (a b c : ℕ) → bit_xor (bit_xor a b) c ≡ bit_xor a (bit_xor b c)
  pub commutative : (a b : ℕ) → bit_xor a b ≡ bit_xor b a
  pub zero : (a : ℕ) → bit_xor a 0 ≡ a
  pub own_opposite : (a : ℕ) → bit_xor a a ≡ 0

-- products: octets again, associative, commutative, over sums distributive, with 1 neutral
pub record ProductsAreARing : Type 0 where
  pub closed : (a b : ℕ) → a < 256 → octet_mul a b < 256
  pub associative : (a b c : ℕ) → a < 256 → b < 256 → octet_mul (octet_mul a b) c ≡ octet_mul a (octet_mul b c)
  pub commutative : (a b : ℕ) → a < 256 → b < 256 → octet_mul a b ≡ octet_mul b a
  pub distributive : (a b c : ℕ) → a < 256 → b < 256 → c < 256 → octet_mul a (bit_xor b c) ≡ bit_xor (octet_mul a b) (octet_mul a c)
  pub one : (a : ℕ) → a < 256 → octet_mul 1 a ≡ a
  pub zero : (a : ℕ) → octet_mul a 0 ≡ 0

-- each octet but 0 has its inverse, so that no product of others is 0, and a quotient is what times the divisor is the dividend
pub record HasInverses : Type 0 where
  pub inverse_closed : (a : ℕ) → a < 256 → a ≢ 0 → octet_inverse a < 256
  pub inverse : (a : ℕ) → a < 256 → a ≢ 0 → octet_mul a (octet_inverse a) ≡ 1
  pub no_zero_divisors : (a b : ℕ) → a < 256 → b < 256 → octet_mul a b ≡ 0 → b ≢ 0 → a ≡ 0
  pub quotient : (a b q : ℕ) → b < 256 → q < 256 → b ≢ 0 → octet_mul q b ≡ a → q ≡ octet_div a b

-- alpha's powers: exponents add in products, and the 255th is 1
pub record PowersAdd : Type 0 where
  pub closed : (n : ℕ) → octet_power n < 256
  pub add : (m n : ℕ) → octet_mul (octet_power m) (octet_power n) ≡ octet_power (m + n)
  pub order : octet_power 255 ≡ 1
