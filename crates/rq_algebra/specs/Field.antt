-- A finite field of characteristic two, whose elements are the numbers below `size`.
--
-- `add` and `mul` are total on numbers and keep their ring laws on all of them, so that a sum needs no side condition: only `one_mul` and
-- the inverse ask for an element. `FromLaws` makes such a field from laws on elements alone.
use Rattle.std.specs.Prelude.{◌≡◌, ◌≢◌, ℕ, ◌<◌}

pub record Field : Type 0 where
  pub size : ℕ
  pub add : ℕ → ℕ → ℕ
  pub mul : ℕ → ℕ → ℕ
  pub inverse : ℕ → ℕ
  pub add_comm : (x y : ℕ) → add x y ≡ add y x
  pub add_assoc : (x y z : ℕ) → add (add x y) z ≡ add x (add y z)
  pub zero_add : (x : ℕ) → add 0 x ≡ x
  pub add_self : (x : ℕ) → add x x ≡ 0
  pub mul_comm : (x y : ℕ) → mul x y ≡ mul y x
  pub mul_assoc : (x y z : ℕ) → mul (mul x y) z ≡ mul x (mul y z)
  pub mul_add : (x y z : ℕ) → mul x (add y z) ≡ add (mul x y) (mul x z)
  pub one_mul : (x : ℕ) → x < size → mul 1 x ≡ x
  pub inverse_mul : (x : ℕ) → x < size → x ≢ 0 → mul (inverse x) x ≡ 1
  pub one_below : 1 < size
  pub add_below : (x y : ℕ) → x < size → y < size → add x y < size
  pub mul_below : (x y : ℕ) → mul x y < size
  pub inverse_below : (x : ℕ) → x < size → x ≢ 0 → inverse x < size
