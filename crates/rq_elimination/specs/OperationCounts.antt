-- How many operations add symbols, and how many multiply them.
use Rattle.std.specs.Prelude.{◌≡◌, ℕ, zero, suc, ◌+◌, Bool, true, false, List, count_by, refl}
use Rattle.rq_algebra.specs.Operations.{Operation, AddAssign, MulAssign, Fma, Reorder}

abbrev pub is_addition : Operation → Bool
is_addition (AddAssign dest src) = true
is_addition (MulAssign dest scalar) = false
is_addition (Fma dest src scalar) = true
is_addition (Reorder order) = false

abbrev pub is_multiplication : Operation → Bool
is_multiplication (AddAssign dest src) = false
is_multiplication (MulAssign dest scalar) = true
is_multiplication (Fma dest src scalar) = true
is_multiplication (Reorder order) = false

abbrev pub additions : List Operation → ℕ
additions operations = count_by is_addition operations

abbrev pub multiplications : List Operation → ℕ
multiplications operations = count_by is_multiplication operations

-- 0 + 1 + .. + (n - 1)
pub triangle : ℕ → ℕ
triangle zero = 0
triangle (suc n) = triangle n + n

pub triangle-none : triangle 0 ≡ 0
unfolding triangle
triangle-none = refl

pub triangle-more : (n : ℕ) → triangle (suc n) ≡ triangle n + n
unfolding triangle
triangle-more n = refl

-- 1 for what is neither 0 nor 1
abbrev pub beyond_one : ℕ → ℕ
beyond_one zero = 0
beyond_one (suc zero) = 0
beyond_one (suc (suc n)) = 1

-- how many of the n values from one on are neither 0 nor 1
pub multiples : (ℕ → ℕ) → ℕ → ℕ → ℕ
multiples values first zero = 0
multiples values first (suc n) = beyond_one (values first) + multiples values (suc first) n

pub multiples-none : (values : ℕ → ℕ) (first : ℕ) → multiples values first 0 ≡ 0
unfolding multiples
multiples-none values first = refl

pub multiples-more : (values : ℕ → ℕ) (first n : ℕ) → multiples values first (suc n) ≡ beyond_one (values first) + multiples values (suc first) n
unfolding multiples
multiples-more values first n = refl
