-- The field of 256 octets, RFC 6330 section 5.7. An octet is a number below 256, and its bit k is the coefficient of x^k
-- of a polynomial over two elements. The sum of two octets is `bit_xor`; products are taken modulo
-- x^8 + x^4 + x^3 + x^2 + 1, which is 285.
use Rattle.std.specs.Prelude.{ℕ, zero, suc, ◌*◌, ◌/◌, ◌%◌, cond, ◌==◌, nat_lt}
use Rattle.std.specs.Int.Bits.{bit_xor}

-- the product of an octet and x: twice the number, less the modulus where that has degree 8
unfoldable pub octet_double : ℕ → ℕ
octet_double a = cond (nat_lt a 128) (2 * a) (bit_xor (2 * a) 285)

-- the product of an octet and the polynomial of the n low bits of b, by Horner's rule
unfoldable pub octet_times : ℕ → ℕ → ℕ → ℕ
octet_times zero a b = 0
octet_times (suc n) a b = bit_xor (cond (b % 2 == 1) a 0) (octet_double (octet_times n a (b / 2)))

-- the product of two octets
unfoldable pub octet_mul : ℕ → ℕ → ℕ
octet_mul a b = octet_times 8 a b

-- the power of alpha, which is the octet 2
unfoldable pub octet_power : ℕ → ℕ
octet_power zero = 1
octet_power (suc n) = octet_double (octet_power n)

-- the product of the n powers a^2, a^4, a^8, ..
unfoldable pub product_of_squares : ℕ → ℕ → ℕ
product_of_squares zero a = 1
product_of_squares (suc n) a = octet_mul (octet_mul a a) (product_of_squares n (octet_mul a a))

-- the inverse of an octet other than 0: there are 255 of them, so a^255 is 1, and this is a^254
unfoldable pub octet_inverse : ℕ → ℕ
octet_inverse a = product_of_squares 7 a

-- the quotient of two octets, where b is not 0
unfoldable pub octet_div : ℕ → ℕ → ℕ
octet_div a b = octet_mul a (octet_inverse b)
