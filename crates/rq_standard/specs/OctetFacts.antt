-- Facts about every octet, or every two octets, that the check computes. They stand here since the field of octets holds its laws.
use Rattle.std.proofs.Common.{◌≡◌, ℕ, zero, suc, ◌/◌, ◌%◌, ◌<◌, Bool, true, cond, eqb, ltb, refl, ◌&&◌, ◌||◌, arith, ⊎_elim, subst, sym}
use Rattle.std.proofs.lemmas.Bool.{agree_below, agree_below_at, and_parts, eqb-true, ltb-true, cases_eq, or_cases}
use Rattle.std.specs.Int.Bits.{bit_xor}
use Rattle.rq_standard.specs.Octets.{octet_double, octet_times, octet_mul, product_of_squares, octet_inverse}

-- ---- tests over ranges

-- p passes at each i below m and each j below n
abbrev pub pairs_below : (ℕ → ℕ → Bool) → ℕ → ℕ → Bool
pairs_below p zero n = true
pairs_below p (suc m) n = agree_below (p m) (λ _. true) n && pairs_below p m n

pub pairs_below_at : (p : ℕ → ℕ → Bool) (m n : ℕ) → pairs_below p m n ≡ true → (i j : ℕ) → i < m → j < n → p i j ≡ true
pairs_below_at p zero n e i j hi hj = absurd (omega arith)
pairs_below_at p (suc m) n e i j hi hj =
    let both = and_parts (agree_below (p m) (λ _. true) n) (pairs_below p m n) e in
    ⊎_elim
    (λ (is : i ≡ m). subst (λ k. p k j ≡ true) (sym is) (agree_below_at (p m) (λ _. true) n j both.0 hj))
    (λ (ne : i ≡ m → ⊥). pairs_below_at p m n both.1 i j (omega arith) hj)
    (cases_eq i m)

-- ---- doubling

double_below : agree_below (λ a. ltb (octet_double a) 256) (λ _. true) 256 ≡ true
unfolding octet_double
double_below = refl

pub double-lt : (a : ℕ) → a < 256 → octet_double a < 256
double-lt a lt = ltb-true (octet_double a) 256 (agree_below_at (λ x. ltb (octet_double x) 256) (λ _. true) 256 a double_below lt)

double_xors : pairs_below (λ a b. eqb (octet_double (bit_xor a b)) (bit_xor (octet_double a) (octet_double b))) 256 256 ≡ true
unfolding octet_double
double_xors = refl

pub double-xor : (a b : ℕ) → a < 256 → b < 256 → octet_double (bit_xor a b) ≡ bit_xor (octet_double a) (octet_double b)
double-xor a b ha hb =
    eqb-true _ _ (pairs_below_at (λ x y. eqb (octet_double (bit_xor x y)) (bit_xor (octet_double x) (octet_double y))) 256 256 double_xors a b ha hb)

-- ---- products with one octet

one_muls : agree_below (λ a. eqb (octet_mul 1 a) a) (λ _. true) 256 ≡ true
unfolding octet_double octet_times octet_mul
one_muls = refl

pub one-mul : (a : ℕ) → a < 256 → octet_mul 1 a ≡ a
one-mul a lt = eqb-true _ _ (agree_below_at (λ x. eqb (octet_mul 1 x) x) (λ _. true) 256 a one_muls lt)

halves : agree_below (λ a. eqb a (bit_xor (cond (eqb (a % 2) 1) 1 0) (octet_double (a / 2)))) (λ _. true) 256 ≡ true
unfolding octet_double
halves = refl

-- an octet by its lowest bit and the others
pub by_halves : (a : ℕ) → a < 256 → a ≡ bit_xor (cond (eqb (a % 2) 1) 1 0) (octet_double (a / 2))
by_halves a lt =
    eqb-true _ _ (agree_below_at (λ x. eqb x (bit_xor (cond (eqb (x % 2) 1) 1 0) (octet_double (x / 2)))) (λ _. true) 256 a halves lt)

inverses : agree_below (λ a. eqb a 0 || ltb (octet_inverse a) 256 && eqb (octet_mul a (octet_inverse a)) 1) (λ _. true) 256 ≡ true
unfolding octet_double octet_times octet_mul product_of_squares octet_inverse
inverses = refl

inverse_at : (a : ℕ) → a < 256 → (a ≡ 0 → ⊥) → (octet_inverse a < 256) × (octet_mul a (octet_inverse a) ≡ 1)
inverse_at a lt ne =
    ⊎_elim
    (λ (is : eqb a 0 ≡ true). absurd (ne (eqb-true a 0 is)))
    (λ (is : (ltb (octet_inverse a) 256 && eqb (octet_mul a (octet_inverse a)) 1) ≡ true).
    let both = and_parts (ltb (octet_inverse a) 256) (eqb (octet_mul a (octet_inverse a)) 1) is in
    (ltb-true _ _ both.0, eqb-true _ _ both.1))
    (or_cases (eqb a 0) (ltb (octet_inverse a) 256 && eqb (octet_mul a (octet_inverse a)) 1)
    (agree_below_at (λ x. eqb x 0 || ltb (octet_inverse x) 256 && eqb (octet_mul x (octet_inverse x)) 1) (λ _. true) 256 a inverses lt))

pub inverse-lt : (a : ℕ) → a < 256 → (a ≡ 0 → ⊥) → octet_inverse a < 256
inverse-lt a lt ne = (inverse_at a lt ne).0

pub mul-inverse : (a : ℕ) → a < 256 → (a ≡ 0 → ⊥) → octet_mul a (octet_inverse a) ≡ 1
mul-inverse a lt ne = (inverse_at a lt ne).1
