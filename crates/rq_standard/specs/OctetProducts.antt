-- The laws of products of octets. They stand here since the field of octets holds its laws.
use Rattle.std.proofs.Common.{◌≡◌, ℕ, zero, suc, ◌+◌, add-one, ◌/◌, ◌%◌, ◌<◌, ◌^◌, Bool, true, false, cond, eqb, refl, sym, ap, ◌∙◌, arith}
use Rattle.std.proofs.Math.Nat.{pow-suc}
use Rattle.std.proofs.lemmas.Nat.{xor_comm, xor_lt, mod-pow-add, field_of}
use Rattle.std.specs.Int.Bits.{bit_xor, xor_assoc, xor_zero_r}
use Rattle.std.proofs.lemmas.Bool.{cond_both}
use Rattle.rq_standard.specs.Octets.{octet_double, octet_times, octet_mul, octet_inverse}
use Rattle.rq_standard.specs.OctetFacts.{double-lt, double-xor, one-mul, by_halves, mul-inverse}

pub double-zero : octet_double 0 ≡ 0
unfolding octet_double
double-zero = refl

-- two sums of two, regrouped
pub xor_pairs : (a b c d : ℕ) → bit_xor (bit_xor a b) (bit_xor c d) ≡ bit_xor (bit_xor a c) (bit_xor b d)
xor_pairs a b c d =
    xor_assoc a b (bit_xor c d)
    ∙ ap (bit_xor a) (sym (xor_assoc b c d) ∙ ap (λ x. bit_xor x d) (xor_comm b c) ∙ xor_assoc c b d)
    ∙ sym (xor_assoc a c (bit_xor b d))

pub xor-octet : (a b : ℕ) → a < 256 → b < 256 → bit_xor a b < 256
xor-octet a b ha hb = xor_lt 8 a b ha hb

-- the term that one bit gives
abbrev pub if_set : ℕ → ℕ → ℕ
if_set b a = cond (eqb (b % 2) 1) a 0

pub cond-lt : (t : Bool) (x y : ℕ) → x < 256 → y < 256 → cond t x y < 256
cond-lt t x y hx hy = cond_both t x y (λ v. v < 256) (λ _. hx) (λ _. hy)

if_set-lt : (b a : ℕ) → a < 256 → if_set b a < 256
if_set-lt b a ha = cond-lt (eqb (b % 2) 1) a 0 ha (omega arith)

pub times-lt : (n a b : ℕ) → a < 256 → octet_times n a b < 256
unfolding octet_times
times-lt zero a b ha = omega arith
times-lt (suc n) a b ha =
    xor-octet (if_set b a) (octet_double (octet_times n a (b / 2))) (if_set-lt b a ha)
    (double-lt (octet_times n a (b / 2)) (times-lt n a (b / 2) ha))

-- a sum on the left
cond-xor_left : (t : Bool) (a c : ℕ) → cond t (bit_xor a c) 0 ≡ bit_xor (cond t a 0) (cond t c 0)
cond-xor_left true a c = refl
cond-xor_left false a c = refl

pub times-xor_left : (n a c b : ℕ) → a < 256 → c < 256 → octet_times n (bit_xor a c) b ≡ bit_xor (octet_times n a b) (octet_times n c b)
unfolding octet_times
times-xor_left zero a c b ha hc = refl
times-xor_left (suc n) a c b ha hc =
    let s = octet_times n a (b / 2) in
    let t = octet_times n c (b / 2) in
    ap (λ x. bit_xor (if_set b (bit_xor a c)) (octet_double x)) (times-xor_left n a c (b / 2) ha hc)
    ∙ ap (λ x. bit_xor (if_set b (bit_xor a c)) x) (double-xor s t (times-lt n a (b / 2) ha) (times-lt n c (b / 2) hc))
    ∙ ap (λ x. bit_xor x (bit_xor (octet_double s) (octet_double t))) (cond-xor_left (eqb (b % 2) 1) a c)
    ∙ xor_pairs (if_set b a) (if_set b c) (octet_double s) (octet_double t)

-- x passes through a product
cond-double : (t : Bool) (a : ℕ) → cond t (octet_double a) 0 ≡ octet_double (cond t a 0)
cond-double true a = refl
cond-double false a = sym double-zero

pub times-double_left : (n a b : ℕ) → a < 256 → octet_times n (octet_double a) b ≡ octet_double (octet_times n a b)
unfolding octet_times
times-double_left zero a b ha = sym double-zero
times-double_left (suc n) a b ha =
    let s = octet_times n a (b / 2) in
    ap (λ x. bit_xor (if_set b (octet_double a)) (octet_double x)) (times-double_left n a (b / 2) ha)
    ∙ ap (λ x. bit_xor x (octet_double (octet_double s))) (cond-double (eqb (b % 2) 1) a)
    ∙ sym (double-xor (if_set b a) (octet_double s) (if_set-lt b a ha) (double-lt s (times-lt n a (b / 2) ha)))

-- 0 on the left
pub times-zero_left : (n b : ℕ) → octet_times n 0 b ≡ 0
unfolding octet_times
times-zero_left zero b = refl
times-zero_left (suc n) b =
    ap (λ x. bit_xor (if_set b 0) (octet_double x)) (times-zero_left n (b / 2))
    ∙ ap (bit_xor (if_set b 0)) double-zero
    ∙ xor_zero_r (if_set b 0)
    ∙ none (eqb (b % 2) 1)
  where
    none : (t : Bool) → cond {A = ℕ} t 0 0 ≡ 0
    none true = refl
    none false = refl

-- ---- the products of octets

pub mul-lt : (a b : ℕ) → a < 256 → octet_mul a b < 256
unfolding octet_mul
mul-lt a b ha = times-lt 8 a b ha

pub mul-xor_left : (a c b : ℕ) → a < 256 → c < 256 → octet_mul (bit_xor a c) b ≡ bit_xor (octet_mul a b) (octet_mul c b)
unfolding octet_mul
mul-xor_left a c b ha hc = times-xor_left 8 a c b ha hc

pub mul-double_left : (a b : ℕ) → a < 256 → octet_mul (octet_double a) b ≡ octet_double (octet_mul a b)
unfolding octet_mul
mul-double_left a b ha = times-double_left 8 a b ha

-- it computes
pub mul-zero : (a : ℕ) → octet_mul a 0 ≡ 0
unfolding octet_mul octet_times octet_double
mul-zero a = refl

pub zero-mul : (b : ℕ) → octet_mul 0 b ≡ 0
unfolding octet_mul
zero-mul b = times-zero_left 8 b

-- the bits of the left factor, one by one
term : (t : Bool) (b a : ℕ) → a < 256 → octet_mul (cond t 1 0) a ≡ cond t a 0
term true b a ha = one-mul a ha
term false b a ha = zero-mul a

times-comm : (n a b : ℕ) → a < 256 → b < 256 → b < 2 ^ n → octet_times n a b ≡ octet_mul b a
unfolding octet_times
times-comm zero a b ha hb small = sym (ap (λ x. octet_mul x a) (let is : b ≡ 0 = omega arith in is) ∙ zero-mul a)
times-comm (suc n) a b ha hb small =
    let half : b / 2 < 256 = omega arith in
    let low : ℕ = cond (eqb (b % 2) 1) 1 0 in
    ap (λ x. bit_xor (if_set b a) (octet_double x)) (times-comm n a (b / 2) ha half (omega (arith, pow-suc 2 n)))
    ∙ ap (bit_xor (if_set b a)) (sym (mul-double_left (b / 2) a half))
    ∙ ap (λ x. bit_xor x (octet_mul (octet_double (b / 2)) a)) (sym (term (eqb (b % 2) 1) b a ha))
    ∙ sym (mul-xor_left low (octet_double (b / 2)) a (if_set-lt b 1 (omega arith)) (double-lt (b / 2) half))
    ∙ ap (λ x. octet_mul x a) (sym (by_halves b hb))

pub mul-comm : (a b : ℕ) → a < 256 → b < 256 → octet_mul a b ≡ octet_mul b a
unfolding octet_mul
mul-comm a b ha hb = times-comm 8 a b ha hb hb

pub mul-xor_right : (a b c : ℕ) → a < 256 → b < 256 → c < 256 → octet_mul a (bit_xor b c) ≡ bit_xor (octet_mul a b) (octet_mul a c)
mul-xor_right a b c ha hb hc =
    mul-comm a (bit_xor b c) ha (xor-octet b c hb hc)
    ∙ mul-xor_left b c a hb hc
    ∙ ap (λ x. bit_xor x (octet_mul c a)) (mul-comm b a hb ha)
    ∙ ap (bit_xor (octet_mul a b)) (mul-comm c a hc ha)

mul-double_right : (a b : ℕ) → a < 256 → b < 256 → octet_mul a (octet_double b) ≡ octet_double (octet_mul a b)
mul-double_right a b ha hb =
    mul-comm a (octet_double b) ha (double-lt b hb) ∙ mul-double_left b a hb ∙ ap octet_double (mul-comm b a hb ha)

pub mul-one : (a : ℕ) → a < 256 → octet_mul a 1 ≡ a
mul-one a ha = mul-comm a 1 ha (omega arith) ∙ one-mul a ha

mul-cond : (t : Bool) (a b : ℕ) → a < 256 → octet_mul a (cond t b 0) ≡ cond t (octet_mul a b) 0
mul-cond true a b ha = refl
mul-cond false a b ha = mul-zero a

times-assoc : (n a b c : ℕ) → a < 256 → b < 256 → octet_times n (octet_mul a b) c ≡ octet_mul a (octet_times n b c)
unfolding octet_times
times-assoc zero a b c ha hb = sym (mul-zero a)
times-assoc (suc n) a b c ha hb =
    let t = octet_times n b (c / 2) in
    let small = times-lt n b (c / 2) hb in
    ap (λ x. bit_xor (if_set c (octet_mul a b)) (octet_double x)) (times-assoc n a b (c / 2) ha hb)
    ∙ ap (bit_xor (if_set c (octet_mul a b))) (sym (mul-double_right a t ha small))
    ∙ ap (λ x. bit_xor x (octet_mul a (octet_double t))) (sym (mul-cond (eqb (c % 2) 1) a b ha))
    ∙ sym (mul-xor_right a (if_set c b) (octet_double t) ha (if_set-lt c b hb) (double-lt t small))

pub mul-assoc : (a b c : ℕ) → a < 256 → b < 256 → octet_mul (octet_mul a b) c ≡ octet_mul a (octet_mul b c)
unfolding octet_mul
mul-assoc a b c ha hb = times-assoc 8 a b c ha hb

-- no two octets but 0 have the product 0
pub no_zero_divisor : (a b : ℕ) → a < 256 → b < 256 → octet_mul a b ≡ 0 → (b ≡ 0 → ⊥) → a ≡ 0
no_zero_divisor a b ha hb e ne =
    sym (mul-one a ha) ∙ ap (octet_mul a) (sym (mul-inverse b hb ne)) ∙ sym (mul-assoc a b (octet_inverse b) ha hb)
    ∙ ap (λ x. octet_mul x (octet_inverse b)) e ∙ zero-mul (octet_inverse b)

-- ---- the right factor counts by its low bits alone

times-low : (n a b : ℕ) → octet_times n a (b % 2 ^ n) ≡ octet_times n a b
unfolding octet_times
times-low zero a b = refl
times-low (suc n) a b =
    let low = b % 2 ^ (n + 1) in
    let bit : low % 2 ≡ b % 2 = omega (arith, mod-pow-add b n 1) in
    ap (λ k. bit_xor (if_set (b % 2 ^ k) a) (octet_double (octet_times n a (b % 2 ^ k / 2)))) (sym (add-one n))
    ∙ ap (λ t. bit_xor (cond (eqb t 1) a 0) (octet_double (octet_times n a (low / 2)))) bit
    ∙ ap (λ h. bit_xor (if_set b a) (octet_double (octet_times n a h))) (field_of b n 1)
    ∙ ap (λ x. bit_xor (if_set b a) (octet_double x)) (times-low n a (b / 2))

pub mul-low : (a b : ℕ) → octet_mul a (b % 256) ≡ octet_mul a b
unfolding octet_mul
mul-low a b = times-low 8 a b
