-- The places of the LDPC equations are three, and the places of an id lie below L.
use Rattle.std.proofs.Common.{◌≡◌, ◌≢◌, ℕ, ◌+◌, ◌-◌, ◌*◌, ◌/◌, ◌%◌, ◌≤◌, ◌<◌, true, ltb, List, [], ◌∷◌, take, filter, refl, sym, ap, ◌∙◌, arith, ⊎_elim, inl, inr, ◌⊎◌}
use Rattle.std.proofs.lemmas.Bool.{cases_lt, ltb-true}
use Rattle.std.proofs.Math.Nat.{mod-eq_of_lt, add-mod_right, mod-add-mod, lt_of_mul-lt-mul_left}
use Rattle.std.specs.List.{All, range_with_len}
use Rattle.rq_standard.specs.declared.row.TableRow.{TableRow}
use Rattle.std.proofs.lemmas.List.Elements.{All-nil, All-cons, All-append, All-map, All-take, All-weaker, filter_passes}
use Rattle.rq_standard.specs.Tuple.{Tuple, tuple_of, enc_indices, lt_indices, pi_indices, pi_values}
use Rattle.rq_standard.specs.TableRows.{IsChecked, b_of, pi_symbols, intermediate_symbols}
use Rattle.rq_standard.specs.Equations.{ldpc_step, row_indices}
use Rattle.rq_standard.specs.TableLaws.{LdpcRowsAreThree, IndicesAreBelow}

-- the sum modulo m of two numbers below it, where it is no less than m
pub sum_past : (m x y : ℕ) → x < m → y < m → m ≤ x + y → (x + y) % m ≡ x + y - m
sum_past m x y hx hy past =
    let same : x + y ≡ (x + y - m) + m = omega arith in
    ap (λ (n : ℕ). n % m) same ∙ add-mod_right (x + y - m) m ∙ mod-eq_of_lt (let lt : x + y - m < m = omega arith in lt)

-- a step leads to the sum, or to what is m less
step_to : (m x a y : ℕ) → x < m → a < m → y ≡ (x + a) % m → (x + a ≡ y) ⊎ (x + a ≡ y + m)
step_to m x a y hx below is = elim (cases_lt (x + a) m) [
  | inl low ↦ inl (sym (is ∙ mod-eq_of_lt low))
  | inr high ↦ inr (omega (arith, is ∙ sum_past m x a hx below high))
]

-- a step that is neither 0 nor the modulus leads elsewhere, and so do two where the modulus is odd
one_step : (m x a : ℕ) → x < m → 1 ≤ a → a < m → x ≢ (x + a) % m
one_step m x a hx some below = λ same. elim (step_to m x a x hx below same) [ inl e ↦ omega arith | inr e ↦ omega arith ]

two_steps : (m x a : ℕ) → x < m → 1 ≤ a → a < m → m % 2 ≡ 1 → x ≢ ((x + a) % m + a) % m
two_steps m x a hx some below odd = λ same.
    let y = (x + a) % m in
    let there : y < m = omega arith in
    let second = step_to m y a x there below same in
    elim (step_to m x a y hx below refl) [
      | inl e ↦ elim second [ inl f ↦ omega (arith, e, f) | inr f ↦ omega (arith, e, f) ]
      | inr e ↦ elim second [ inl f ↦ omega (arith, e, f) | inr f ↦ omega (arith, e, f) ]
    ]

-- the step of one of the first B symbols is below S
step-lt : (row : TableRow) (i : ℕ) → IsChecked row → i < b_of row → ldpc_step row i < row.ldpc_symbols
step-lt row i checked lt =
    let s = row.ldpc_symbols in
    let some : 0 < s = omega (arith, checked.odd) in
    let whole : s * (i / s) + i % s ≡ i = omega arith in
    let product : s * (i / s) < s * (s - 1) = omega (arith, whole, checked.few_b) in
    let quotient : i / s < s - 1 = lt_of_mul-lt-mul_left s product in
    omega arith

pub ldpc_places : LdpcRowsAreThree
ldpc_places row i checked lt =
    let s = row.ldpc_symbols in
    let a = ldpc_step row i in
    let some : 0 < s = omega (arith, checked.odd) in
    let x = i % s in
    let hx : x < s = omega arith in
    let below : a < s = step-lt row i checked lt in
    let first : (i + a) % s ≡ (x + a) % s = sym (mod-add-mod i s a) in
    let second : (i + 2 * a) % s ≡ ((x + a) % s + a) % s =
    ap (λ (n : ℕ). n % s) (let same : i + 2 * a ≡ i + a + a = omega arith in same) ∙ sym (mod-add-mod (i + a) s a) ∙ ap (λ (n : ℕ). (n + a) % s) first in
    let y = (x + a) % s in
    let hy : y < s = omega arith in (
      λ e. one_step s x a hx (omega arith) below (e ∙ first),
      λ e. one_step s y a hy (omega arith) below (sym first ∙ e ∙ second),
      λ e. two_steps s x a hx (omega arith) below checked.odd (e ∙ second),
    )

-- ---- places lie below L

every : (P : ℕ → Type 0) → ((x : ℕ) → P x) → (xs : List ℕ) → All P xs
every P holds [] = All-nil P
every P holds (x ∷ xs) = All-cons P x xs (holds x) (every P holds xs)

lt_below : (w p : ℕ) (t : Tuple) → 0 < w → All (λ place. place < w + p) (lt_indices w t)
lt_below w p t some =
    All-map (λ place. place < w + p) (λ j. (t.2 + t.1 * j) % w) (range_with_len 0 t.0)
    (every (λ j. (t.2 + t.1 * j) % w < w + p) (λ j. let lt : (t.2 + t.1 * j) % w < w = omega arith in omega arith) (range_with_len 0 t.0))

pi_below : (w p p1 : ℕ) (t : Tuple) → All (λ place. place < w + p) (pi_indices w p p1 t)
pi_below w p p1 t =
    let values = filter (λ value. ltb value p) (pi_values (t.3 * p1) p1 t) in
    All-map (λ place. place < w + p) (λ value. w + value) (take t.3 values)
    (All-take (λ value. w + value < w + p) t.3 values
    (All-weaker (λ value. ltb value p ≡ true) (λ value. w + value < w + p) (λ value passes. let lt = ltb-true value p passes in omega (arith, lt)) values
    (filter_passes (λ value. ltb value p) (pi_values (t.3 * p1) p1 t))))

pub places_below : (w p p1 : ℕ) (t : Tuple) → 0 < w → All (λ place. place < w + p) (enc_indices w p p1 t)
unfolding enc_indices
places_below w p p1 t some = All-append (λ place. place < w + p) (lt_indices w t) (pi_indices w p p1 t) (lt_below w p t some) (pi_below w p p1 t)

pub row_indices_below : IndicesAreBelow
row_indices_below row x checked =
    let w = row.lt_symbols in
    let sum : w + pi_symbols row ≡ intermediate_symbols row = omega (arith, checked.three_pi) in
    All-weaker (λ place. place < w + pi_symbols row) (λ place. place < intermediate_symbols row) (λ place lt. omega (arith, sum)) (row_indices row x)
    (places_below w (pi_symbols row) row.p1 (tuple_of w row.systematic_index row.p1 x) (omega (arith, checked.some_b)))

-- a checked row has three LDPC symbols and an LT symbol that is none at least
pub enough_lt : (row : TableRow) → IsChecked row → 4 ≤ row.lt_symbols
enough_lt row checked =
    ⊎_elim
    (λ (few : row.ldpc_symbols < 3).
    let one : row.ldpc_symbols ≡ 1 = omega (arith, checked.odd) in
    let none : row.lt_symbols - 1 ≤ 0 = rw one at checked.few_b in
    absurd (omega (arith, none, one, checked.some_b)))
    (λ (enough : 3 ≤ row.ldpc_symbols). omega (arith, checked.some_b))
    (cases_lt row.ldpc_symbols 3)
