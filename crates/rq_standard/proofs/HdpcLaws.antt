-- The HDPC coefficients from the last column down: each column is alpha times the next one, and MT's column added.
use Rattle.std.proofs.Common.{◌≡◌, ◌≢◌, ℕ, suc, ◌+◌, ◌-◌, ◌≤◌, ◌<◌, Bool, true, false, cond, eqb, refl, sym, ap, ◌∙◌, arith, inl, inr, ltb}
use Rattle.std.proofs.lemmas.Bool.{cases_eq, cases_lt, lt-ltb, le-leb, le-ltb, lt-leb, eq-eqb, ne_eqb}
use Rattle.std.specs.Int.Bits.{bit_xor, xor_zero_l}
use Rattle.rq_algebra.specs.Systems.{sum_below}
use Rattle.rq_algebra.specs.FromLaws.{field_mul_is}
use Rattle.rq_algebra.proofs.Sums.{add_zero, mul_zero, sum_same, sum_add, sum_mul, sum_one, sum_below_size}
use Rattle.rq_standard.specs.declared.row.TableRow.{TableRow}
use Rattle.rq_standard.specs.Octets.{octet_double, octet_mul, octet_power, octet_inverse}
use Rattle.rq_standard.specs.OctetField.{octets, octet_laws}
use Rattle.rq_standard.specs.OctetFacts.{one-mul}
use Rattle.rq_standard.specs.OctetProducts.{cond-lt, mul-double_left}
use Rattle.rq_standard.specs.Equations.{one_if, before_hdpc, mt, gamma, hdpc_coefficient}
use Rattle.rq_standard.proofs.Powers.{power-lt}

pub one_if-lt : (b : Bool) → one_if b < 256
one_if-lt true = omega arith
one_if-lt false = omega arith

mt-lt : (row : TableRow) (i j : ℕ) → mt row i j < 256
unfolding mt
mt-lt row i j = cond-lt (eqb j (before_hdpc row - 1)) (octet_power i) _ (power-lt i) (one_if-lt _)

-- ---- products with alpha

two-double : (x : ℕ) → x < 256 → octet_mul 2 x ≡ octet_double x
unfolding octet_double
two-double x lt = mul-double_left 1 x (omega arith) ∙ ap octet_double (one-mul x lt)

alpha_mul : (x : ℕ) → x < 256 → octets.mul 2 x ≡ octet_mul 2 x
alpha_mul x lt = field_mul_is 8 octet_mul octet_inverse octet_laws 2 x (omega arith) lt

-- ---- GAMMA

gamma-above : (j k : ℕ) → j < k → gamma j k ≡ 0
unfolding gamma
gamma-above j k lt = rw (lt-leb k j lt) refl

gamma-diagonal : (k : ℕ) → gamma k k ≡ 1
unfolding gamma octet_power
gamma-diagonal k = let none : k - k ≡ 0 = omega arith in rw (le-leb k k (omega arith), none) refl

gamma-below : (j k : ℕ) → k < j → gamma j k ≡ octets.mul 2 (gamma j (k + 1))
unfolding gamma octet_power
gamma-below j k lt =
    let more : j - k ≡ suc (j - (k + 1)) = omega arith in
    rw (le-leb k j (omega arith), le-leb (k + 1) j (omega arith), more) (sym (alpha_mul (octet_power (j - (k + 1))) (power-lt (j - (k + 1))) ∙ two-double (octet_power (j - (k + 1))) (power-lt (j - (k + 1)))))

-- ---- columns

-- the term of column j of MT in coefficient k
abbrev term : TableRow → ℕ → ℕ → ℕ → ℕ
term row i k j = octets.mul (mt row i j) (gamma j k)

-- what MT's own column adds to it
abbrev own : TableRow → ℕ → ℕ → ℕ → ℕ
own row i k j = cond (eqb j k) (mt row i k) 0

term-step : (row : TableRow) (i k j : ℕ) → term row i k j ≡ bit_xor (octets.mul 2 (term row i (k + 1) j)) (own row i k j)
term-step row i k j =
    let m = mt row i j in
    elim (cases_eq j k) [
      | inl e ↦
          let zero_next : gamma j (k + 1) ≡ 0 = gamma-above j (k + 1) (omega arith) in
          let one_here : gamma j k ≡ 1 = ap (λ n. gamma j n) (sym e) ∙ gamma-diagonal j in
          let nothing : octets.mul 2 (term row i (k + 1) j) ≡ 0 = ap (λ g. octets.mul 2 (octets.mul m g)) zero_next ∙ ap (octets.mul 2) (mul_zero octets m) ∙ mul_zero octets 2 in
          let here : term row i k j ≡ m = ap (octets.mul m) one_here ∙ octets.mul_comm m 1 ∙ octets.one_mul m (mt-lt row i j) in
          let added : own row i k j ≡ m = rw (eq-eqb j k e) (ap (mt row i) (sym e)) in
          here ∙ sym (xor_zero_l m) ∙ ap (λ x. bit_xor x m) (sym nothing) ∙ ap (bit_xor (octets.mul 2 (term row i (k + 1) j))) (sym added)
      | inr d ↦
          let added : own row i k j ≡ 0 = rw (ne_eqb j k d) refl in
          elim (cases_lt j k) [
            | inl lt ↦
                let here : term row i k j ≡ 0 = ap (octets.mul m) (gamma-above j k lt) ∙ mul_zero octets m in
                let next : octets.mul 2 (term row i (k + 1) j) ≡ 0 = ap (λ g. octets.mul 2 (octets.mul m g)) (gamma-above j (k + 1) (omega arith)) ∙ ap (octets.mul 2) (mul_zero octets m) ∙ mul_zero octets 2 in
                cc (here, next, added, xor_zero_l 0)
            | inr le ↦
                let g = gamma j (k + 1) in
                let here : term row i k j ≡ octets.mul 2 (octets.mul m g) =
                ap (octets.mul m) (gamma-below j k (omega arith)) ∙ sym (octets.mul_assoc m 2 g) ∙ ap (λ x. octets.mul x g) (octets.mul_comm m 2) ∙ octets.mul_assoc 2 m g in
                here ∙ sym (add_zero octets (octets.mul 2 (octets.mul m g))) ∙ ap (bit_xor (octets.mul 2 (octets.mul m g))) (sym added)
          ]
    ]

-- the coefficient as a sum of these terms
coefficient-is : (row : TableRow) (i k : ℕ) → k < before_hdpc row → hdpc_coefficient row i k ≡ sum_below octets (before_hdpc row) (term row i k)
unfolding hdpc_coefficient
coefficient-is row i k lt = rw (lt-ltb k (before_hdpc row) lt) refl

pub hdpc-lt : (row : TableRow) (i k : ℕ) → hdpc_coefficient row i k < 256
unfolding hdpc_coefficient
hdpc-lt row i k = cond-lt (ltb k (before_hdpc row)) _ _ (sum_below_size octets (before_hdpc row) (term row i k) (λ j l. octets.mul_below (mt row i j) (gamma j k))) (one_if-lt _)

-- column K' + S - 1 is that of MT
pub hdpc-last : (row : TableRow) (i : ℕ) → 0 < before_hdpc row → hdpc_coefficient row i (before_hdpc row - 1) ≡ octet_power i
unfolding mt
hdpc-last row i some =
    let last = before_hdpc row - 1 in
    let m = mt row i last in
    let above : (j : ℕ) → j < before_hdpc row → j ≢ last → term row i last j ≡ 0 =
    λ j l d. (ap (octets.mul (mt row i j)) (gamma-above j last (omega arith)) ∙ mul_zero octets (mt row i j)) in
    let is_power : m ≡ octet_power i = rw (eq-eqb last last refl) refl in
    coefficient-is row i last (omega arith)
    ∙ sum_one octets (before_hdpc row) (term row i last) last (omega arith) above
    ∙ ap (octets.mul m) (gamma-diagonal last) ∙ octets.mul_comm m 1 ∙ octets.one_mul m (mt-lt row i last) ∙ is_power

-- each other column by the one after it
pub hdpc-step : (row : TableRow) (i k : ℕ) → k + 1 < before_hdpc row → hdpc_coefficient row i k ≡ bit_xor (octet_mul 2 (hdpc_coefficient row i (k + 1))) (mt row i k)
hdpc-step row i k lt =
    let n = before_hdpc row in
    let next = hdpc_coefficient row i (k + 1) in
    let own_sum : sum_below octets n (own row i k) ≡ mt row i k =
    sum_one octets n (own row i k) k (omega arith) (λ j l d. rw (ne_eqb j k d) refl) ∙ rw (eq-eqb k k refl) refl in
    let scaled : sum_below octets n (λ j. octets.mul 2 (term row i (k + 1) j)) ≡ octet_mul 2 next =
    sum_mul octets n 2 (term row i (k + 1)) ∙ ap (octets.mul 2) (sym (coefficient-is row i (k + 1) lt)) ∙ alpha_mul next (hdpc-lt row i (k + 1)) in
    coefficient-is row i k (omega arith)
    ∙ sum_same octets n (term row i k) (λ j. bit_xor (octets.mul 2 (term row i (k + 1) j)) (own row i k j)) (λ j l. term-step row i k j)
    ∙ sum_add octets n (λ j. octets.mul 2 (term row i (k + 1) j)) (own row i k)
    ∙ ap (λ x. bit_xor x (sum_below octets n (own row i k))) scaled
    ∙ ap (bit_xor (octet_mul 2 next)) own_sum

-- then come the HDPC symbols' own columns
pub hdpc-own : (row : TableRow) (i k : ℕ) → before_hdpc row ≤ k → hdpc_coefficient row i k ≡ one_if (eqb k (before_hdpc row + i))
unfolding hdpc_coefficient
hdpc-own row i k le = rw (le-ltb k (before_hdpc row) le) refl
