-- The least number that passes a test.
use Rattle.std.proofs.Common.{◌≡◌, ℕ, zero, suc, ◌+◌, ◌-◌, ◌*◌, ◌≤◌, ◌<◌, Bool, true, false, cond, leb, refl, sym, ap, ◌∙◌, arith, ⊎_elim, List}
use Rattle.std.proofs.lemmas.Bool.{cases_Bool, cases_eq, le-leb}
use Rattle.std.proofs.lemmas.Grind.{div_ceil_times}
use Rattle.std.proofs.Math.Nat.{lt_of_mul-lt-mul_right}
use Rattle.std.specs.Int.{div_ceil}
use Rattle.rq_standard.specs.declared.row.TableRow.{TableRow}
use Rattle.rq_standard.specs.Parameters.{first_from, IsLeast, fitting_block, most_sub_blocks, symbols_for, blocks_for, sub_blocks_for, is_fitting}

pub first_from-step : (test : ℕ → Bool) (n end : ℕ) → n < end → first_from test n (end - n) ≡ cond (test n) n (first_from test (n + 1) (end - (n + 1)))
unfolding first_from
first_from-step test n end lt = let same : end - n ≡ suc (end - (n + 1)) = omega arith in rw same refl

pub first_from-none : (test : ℕ → Bool) (n more : ℕ) → more ≡ 0 → first_from test n more ≡ n
unfolding first_from
first_from-none test n more none = rw none refl

-- the first number from a start on: none from the start on and before it passes
record IsFirst (test : ℕ → Bool) (start n : ℕ) : Type 0 where
  from : start ≤ n
  passes : test n ≡ true
  first : (m : ℕ) → start ≤ m → m < n → test m ≡ false

-- where one of the numbers passes, the first is found
first_found : (test : ℕ → Bool) (start more witness : ℕ) → start ≤ witness → witness < start + more → test witness ≡ true → IsFirst test start (first_from test start more)
unfolding first_from
first_found test start zero witness from before passes = absurd (omega arith)
first_found test start (suc more) witness from before passes =
    ⊎_elim
    (λ (here : test start ≡ true). rw here (record { from = omega arith; passes = here; first = λ m l r. absurd (omega arith) }))
    (λ (later : test start ≡ false).
    let other : start ≡ witness → ⊥ = λ e. (let clash : true ≡ false = sym passes ∙ ap test (sym e) ∙ later in absurd (cc)) in
    let rest = first_found test (start + 1) more witness (omega (arith, other)) (omega arith) passes in
    rw later (record {
      from = omega (arith, rest.from);
      passes = rest.passes;
      first = λ m l r.
          ⊎_elim
          (λ (e : m ≡ start). rw e later)
          (λ (d : m ≡ start → ⊥). rest.first m (omega (arith, d)) r)
          (cases_eq m start);
    }))
    (cases_Bool (test start))

-- a product that is at least a positive number has a positive factor
ceil_positive : (a c : ℕ) → 0 < a → a ≤ div_ceil a c * c → 0 < div_ceil a c
ceil_positive a c some covered =
    ⊎_elim
    (λ (none : div_ceil a c ≡ 0). let h : a ≤ 0 * c = rw none at covered in absurd (omega arith))
    (λ (d : div_ceil a c ≡ 0 → ⊥). omega (arith, d))
    (cases_eq (div_ceil a c) 0)

-- something is cut into some parts
pub ceil_some : (a c : ℕ) → 0 < a → 0 < c → 0 < div_ceil a c
ceil_some a c some parts = let covered = div_ceil_times a c parts in ceil_positive a c some covered.0

-- parts of at most c make as many parts that each is at most c
ceil_within : (a c : ℕ) → 0 < a → 0 < c → div_ceil a (div_ceil a c) ≤ c
ceil_within a c some parts =
    let z = div_ceil a c in
    let x = div_ceil a z in
    let covered = div_ceil_times a c parts in
    let z_some : 0 < z = ceil_some a c some parts in
    let close = div_ceil_times a z z_some in
    let product : x * z < (c + 1) * z = omega (arith, close.1, covered.0) in
    let below : x < c + 1 = lt_of_mul-lt-mul_right z product in
    omega arith

-- the greatest number of sub-blocks is one with which the largest block fits, so that there is a least
pub least_sub_blocks : (rows : List TableRow) (length s memory : ℕ) → 0 < symbols_for length s → 0 < fitting_block rows s memory (most_sub_blocks s) → 0 < most_sub_blocks s →
    IsLeast (is_fitting rows s memory (div_ceil (symbols_for length s) (blocks_for rows length s memory))) (sub_blocks_for rows length s memory)
unfolding sub_blocks_for
least_sub_blocks rows length s memory symbols fitting most =
    let largest = div_ceil (symbols_for length s) (blocks_for rows length s memory) in
    let fits : leb largest (fitting_block rows s memory (most_sub_blocks s)) ≡ true = le-leb _ _ (ceil_within (symbols_for length s) (fitting_block rows s memory (most_sub_blocks s)) symbols fitting) in
    let found = first_found (is_fitting rows s memory largest) 1 (most_sub_blocks s) (most_sub_blocks s) (omega arith) (omega arith) fits in
    record { from_one = found.from; passes = found.passes; least = found.first }
