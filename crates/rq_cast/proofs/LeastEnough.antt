-- The least number of repair packets by the formula.
use Rattle.std.proofs.Common.{◌≡◌, ℕ, ◌+◌, ◌*◌, ◌-◌, ◌<◌, ◌≤◌, arith, inl, inr}
use Rattle.std.specs.Int.{div_ceil}
use Rattle.std.proofs.lemmas.Bool.{cases_lt}
use Rattle.std.proofs.lemmas.Grind.{div_ceil_times}
use Rattle.std.proofs.Math.Nat.{mul-le-mul, mul-le-mul_right}
use Rattle.rq_cast.specs.Loss.{whole, IsLeastEnough}

-- the least number whose square isn't below another one: behind one whose square is
pub root_behind : (squared below r : ℕ) → below * below < squared → squared ≤ r * r → below + 1 ≤ r
root_behind squared below r less at_least = elim (cases_lt below r) [
  | inl above ↦ omega (arith, above)
  | inr under ↦ let square : r * r ≤ below * below = mul-le-mul under under in absurd (omega (arith, square, less, at_least))
]

-- or one whose square it is
pub root_at : (squared root r : ℕ) → root * root ≡ squared → squared ≤ r * r → root ≤ r
root_at squared root r is at_least = elim (cases_lt r root) [
  | inr above ↦ above
  | inl under ↦ let square : (r + 1) * (r + 1) ≤ root * root = mul-le-mul (omega (arith, under)) (omega (arith, under)) in
      absurd (grind (arith, square, is, at_least))
]

-- The least number of packets, where the root is taken upwards and what it makes is rounded up.
pub least_enough : (symbols parts root : ℕ) → 0 < whole - parts → 25 * (symbols * parts) * whole ≤ root * root
    → ((r : ℕ) → 25 * (symbols * parts) * whole ≤ r * r → root ≤ r)
    → IsLeastEnough symbols parts (div_ceil (symbols * parts + 5 * whole + root) (whole - parts))
least_enough symbols parts root some square least =
    let sum = symbols * parts + 5 * whole + root in
    let packets = div_ceil sum (whole - parts) in
    let bounds = div_ceil_times sum (whole - parts) some in
    record {
      enough = record {
        rest = packets * (whole - parts) - (symbols * parts + 5 * whole);
        cut = omega (arith, bounds.0);
        root = let more : root ≤ packets * (whole - parts) - (symbols * parts + 5 * whole) = omega (arith, bounds.0) in
            let squares : root * root ≤ (packets * (whole - parts) - (symbols * parts + 5 * whole)) * (packets * (whole - parts) - (symbols * parts + 5 * whole))
            = mul-le-mul more more in
            omega (arith, square, squares);
      };
      fewest = λ fewer less e.
          let above : root ≤ e.rest = least e.rest e.root in
          let times : (fewer + 1) * (whole - parts) ≤ packets * (whole - parts) = mul-le-mul_right (whole - parts) (omega (arith, less)) in
          let step : (fewer + 1) * (whole - parts) ≡ fewer * (whole - parts) + (whole - parts) = grind arith in
          absurd (omega (arith, above, times, step, e.cut, bounds.1));
    }
