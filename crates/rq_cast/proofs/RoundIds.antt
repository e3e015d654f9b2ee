-- The ids of a round have 24 bits.
use Rattle.std.proofs.Common.{◌≡◌, ℕ, zero, suc, ◌+◌, ◌-◌, ◌*◌, ◌/◌, ◌^◌, ◌<◌, ◌≤◌, arith, mul-le-mul_right}
use Rattle.std.proofs.Math.Nat.{div-mul-le_self, lt_of_mul-lt-mul_right}
use Rattle.std.proofs.lemmas.Grind.{div_ceil_times}
use Rattle.std.proofs.lemmas.Nat.{le-div}
use Rattle.rq_cast.specs.Ids.{AreIds}
use Rattle.rq_cast.specs.Rounds.{ids_from}

module _ (step : ℕ) (some : 0 < step) where
  -- each of them is below the end
  id_below : (id i : ℕ) → i < ids_from id step → id + step * i < 2 ^ 24
  id_below id i below =
      let times = div_ceil_times (2 ^ 24 - id) step some in
      let next : (i + 1) * step ≤ ids_from id step * step = mul-le-mul_right step (omega (arith, below)) in
      let turned : (i + 1) * step ≡ step * i + step = omega arith in
      omega (arith, times.1, next, turned)

  -- so many are there
  pub all_from : (id count : ℕ) → AreIds id step count → count ≤ ids_from id step
  all_from id zero are = omega arith
  all_from id (suc n) are =
      let last : id + step * n < 2 ^ 24 = are n (omega arith) in
      let times = div_ceil_times (2 ^ 24 - id) step some in
      let turned : n * step ≡ step * n = omega arith in
      let least : n * step < ids_from id step * step = omega (arith, last, times.0, turned) in
      let less : n < ids_from id step = lt_of_mul-lt-mul_right step least in
      omega (arith, less)

  module _ (count : ℕ) (many : 0 < count) where
    -- those of a stretch of so many that fits behind others of them
    pub stretch_are : (id number : ℕ) → number < ids_from id step / count → AreIds (id + step * (number * count)) step count
    stretch_are id number fits k below =
        let whole : (number + 1) * count ≤ ids_from id step / count * count = mul-le-mul_right count (omega (arith, fits)) in
        let within : ids_from id step / count * count ≤ ids_from id step = div-mul-le_self (ids_from id step) count in
        let next : (number + 1) * count ≡ number * count + count = omega arith in
        let one = id_below id (number * count + k) (omega (arith, whole, within, next, below)) in
        let parts : step * (number * count + k) ≡ step * (number * count) + step * k = omega arith in
        omega (arith, one, parts)

    -- one at least fits behind the least of them
    pub some_fit : (id least : ℕ) → least ≤ id → AreIds id step count → 0 < ids_from least step / count
    some_fit id least before are =
        let all = all_from id count are in
        let more : AreIds least step count = λ k below. omega (arith, are k below, before) in
        let there = all_from least count more in
        le-div 1 (ids_from least step) count many (omega (arith, there))
