-- The parts of a partition are the whole.
use Rattle.std.proofs.Common.{◌≡◌, ℕ, zero, suc, ◌+◌, ◌-◌, ◌*◌, ◌/◌, ◌%◌, ◌<◌, min, arith, ◌⊎◌, inl, inr, refl, ◌∙◌}
use Rattle.std.specs.Int.{div_ceil}

-- r of the larger and q of the smaller
by_count : (l s r q : ℕ) → (r ≡ 0) ⊎ (l ≡ s + 1) → l * r + s * q ≡ r + s * (r + q)
by_count l s r q (inl e) = rw e (omega arith)
by_count l s r q (inr e) = rw e (omega arith)

-- where there are larger parts, they are larger by one
larger : (s r : ℕ) → (r ≡ 0) ⊎ (s + min 1 r ≡ s + 1)
larger s zero = inl refl
larger s (suc r) = inr (omega arith)

pub parts-whole : (i j : ℕ) → 0 < j → div_ceil i j * (i - i / j * j) + i / j * (j - (i - i / j * j)) ≡ i
parts-whole i j h =
    let e : i - i / j * j ≡ i % j = omega arith in
    let q : i % j + (j - i % j) ≡ j = omega arith in
    let p = by_count (div_ceil i j) (i / j) (i % j) (j - i % j) (larger (i / j) (i % j)) in
    rw e (p ∙ rw q (omega arith))
