-- How many symbols a block has, by the parts of a partition.
use Rattle.std.proofs.Common.{◌≡◌, ℕ, zero, suc, ◌+◌, ◌-◌, ◌*◌, ◌/◌, ◌%◌, ◌<◌, ◌≤◌, min, sym, ap, ◌∙◌, arith, inl, inr}
use Rattle.std.proofs.Math.Nat.{mul-le-mul}
use Rattle.std.proofs.lemmas.Bool.{cases_lt}
use Rattle.std.proofs.lemmas.Grind.{div_ceil_times}
use Rattle.rq_standard.specs.Partition.{parts_of}
use Rattle.rq_standard.specs.Configuration.{Configuration, total_symbols, largest_block}
use Rattle.rq_standard.specs.Cutting.{block_symbols, symbols_before}
use Rattle.rq_standard.proofs.BlockCuts.{larger_block, smaller_block}

abbrev pub four : ℕ → ℕ → ℕ × ℕ × ℕ × ℕ
four i j = let p = parts_of i j in (p.larger, p.smaller, p.larger_count, p.smaller_count)

pub block_parts_are : (c : Configuration) (i j : ℕ) (parts : ℕ × ℕ × ℕ × ℕ) → parts ≡ four i j → i ≡ total_symbols c → j ≡ c.source_blocks → parts ≡ four (total_symbols c) c.source_blocks
block_parts_are c i j parts is symbols blocks = is ∙ ap (λ n. four n j) symbols ∙ ap (four (total_symbols c)) blocks

pub larger_part : (c : Configuration) (b : ℕ) (parts : ℕ × ℕ × ℕ × ℕ) → parts ≡ four (total_symbols c) c.source_blocks → b < parts.2 → parts.0 ≡ block_symbols c b
larger_part c b parts is below = ap (λ p. p.0) is ∙ sym (larger_block c b (omega (arith, ap (λ (p : ℕ × ℕ × ℕ × ℕ). p.2) is)))

pub smaller_part : (c : Configuration) (b : ℕ) (parts : ℕ × ℕ × ℕ × ℕ) → parts ≡ four (total_symbols c) c.source_blocks → parts.2 ≤ b → b < c.source_blocks → parts.1 ≡ block_symbols c b
smaller_part c b parts is past below = ap (λ p. p.1) is ∙ sym (smaller_block c b (omega (arith, ap (λ (p : ℕ × ℕ × ℕ × ℕ). p.2) is)) below)

-- the bytes of a block are few
pub product_small : (n size : ℕ) → n ≤ 65535 → size ≤ 65535 → n * size ≤ 4294967296
product_small n size few small = omega (arith, mul-le-mul few small)

-- an object has few symbols, where its largest block has
pub few_symbols : (c : Configuration) → 0 < c.source_blocks → c.source_blocks ≤ 255 → largest_block c < 65536 → total_symbols c ≤ 4294967295
few_symbols c some blocks few = omega (arith, (div_ceil_times (total_symbols c) c.source_blocks some).0, mul-le-mul (few_blocks few) blocks)
  where
    few_blocks : largest_block c < 65536 → largest_block c ≤ 65535
    few_blocks below = omega arith

-- ---- how many stand before it

-- b parts, of which r are larger by one
parts_before : (s r b : ℕ) → s * b + min b r ≡ min b r * (s + min 1 r) + (b - r) * s
parts_before s zero b =
    let none : min b 0 ≡ 0 = omega arith in
    let all : b - 0 ≡ b = omega arith in
    rw (none, all) (omega arith)
parts_before s (suc r) b =
    let one : min 1 (suc r) ≡ 1 = omega arith in
    elim (cases_lt b (suc r)) [
      | inl lt ↦
          let all : min b (suc r) ≡ b = omega arith in
          let rest : b - suc r ≡ 0 = omega arith in
          rw (one, all, rest) (omega arith)
      | inr past ↦
          let some : min b (suc r) ≡ suc r = omega arith in
          rw (one, some) (behind (b - suc r) (omega arith))
    ]
  where
    behind : (d : ℕ) → b ≡ suc r + d → s * b + suc r ≡ suc r * (s + 1) + d * s
    behind d is = rw is (omega arith)

-- that is the number of symbols before a block
pub symbols_before-parts : (c : Configuration) (b n : ℕ) → 0 < c.source_blocks → n ≡ total_symbols c / c.source_blocks * b + min b (total_symbols c % c.source_blocks) → n ≡ symbols_before c b
unfolding symbols_before
symbols_before-parts c b n some is =
    let i = total_symbols c in
    let j = c.source_blocks in
    let rest : i % j ≡ i - i / j * j = omega arith in
    is ∙ parts_before (i / j) (i % j) b ∙ ap (λ r. min b r * (i / j + min 1 (i % j)) + (b - r) * (i / j)) rest

-- no more than all of them
pub few_before : (i j b : ℕ) → b < j → i / j * b + min b (i % j) ≤ i
few_before i j b below =
    let whole : i / j * j + i % j ≡ i = omega arith in
    let before : i / j * b ≤ i / j * j = mul-le-mul (omega arith) (omega arith) in
    omega arith
