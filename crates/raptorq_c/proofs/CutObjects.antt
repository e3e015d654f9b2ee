-- How objects are cut.
use Rattle.raptorq_c.proofs.Names.{◌≡◌, ◌<◌, ℕ, Bool, true, false, Ok, refl, ap, ◌∙◌, subst, arith, ◌+◌, ◌*◌, ◌≤◌, eqb, ltb, not, ◌&&◌, ◌||◌, SymbolSizeZero, TransferLengthZero, TooManyBlocks, TransferTooLong, TooManySymbols, Configuration, largest_block, greatest_size, MAX_SOURCE_SYMBOLS_PER_BLOCK, both_ok, passed, same_ok}
use Rattle.raptorq_c.proofs.Names.{checked_configuration, checked_alignment, configuration_of, greatest_transfer_length, greatest, full_rows, fewest_blocks, CutsAsAsked, IsCutFor}
use Rattle.std.specs.Int.{div_ceil}
use Rattle.std.proofs.lemmas.Grind.{div_ceil_times}
use Rattle.std.proofs.Math.Nat.{lt_of_mul-lt-mul_right, mul-le-mul_right}
use Rattle.rq_standard.proofs.LeastNumbers.{ceil_some}

positive : (n : ℕ) → eqb n 0 ≡ false → 0 < n
positive n h = grind (arith)

neither : (a b : Bool) → (a || b) ≡ false → (a ≡ false) × (b ≡ false)
neither true b h = absurd (cc h)
neither false b h = (refl, h)

-- parts of at most `most`, as few as can be, are so many that each is at most that
ceil_within : (a most : ℕ) → 0 < a → 0 < most → div_ceil a (div_ceil a most) ≤ most
ceil_within a most some parts =
    let z = div_ceil a most in
    let close = div_ceil_times a z (ceil_some a most some parts) in
    let product : div_ceil a z * z < (most + 1) * z = omega (arith, close.1, (div_ceil_times a most parts).0) in
    let below : div_ceil a z < most + 1 = lt_of_mul-lt-mul_right z product in
    omega (arith, below)

-- and with fewer parts one is larger
ceil_fewest : (a most z : ℕ) → 0 < most → 0 < z → div_ceil a z ≤ most → div_ceil a most ≤ z
ceil_fewest a most z parts some within =
    let covered : a ≤ most * z = omega (arith, (div_ceil_times a z some).0, mul-le-mul_right z within) in
    let product : div_ceil a most * most < (z + 1) * most = omega (arith, covered, (div_ceil_times a most parts).1) in
    let below : div_ceil a most < z + 1 = lt_of_mul-lt-mul_right most product in
    omega (arith, below)

module _ (length size most : ℕ) where
  abbrev asked : Configuration
  asked = configuration_of length size (fewest_blocks length size most) 1 1

  tests_pass : eqb size 0 ≡ false → 0 < asked.source_blocks → checked_alignment size 1 ≡ Ok tt
      → (not (eqb size 0) && not (eqb asked.source_blocks 0) && ltb MAX_SOURCE_SYMBOLS_PER_BLOCK (largest_block asked)) ≡ false → checked_configuration (greatest_size full_rows) asked ≡ Ok tt
  tests_pass sized blocks aligned few =
      let some : eqb asked.source_blocks 0 ≡ false = grind (arith, blocks) in
      let in_table : ltb MAX_SOURCE_SYMBOLS_PER_BLOCK (largest_block asked) ≡ false = rw (sized, some) at few in
      let in_rows : ltb (greatest_size full_rows) (largest_block asked) ≡ false = ap (λ n. ltb n (largest_block asked)) greatest ∙ in_table in
      rw (sized, aligned, some, in_rows) refl

pub cuts_as_asked : CutsAsAsked
cuts_as_asked length size most c is =
    let sized = passed (eqb size 0) SymbolSizeZero _ c is in
    let some = passed (eqb length 0) TransferLengthZero _ c sized.1 in
    let many = passed (eqb most 0 || ltb 255 (fewest_blocks length size most)) TooManyBlocks _ c some.1 in
    let long = passed (ltb greatest_transfer_length length) TransferTooLong _ c many.1 in
    let aligned = both_ok (checked_alignment size 1) _ c long.1 in
    let few = passed (not (eqb size 0) && not (eqb (fewest_blocks length size most) 0) && ltb MAX_SOURCE_SYMBOLS_PER_BLOCK (largest_block (asked length size most))) TooManySymbols (Ok (asked length size most)) c aligned.2 in
    let parts : 0 < most = positive most (neither (eqb most 0) _ many.0).0 in
    let symbols : 0 < div_ceil length size = ceil_some length size (positive length some.0) (positive size sized.0) in
    let blocks : 0 < fewest_blocks length size most = ceil_some (div_ceil length size) most symbols parts in
    subst (IsCutFor most) (same_ok (asked length size most) c few.1) (record {
      bounded = ceil_within (div_ceil length size) most symbols parts;
      fewest = λ z positive_z within. ceil_fewest (div_ceil length size) most z parts positive_z within;
      taken = tests_pass length size most sized.0 blocks aligned.1 few.0;
    })
