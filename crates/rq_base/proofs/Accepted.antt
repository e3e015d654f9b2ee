-- What is said of a configuration by tests that it passes.
use Rattle.std.proofs.Common.{◌≡◌, ℕ, ◌%◌, ◌<◌, Bool, true, false, cond, eqb, ltb, Result, Ok, Err, refl, arith}
use Rattle.std.specs.Prelude.{not}
use Rattle.std.proofs.lemmas.Bool.{eqb-true, ltb-false, not-false}
use Rattle.rq_bytes.specs.declared.error.Error.{Error}
use Rattle.rq_bytes.specs.declared.error.Error.TheVariants.{SymbolSizeZero, AlignmentZero, Misaligned, SourceBlocksZero, BlockOverTable}
use Rattle.rq_bytes.specs.Refusals.{and_then}
use Rattle.rq_standard.specs.Configuration.{Configuration, IsAccepted, largest_block}
use Rattle.rq_base.specs.RefusedInput.{checked_configuration, checked_symbols}

-- a chain that is Ok has steps that are
pub both_ok : {X Y : Type 0} (r : Result X Error) (f : X → Result Y Error) (y : Y) → and_then r f ≡ Ok y → (x : X) × (r ≡ Ok x) × (f x ≡ Ok y)
both_ok (Ok x) f y h = (x, refl, h)
both_ok (Err e) f y h = absurd (cc h)

-- what isn't refused
abbrev pub ok_of : {X : Type 0} → X → Result X Error
ok_of x = Ok x

pub same_ok : {X : Type 0} (x y : X) → ok_of x ≡ ok_of y → x ≡ y
same_ok x y is = cc

-- a chain that is Ok has passed its first test, and the rest of it
pub passed : {X : Type 0} (a : Bool) (e : Error) (r : Result X Error) (y : X) → cond a (Err e) r ≡ Ok y → (a ≡ false) × (r ≡ Ok y)
passed true e r y is = absurd (cc is)
passed false e r y is = (refl, is)

positive : (n : ℕ) → eqb n 0 ≡ false → 0 < n
positive n h = grind (arith)

-- a configuration that passes the tests is accepted
pub accepted_by : (greatest : ℕ) (c : Configuration) → checked_configuration greatest c ≡ Ok tt → IsAccepted greatest c
accepted_by greatest c h =
    let symbols = both_ok (checked_symbols c) _ tt h in
    let size = passed (eqb c.symbol_size 0) SymbolSizeZero _ _ symbols.1 in
    let alignment = passed (eqb c.alignment 0) AlignmentZero _ _ size.1 in
    let divides = passed (not (eqb (c.symbol_size % c.alignment) 0)) Misaligned _ _ alignment.1 in
    let blocks = passed (eqb c.source_blocks 0) SourceBlocksZero _ _ symbols.2 in
    let table = passed (ltb greatest (largest_block c)) BlockOverTable _ _ blocks.1 in
    record {
      size_positive = positive c.symbol_size size.0;
      alignment_positive = positive c.alignment alignment.0;
      aligned = eqb-true (c.symbol_size % c.alignment) 0 (not-false (eqb (c.symbol_size % c.alignment) 0) divides.0);
      blocks_positive = positive c.source_blocks blocks.0;
      in_table = ltb-false greatest (largest_block c) table.0;
    }
