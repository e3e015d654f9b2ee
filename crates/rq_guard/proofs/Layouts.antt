-- Layouts are configurations that coders take.
use Rattle.std.proofs.Common.{◌≡◌, ◌⊎◌, ℕ, ◌+◌, ◌*◌, ◌%◌, ◌<◌, ◌≤◌, Bool, true, false, cond, Ok, Err, Result, if◌then◌else◌, inl, inr, refl, sym, ap, subst, ◌∙◌, arith}
use Rattle.std.specs.Prelude.{IfErr, IfOk, not, ◌&&◌, nat_lt}
use Rattle.std.specs.Int.{div_ceil}
use Rattle.std.proofs.Math.Nat.{lt_of_mul-lt-mul_right}
use Rattle.std.proofs.lemmas.Bool.{le-ltb, ne_eqb, eq-eqb}
use Rattle.std.proofs.lemmas.Grind.{div_ceil_times}
use Rattle.rq_bytes.specs.Refusals.{and_then}
use Rattle.rq_bytes.specs.declared.error.Error.{Error}
use Rattle.rq_bytes.specs.declared.error.Error.TheVariants.{TransferTooLong, Misaligned, TooManySymbols}
use Rattle.rq_standard.specs.Configuration.{Configuration, IsAccepted, largest_block}
use Rattle.rq_base.specs.RefusedInput.{configuration_of, checked_alignment, new_configuration, greatest_transfer_length}
use Rattle.rq_guard.specs.Layout.{unit_of, IsSymbolSize}

-- what is right has no error
pub no_error : {T E : Type 0} (P : E → Type 0) (r : Result T E) (x : T) → r ≡ Ok x → IfErr r P
no_error P (Ok y) x is = tt
no_error P (Err e) x is = absurd (cc is)

-- a quotient that is rounded up
ceil_below : (a b n : ℕ) → 0 < b → a ≤ b * n → div_ceil a b ≤ n
ceil_below a b n some h =
    let above : div_ceil a b * b < (n + 1) * b = omega (arith, h, (div_ceil_times a b some).1) in
    omega (arith, lt_of_mul-lt-mul_right b above)

ceil_by_one : (a : ℕ) → div_ceil a 1 ≡ a
ceil_by_one a = omega arith

units_are : (length : ℕ) → (unit_of length ≡ 8) ⊎ (unit_of length ≡ 4096)
units_are length = by (nat_lt length 4000000)
  where
    by : (is_small : Bool) → let unit : ℕ = if is_small then 8 else 4096 in (unit ≡ 8) ⊎ (unit ≡ 4096)
    by true = inl refl
    by false = inr refl

module _ (length size : ℕ) (is : IsSymbolSize length size) where
  abbrev layout : Configuration
  layout = configuration_of length size 1 1 8

  whole_units : size % 8 ≡ 0
  whole_units = by (units_are length)
    where
      by : (unit_of length ≡ 8) ⊎ (unit_of length ≡ 4096) → size % 8 ≡ 0
      by (inl e) = omega (arith, is.multiple ∙ ap (λ u. is.units * u) e)
      by (inr e) = omega (arith, is.multiple ∙ ap (λ u. is.units * u) e)

  positive_size : 0 < size
  positive_size = by (units_are length)
    where
      by : (unit_of length ≡ 8) ⊎ (unit_of length ≡ 4096) → 0 < size
      by (inl e) = omega (arith, is.some, is.multiple ∙ ap (λ u. is.units * u) e)
      by (inr e) = omega (arith, is.some, is.multiple ∙ ap (λ u. is.units * u) e)

  few_symbols : largest_block layout ≤ 16384
  few_symbols = omega (arith, ceil_below length size 16384 positive_size is.few, ceil_by_one (div_ceil length size))

  pub accepted_layout : IsAccepted 16384 layout
  accepted_layout = record {
    size_positive = positive_size;
    alignment_positive = omega arith;
    aligned = whole_units;
    blocks_positive = omega arith;
    in_table = few_symbols;
  }

  aligned : checked_alignment size 8 ≡ Ok tt
  aligned = ap (λ b. cond (not b) (Err Misaligned) (Ok tt)) (eq-eqb (size % 8) 0 whole_units)

  -- the tests, one behind another
  abbrev tested : Bool → Result (Unit {0}) Error → Bool → Result Configuration Error
  tested is_long alignment are_many =
      cond is_long (Err TransferTooLong) (and_then alignment (λ _. cond are_many (Err TooManySymbols) (Ok layout)))

  pub new_configuration-layout : length ≤ 1006632960 → new_configuration layout ≡ Ok layout
  new_configuration-layout fits =
      let short = le-ltb greatest_transfer_length length (omega (arith, fits)) in
      let some = ne_eqb size 0 (λ e. omega (arith, e, positive_size)) in
      let few = le-ltb 56403 (largest_block layout) (omega (arith, few_symbols)) in
      λ j. tested (short j) (aligned j) (not (some j) && true && few j)

  pub accepted_made : (r : Result Configuration Error) → r ≡ Ok layout → IfOk r (IsAccepted 16384)
  accepted_made r made = subst (λ (k : Result Configuration Error). IfOk k (IsAccepted 16384)) (sym made) accepted_layout
