-- A list that is read can be used.
use Rattle.std.proofs.Common.{◌≡◌, ℕ, ◌<◌, List, length, Option, Some, None, Ok, Err, Result, Bool, true, false, cond, is_ok, refl, sym, ap, subst, arith, eqb-true}
use Rattle.std.specs.Prelude.{option_and_then, nat_eq, ◌&&◌}
use Rattle.std.specs.Int.{div_ceil}
use Rattle.std.proofs.lemmas.Bool.{and_parts, true≢false}
use Rattle.rq_bytes.specs.declared.error.Error.{Error}
use Rattle.rq_standard.specs.Configuration.{total_symbols, largest_block}
use Rattle.rq_base.specs.RefusedInput.{checked_configuration}
use Rattle.rq_base.proofs.Accepted.{accepted_by}
use Rattle.rq_cells.specs.declared.head.Head.{Head}
use Rattle.rq_cells.specs.Cells.{Key, head_at}
use Rattle.rq_guard.specs.Lists.{Listed, is_listable, list_spelled, list_at}
use Rattle.rq_guard.specs.Damage.{IsList}
use Rattle.std.proofs.lemmas.List.FromFn.{length-map-range_with_len}

-- what a list that is read says of its part
pub record IsChecked (greatest : ℕ) (l : Listed) : Type 0 where
  pub taken : checked_configuration greatest l.head.configuration ≡ Ok tt
  pub one_block : l.head.configuration.source_blocks ≡ 1
  pub each : length l.digests ≡ total_symbols l.head.configuration

ok_by : (r : Result (Unit {0}) Error) → is_ok r ≡ true → r ≡ Ok tt
ok_by (Ok tt) e = refl
ok_by (Err x) e = absurd (true≢false (sym e))

spelled_checked : (greatest : ℕ) (h : Head) (bytes : List ℕ) → is_listable greatest h (length bytes) ≡ true → IsChecked greatest (list_spelled h bytes)
spelled_checked greatest h bytes is =
    let c = h.configuration in
    let front = and_parts (is_ok (checked_configuration greatest c) && nat_eq c.source_blocks 1) (nat_eq (length bytes) _) is in
    let both = and_parts (is_ok (checked_configuration greatest c)) (nat_eq c.source_blocks 1) front.0 in
    record {
      taken = ok_by (checked_configuration greatest c) both.0;
      one_block = eqb-true c.source_blocks 1 both.1;
      each = length-map-range_with_len _ 0 (total_symbols c);
    }

by_test : (greatest : ℕ) (h : Head) (bytes : List ℕ) (l : Listed) (b : Bool) → is_listable greatest h (length bytes) ≡ b → cond b (Some (list_spelled h bytes)) None ≡ Some l
    → IsChecked greatest l
by_test greatest h bytes l true is e = let same : list_spelled h bytes ≡ l = cc e in subst (IsChecked greatest) same (spelled_checked greatest h bytes is)
by_test greatest h bytes l false is e = absurd (cc e)

by_head : (greatest : ℕ) (bytes : List ℕ) (l : Listed) (o : Option Head)
    → option_and_then (λ h. cond (is_listable greatest h (length bytes)) (Some (list_spelled h bytes)) None) o ≡ Some l → IsChecked greatest l
by_head greatest bytes l None e = absurd (cc e)
by_head greatest bytes l (Some h) e = by_test greatest h bytes l (is_listable greatest h (length bytes)) refl e

pub checked_list : (key : Key) (greatest : ℕ) (bytes : List ℕ) (l : Listed) → Some l ≡ list_at key greatest bytes → IsChecked greatest l
checked_list key greatest bytes l e = by_head greatest bytes l (head_at key bytes) (sym e)

pub usable_list : (greatest : ℕ) (l : Listed) → IsChecked greatest l → largest_block l.head.configuration < 65536 → IsList l
usable_list greatest l checked few =
    let c = l.head.configuration in
    let accepted = accepted_by greatest c checked.taken in
    let alone : largest_block c ≡ div_ceil (total_symbols c) 1 = ap (λ z. div_ceil (total_symbols c) z) checked.one_block in
    let same : div_ceil (total_symbols c) 1 ≡ total_symbols c = omega arith in
    record {
      positive = accepted.size_positive;
      aligned = record { alignment_positive = accepted.alignment_positive; aligned = accepted.aligned };
      one_block = checked.one_block;
      few = omega (arith, alone, same, few);
      each = checked.each;
    }
