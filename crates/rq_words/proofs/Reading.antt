-- The numbers that texts say.
use Rattle.std.proofs.Common.{◌≡◌, ◌≢◌, ◌⊎◌, inl, inr, ℕ, ◌+◌, ◌-◌, ◌^◌, ◌<◌, ◌≤◌, ◌==◌, ◌&&◌, ◌++◌, Bool, true, false, cond, List, [], ◌∷◌, length, take, get_or, Option, Some, None, Result, Ok, Err, refl, sym, ap, ap₂, subst, ◌∙◌, arith, lit<}
use Rattle.std.specs.Prelude.{nat_lt, codes, option_and_then, option_map}
use Rattle.hex.specs.Hex.{decode_of}
use Rattle.hex.specs.declared.error.FromHexError.{FromHexError}
use Rattle.hex.specs.declared.error.FromHexError.TheVariants.{OutOfMemory}
use Rattle.std.specs.List.{position_or_len}
use Rattle.std.specs.Str.{bytes_eq}
use Rattle.std.proofs.lemmas.List.{length-append, take_all, take_at, take_more}
use Rattle.std.proofs.Math.Seq.{get_or-append_seam}
use Rattle.std.specs.Bool.{Decides}
use Rattle.std.specs.Option.{SomeIff}
use Rattle.std.specs.Result.{OkIff, result_ok}
use Rattle.std.specs.Str.{all_ascii_digits}
use Rattle.std.specs.Str.Parse.{digits_value, ParsesUnsigned}
use Rattle.std.proofs.lemmas.Bool.Decides.{Decides-ltb, nat_tests}
use Rattle.std.proofs.lemmas.Str.Parse.{IsNumeralModel, numerals_by_value, tells_all_ascii_digits, parse_plain}
use Rattle.rq_words.specs.Numbers.{fitting, number_of, digits_times, sum_of, scaled_of, has, before, behind, last, without_last, zeros_of}
use Rattle.rq_cast.specs.declared.series.Repair.TheVariants.{Packets}
use Rattle.rq_words.specs.Values.{is_refused, name_of, repair_of, packets_of, sized}

-- ---- numbers that fit

by_test : (b : Bool) (v : ℕ) (P : Type 0) → Decides b P → (r : Option ℕ) → SomeIff r P v → r ≡ cond b (Some v) None
by_test true v P d None h = absurd (h (d.0 refl))
by_test true v P d (Some x) h = ap (λ n. Some n) h.1
by_test false v P d None h = refl
by_test false v P d (Some x) h = let both : false ≡ true = d.1 h.0 in absurd (cc both)

-- what is there exactly where a value fits
pub fits : (bits v : ℕ) (r : Option ℕ) → SomeIff r (v < 2 ^ bits) v → r ≡ fitting bits v
fits bits v r h = by_test (nat_lt v (2 ^ bits)) v (v < 2 ^ bits) (Decides-ltb v (2 ^ bits)) r h

-- ---- digits

by_tests : {E : Type 0} (a b c : Bool) (A B C : Type 0) → Decides a A → Decides b B → Decides c C → (r : Result ℕ E) (v : ℕ) → OkIff r (A × B × C) v
    → result_ok r ≡ cond (a && b) (cond c (Some v) None) None
by_tests true true true A B C p q s (Ok x) v h = ap (λ n. Some n) h.1
by_tests true true true A B C p q s (Err e) v h = absurd (h (p.0 refl, q.0 refl, s.0 refl))
by_tests true true false A B C p q s (Ok x) v h = let both : false ≡ true = s.1 h.0.2 in absurd (cc both)
by_tests true true false A B C p q s (Err e) v h = refl
by_tests true false c A B C p q s (Ok x) v h = let both : false ≡ true = q.1 h.0.1 in absurd (cc both)
by_tests true false c A B C p q s (Err e) v h = refl
by_tests false b c A B C p q s (Ok x) v h = let both : false ≡ true = p.1 h.0.0 in absurd (cc both)
by_tests false b c A B C p q s (Err e) v h = refl

own : IsNumeralModel (λ ds. all_ascii_digits ds ≡ true) (digits_value 10)
own = numerals_by_value (λ ds. all_ascii_digits ds ≡ true) tells_all_ascii_digits

-- what `parse` reads where no plus stands before the digits
pub number_by : {E : Type 0} (text : List ℕ) (r : Result ℕ E) → ParsesUnsigned 64 10 text r → get_or text 0 0 ≢ 43 → (o : Option ℕ) → o ≡ result_ok r
    → o ≡ number_of text
unfolding number_of
number_by text r h plain o is =
    is ∙ by_tests (all_ascii_digits text) (nat_lt 0 (length text)) (nat_lt (digits_value 10 text) (2 ^ 64)) (all_ascii_digits text ≡ true) (0 < length text)
    (digits_value 10 text < 2 ^ 64) (λ e. e, λ e. e) (Decides-ltb 0 (length text)) (Decides-ltb (digits_value 10 text) (2 ^ 64)) r (digits_value 10 text)
    (parse_plain own 64 text r h plain)

-- a plus is no digit
pub no_number : (text : List ℕ) → get_or text 0 0 ≡ 43 → number_of text ≡ None
unfolding number_of
no_number [] is = absurd (omega (arith, is))
no_number (x ∷ xs) is = subst (λ c. number_of (c ∷ xs) ≡ None) (sym is) refl

-- ---- the last character

-- a text with a character at its end
pub ends_with : (text front : List ℕ) (c : ℕ) → text ≡ front ++ (c ∷ []) → (last text ≡ c) × (without_last text ≡ front)
ends_with text front c is =
    let long : length text - 1 ≡ length front = omega (arith, ap length is, length-append front (c ∷ [])) in (
      ap (λ i. get_or text i 0) long ∙ ap (λ t. get_or t (length front) 0) is ∙ get_or-append_seam front c [] 0,
      ap (λ i. take i text) long ∙ ap (λ t. take (length front) t) is ∙ take_at front (c ∷ []) (length front) refl,
    )

-- one without it
pub ends_without : (text : List ℕ) (c : ℕ) → 0 < c → ((front : List ℕ) → text ≢ front ++ (c ∷ [])) → last text ≢ c
ends_without [] c some never is = absurd (omega (arith, some, is))
ends_without (x ∷ xs) c some never is =
    let text = x ∷ xs in
    let long : (length text - 1) + 1 ≡ length text = omega arith in
    let less : length text - 1 < length text = omega (arith, long) in
    never (take (length text - 1) text)
    (sym (take_all (length text) text (omega arith)) ∙ sym (ap (λ i. take i text) long) ∙ take_more text (length text - 1) 0 less
    ∙ ap (λ d. take (length text - 1) text ++ (d ∷ [])) is)

-- no letter of a unit
pub no_zeros : (c : ℕ) → c ≢ 107 → c ≢ 77 → c ≢ 109 → c ≢ 71 → c ≢ 103 → zeros_of c ≡ 0
no_zeros c k M m G g = grind (arith, nat_tests)

-- ---- numbers with a point

pub scaled_plain : (places : ℕ) (text : List ℕ) → position_or_len (λ b. b == 46) text ≡ length text → scaled_of places text ≡ digits_times places text
unfolding scaled_of
scaled_plain places text is = let none : has 46 text ≡ false = grind (arith, nat_tests) in rw none refl

-- a number whose point stands between these
pub record IsPointed (text whole part : List ℕ) : Type 0 where
  pub there : position_or_len (λ b. b == 46) text < length text
  pub before_it : whole ≡ before 46 text
  pub behind_it : part ≡ behind 46 text

pointed : (places : ℕ) (text whole part : List ℕ) → IsPointed text whole part
    → scaled_of places text ≡ cond (nat_lt places (length part)) None (sum_of (digits_times places whole) (digits_times (places - length part) part))
unfolding scaled_of
pointed places text whole part h =
    let some : has 46 text ≡ true = grind (arith, nat_tests, h.there) in
    let made : List ℕ → List ℕ → Option ℕ = λ w p. cond (nat_lt places (length p)) None (sum_of (digits_times places w) (digits_times (places - length p) p)) in
    let first : scaled_of places text ≡ made (before 46 text) (behind 46 text) = rw some refl in
    first ∙ sym (ap₂ made h.before_it h.behind_it)

-- more digits stand behind it than may
pub scaled_long : (places : ℕ) (text whole part : List ℕ) → IsPointed text whole part → places < length part → scaled_of places text ≡ None
scaled_long places text whole part h long =
    let more : nat_lt places (length part) ≡ true = grind (arith, nat_tests, long) in pointed places text whole part h ∙ rw more refl

pub scaled_short : (places : ℕ) (text whole part : List ℕ) → IsPointed text whole part → length part ≤ places
    → scaled_of places text ≡ sum_of (digits_times places whole) (digits_times (places - length part) part)
scaled_short places text whole part h short =
    let few : nat_lt places (length part) ≡ false = grind (arith, nat_tests, short) in pointed places text whole part h ∙ rw few refl

-- ---- repair packets

pub packets-are : (text : List ℕ) → ((front : List ℕ) → text ≢ front ++ (37 ∷ [])) → bytes_eq text (codes "all") ≡ false
    → repair_of text ≡ option_map Packets (packets_of text)
unfolding repair_of
packets-are text never other =
    let none : (last text == 37) ≡ false = grind (arith, nat_tests, ends_without text 37 (lit< tt) never) in rw (other, none) refl

-- ---- names

pub named : (text bytes : List ℕ) → decode_of text ≡ Ok bytes → sized bytes ≡ name_of text
unfolding name_of
named text bytes is = ap (λ r. option_and_then sized (result_ok r)) (sym is)

pub unnamed : (text : List ℕ) (e : FromHexError) → (e ≡ OutOfMemory) ⊎ (decode_of text ≡ Err e) → is_refused e ≡ false → None ≡ name_of text
unfolding name_of
unnamed text e h other = elim h [
  | inl memory ↦ let both : true ≡ false = sym (ap is_refused memory) ∙ other in absurd (cc both)
  | inr is ↦ ap (λ r. option_and_then sized (result_ok r)) (sym is)
]
