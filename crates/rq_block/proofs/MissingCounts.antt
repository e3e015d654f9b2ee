-- How the count of missing ids changes.
use Rattle.std.proofs.Common.{◌≡◌, ◌≢◌, ℕ, zero, suc, ◌+◌, ◌<◌, ◌≤◌, Bool, true, false, cond, eqb, List, Option, Some, None, refl, sym, ap, ◌∙◌, inl, inr, arith}
use mir.Val.{bool_byte}
use Rattle.std.specs.Prelude.{is_some, not, ◌&&◌, ltb, ◌-◌}
use Rattle.std.proofs.lemmas.Bool.{cases_eq, cases_lt, eq-eqb, lt-ltb, le-ltb}
use Rattle.rq_standard.specs.Received.{or_later}
use Rattle.rq_block.specs.Payloads.{missing_count, AddsUnlessThere}
use Rattle.rq_standard.proofs.OptionValues.{none_is}
use Rattle.rq_block.proofs.Payloads.{added_elsewhere, or_later-again}

pub missing_count-same : (n : ℕ) (f g : ℕ → Bool) → ((e : ℕ) → e < n → f e ≡ g e) → missing_count n f ≡ missing_count n g
unfolding missing_count
missing_count-same zero f g same = refl
missing_count-same (suc n) f g same =
    let last : f n ≡ g n = same n (omega arith) in
    ap (λ m. m + cond (f n) 0 1) (missing_count-same n f g (λ e h. same e (omega arith))) ∙ ap (λ b. missing_count n g + cond b 0 1) last

-- one of them was received
pub missing_count-one : (n k : ℕ) (f g : ℕ → Bool) → k < n → f k ≡ false → g k ≡ true → ((e : ℕ) → e ≢ k → f e ≡ g e) → missing_count n f ≡ missing_count n g + 1
unfolding missing_count
missing_count-one zero k f g lt was is same = absurd (omega arith)
missing_count-one (suc n) k f g lt was is same =
    elim (cases_eq n k) [
      | inl e ↦ let fn : f n ≡ false = ap f e ∙ was in
          let gn : g n ≡ true = ap g e ∙ is in
          let rest : missing_count n f ≡ missing_count n g = missing_count-same n f g (λ q h. same q (λ x. absurd (omega arith))) in
          ap (λ b. missing_count n f + cond b 0 1) fn ∙ ap (λ m. m + 1) (rest ∙ sym (ap (λ b. missing_count n g + cond b 0 1) gn ∙ omega arith))
      | inr ne ↦ let last : f n ≡ g n = same n ne in
          let rest : missing_count n f ≡ missing_count n g + 1 = missing_count-one n k f g (omega arith) was is same in
          ap (λ m. m + cond (f n) 0 1) rest ∙ ap (λ b. missing_count n g + 1 + cond b 0 1) last ∙ omega arith
    ]

counted_there : (b : Bool) → 0 + cond b 0 1 ≡ 0 → b ≡ true
counted_there true h = refl
counted_there false h = absurd (omega arith)

-- none is missing
pub missing_count-zero : (n : ℕ) (f : ℕ → Bool) → missing_count n f ≡ 0 → (e : ℕ) → e < n → f e ≡ true
unfolding missing_count
missing_count-zero zero f none e h = absurd (omega arith)
missing_count-zero (suc n) f none e h =
    elim (cases_eq e n) [
      | inl same ↦ ap f same ∙ counted_there (f n) (omega arith)
      | inr ne ↦ missing_count-zero n f (omega arith) e (omega arith)
    ]

-- all are missing
pub missing_count-all : (n : ℕ) (f : ℕ → Bool) → ((e : ℕ) → f e ≡ false) → missing_count n f ≡ n
unfolding missing_count
missing_count-all zero f none = refl
missing_count-all (suc n) f none = ap (λ m. m + cond (f n) 0 1) (missing_count-all n f none) ∙ ap (λ b. n + cond b 0 1) (none n) ∙ omega arith

-- where all were received, none is missing
pub missing_count-none : (n : ℕ) (f : ℕ → Bool) → ((e : ℕ) → e < n → f e ≡ true) → missing_count n f ≡ 0
unfolding missing_count
missing_count-none zero f all = refl
missing_count-none (suc n) f all = ap (λ m. m + cond (f n) 0 1) (missing_count-none n f (λ e h. all e (omega arith))) ∙ ap (λ b. 0 + cond b 0 1) (all n (omega arith))

-- another id is as before
others_stay : (f g : ℕ → Option (List ℕ)) (k : ℕ) (x : List ℕ) → AddsUnlessThere k x f g → (e : ℕ) → e ≢ k → is_some (f e) ≡ is_some (g e)
others_stay f g k x grown e ne = sym (ap is_some (added_elsewhere f g k x grown e (λ h. ne (sym h))))

-- a payload that was kept is there
pub here_now : (f g : ℕ → Option (List ℕ)) (k : ℕ) (x : List ℕ) → is_some (f k) ≡ false → AddsUnlessThere k x f g → is_some (g k) ≡ true
here_now f g k x was grown = ap is_some (grown k ∙ ap (λ o. or_later o (cond (eqb k k) (Some x) None)) (none_is (f k) was) ∙ ap (λ b. cond b (Some x) None) (eq-eqb k k refl))

-- A payload was handed in: what is missing then.
pub missing_count-step : (n k : ℕ) (f g : ℕ → Option (List ℕ)) (kept : Bool) (x : List ℕ) → is_some (f k) ≡ not kept → AddsUnlessThere k x f g
    → missing_count n (λ e. is_some (f e)) ≡ missing_count n (λ e. is_some (g e)) + cond (kept && ltb k n) 1 0
missing_count-step n k f g false x was grown = missing_count-same n _ _ (λ e h. sym (ap is_some (grown e ∙ sym (or_later-again f k x was e)))) ∙ omega arith
missing_count-step n k f g true x was grown =
    elim (cases_lt k n) [
      | inl below ↦ missing_count-one n k (λ e. is_some (f e)) (λ e. is_some (g e)) below was (here_now f g k x was grown) (others_stay f g k x grown)
          ∙ ap (λ b. missing_count n (λ e. is_some (g e)) + cond b 1 0) (sym (lt-ltb k n below))
      | inr above ↦ missing_count-same n _ _ (λ e h. others_stay f g k x grown e (λ same. absurd (omega arith)))
          ∙ sym (ap (λ b. missing_count n (λ e. is_some (g e)) + cond b 1 0) (le-ltb k n above) ∙ omega arith)
    ]

-- what is taken off the count
pub missing-after : (missing before after sub : ℕ) (t : Bool) → missing ≡ before → sub ≡ bool_byte t → before ≡ after + cond t 1 0 → (sub ≤ missing) × (missing - sub ≡ after)
missing-after missing before after sub true is one step = (omega arith, omega arith)
missing-after missing before after sub false is one step = (omega arith, omega arith)
