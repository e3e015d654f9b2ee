-- The counts that a cache of plans holds.
use Rattle.std.proofs.Common.{◌≡◌, ℕ, suc, ◌+◌, ◌-◌, ◌<◌, ◌≤◌, All, Bool, true, false, List, [], ◌∷◌, ◌++◌, Option, Some, None, length, drop, get_or, map, cond, refl, sym, ap, ◌∙◌, subst, arith, inl, inr}
use Rattle.std.specs.Prelude.{is_some, slice_get, position, nat_lt, ◌==◌, Ok}
use Rattle.std.specs.List.{list_any, position_or_len}
use Rattle.std.proofs.lemmas.Bool.{cases_lt, lt-ltb, le-ltb, eqb-true}
use Rattle.std.proofs.lemmas.List.{length-append, length-map, get_or-map, get_or-append_right}
use Rattle.std.proofs.lemmas.List.Quantifiers.{position-Some}
use Rattle.std.proofs.lemmas.Option.{slice_get_read, slice_get_within, get_or_from_slice_get}
use Rattle.rq_standard.specs.declared.row.TableRow.{TableRow}
use Rattle.rq_block.specs.declared.encoder.plan.SourceBlockEncodingPlan.{SourceBlockEncodingPlan}
use Rattle.rq_block.specs.SourceBlockEncodingPlan.{plan_refusal}
use Rattle.rq_block.proofs.Numbered.{some_at}
use Rattle.rq_block.proofs.PlanLaws.{plan_taken}
use Rattle.rq_block.specs.SourceBlockEncodingPlanCache.{PlanCache, holds_count, counts_after_use, IsPlanOver}

-- ---- whether a count is held

same_lt : (m n : ℕ) → nat_lt (1 + m) (suc n) ≡ nat_lt m n
same_lt m n = elim (cases_lt m n) [
  | inl l ↦ lt-ltb (1 + m) (suc n) (omega arith) ∙ sym (lt-ltb m n l)
  | inr g ↦ le-ltb (1 + m) (suc n) (omega arith) ∙ sym (le-ltb m n g)
]

module _ (p : ℕ → Bool) where
  first_step : (x : ℕ) (xs : List ℕ) (b : Bool) → p x ≡ b → nat_lt (position_or_len p xs) (length xs) ≡ list_any p xs → nat_lt (position_or_len p (x ∷ xs)) (length (x ∷ xs)) ≡ list_any p (x ∷ xs)
  first_step x xs true e so = rw e (lt-ltb 0 (length (x ∷ xs)) (omega arith))
  first_step x xs false e so = rw e (same_lt (position_or_len p xs) (length xs) ∙ so)

  some_first : (xs : List ℕ) → nat_lt (position_or_len p xs) (length xs) ≡ list_any p xs
  some_first [] = refl
  some_first (x ∷ xs) = first_step x xs (p x) refl (some_first xs)

is_some_if : (b : Bool) (n : ℕ) → is_some (cond b (Some n) None) ≡ b
is_some_if true n = refl
is_some_if false n = refl

-- where a count is held
abbrev pub held_at : ℕ → PlanCache → Option ℕ
held_at count cache = position (λ n. n == count) cache.counts

-- a count is held where it has a place
pub held_by : (counts : List ℕ) (count : ℕ) (place : Option ℕ) → place ≡ position (λ n. n == count) counts → is_some place ≡ holds_count counts count
held_by counts count place is = ap is_some is ∙ is_some_if (nat_lt (position_or_len (λ n. n == count) counts) (length counts)) _ ∙ some_first (λ n. n == count) counts

pub count_found : (counts : List ℕ) (count i : ℕ) → position (λ n. n == count) counts ≡ Some i → slice_get counts i ≡ Some count
count_found counts count i is =
    let found = position-Some (λ n. n == count) counts i count is in
    let same : get_or counts i count ≡ count = eqb-true (get_or counts i count) count found.1 in
    slice_get_read counts (length counts) i count refl found.0 (sym same)

-- ---- the counts of plans

abbrev pub counts_in : List SourceBlockEncodingPlan → List ℕ
counts_in plans = map (λ p. p.source_symbol_count) plans

pub count_at : (plans : List SourceBlockEncodingPlan) (i : ℕ) (p : SourceBlockEncodingPlan) → i < length plans → p ≡ get_or plans i p → get_or (counts_in plans) i 0 ≡ p.source_symbol_count
count_at plans i p below is =
    get_or-map (λ (q : SourceBlockEncodingPlan). q.source_symbol_count) plans i p 0 below ∙ ap (λ (q : SourceBlockEncodingPlan). q.source_symbol_count) (sym is)

-- where a count was found
module _ (table : List TableRow) (plans : List SourceBlockEncodingPlan) (counts : List ℕ) (count place : ℕ) (shown : counts_in plans ≡ counts) (over : All (IsPlanOver table) plans) (found : position (λ n. n == count) counts ≡ Some place) where
  stands_there : slice_get (counts_in plans) place ≡ Some count
  stands_there = ap (λ xs. slice_get xs place) shown ∙ count_found counts count place found

  place_below : place < length plans
  place_below = omega (arith, slice_get_within (counts_in plans) place count stands_there, length-map plans (λ (q : SourceBlockEncodingPlan). q.source_symbol_count))

  -- the plan there is of that count, over the table
  pub plan_found : (p : SourceBlockEncodingPlan) → p ≡ get_or plans place p → (p.source_symbol_count ≡ count) × IsPlanOver table p
  plan_found p is = (sym (count_at plans place p place_below is) ∙ get_or_from_slice_get (counts_in plans) place count 0 stands_there, subst (IsPlanOver table) (sym is) (over place p place_below))

  -- which has a row for it
  pub held_known : plan_refusal table count ≡ Ok tt
  held_known =
      let there = some_at plans place place_below in
      let plan = plan_found there.0 there.1 in
      plan_taken table count (omega (arith, plan.0, plan.1.known))

-- ---- a use of a count

pub counts_after_use-held : (counts : List ℕ) (count : ℕ) → holds_count counts count ≡ true → counts_after_use counts count ≡ counts
counts_after_use-held counts count held = rw held refl

pub counts_after_use-new : (counts : List ℕ) (count : ℕ) → holds_count counts count ≡ false → counts_after_use counts count ≡ cond (nat_lt (length counts) 64) counts (drop 1 counts) ++ count ∷ []
counts_after_use-new counts count new = rw new (go (nat_lt (length counts) 64))
  where
    go : (b : Bool) → cond b (counts ++ count ∷ []) (drop 1 counts ++ count ∷ []) ≡ cond b counts (drop 1 counts) ++ count ∷ []
    go true = refl
    go false = refl

-- a new count is the last
pub new_last : (counts : List ℕ) (count n : ℕ) → holds_count counts count ≡ false → n ≡ length (counts_after_use counts count) → (1 ≤ n) × (slice_get (counts_after_use counts count) (n - 1) ≡ Some count)
new_last counts count n new long =
    let front = cond (nat_lt (length counts) 64) counts (drop 1 counts) in
    let is = counts_after_use-new counts count new in
    let count_is : n ≡ length front + 1 = long ∙ ap length is ∙ length-append front (count ∷ []) in
    let read : count ≡ get_or (front ++ count ∷ []) (n - 1) count =
    sym (get_or-append_right front (count ∷ []) (length front) (n - 1) count refl (omega arith) ∙ ap (λ i. get_or (count ∷ []) i count) (let z : n - 1 - length front ≡ 0 = omega arith in z)) in
    (omega arith, slice_get_read (counts_after_use counts count) n (n - 1) count long (omega arith) (read ∙ ap (λ xs. get_or xs (n - 1) count) (sym is)))
