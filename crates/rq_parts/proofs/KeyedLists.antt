-- The pairs of one key among pairs whose keys ascend.
use Rattle.std.proofs.Common.{◌≡◌, ℕ, zero, suc, ◌+◌, ◌-◌, ◌<◌, ◌≤◌, Bool, true, false, eqb, ltb, List, [], ◌∷◌, length, map, filter, take, drop, get_or, refl, sym, ap, ◌∙◌, arith, inl, inr}
use Rattle.std.proofs.lemmas.Bool.{cases_lt, eq-eqb, ne_eqb, ltb-true, ltb-false}
use Rattle.std.proofs.lemmas.Bool.Decides.{nat_tests}
use Rattle.std.proofs.lemmas.List.FromFn.{fill_by_all, length-map-range_with_len, get_or-map-range_with_len}
use Rattle.std.proofs.lemmas.List.{take-map, drop-map}
use Rattle.std.specs.Prelude.{slice_index, slice_range, not, ◌&&◌}
use Rattle.std.specs.Ordering.{nat_cmp, is_lt}
use Rattle.std.specs.List.Sorted.{ties, IsStableByKey, IsPartitionPoint}
use Rattle.rq_parts.specs.ImmutableListMap.{IsStart, AreStarts, AreStartsOf, values_of, lists_of, lists_between}

-- ---- a filter that passes a range

filter_range :
    {X : Type 0} (p : X → Bool) (d : X) (xs : List X) (a b : ℕ) → a ≤ b → b ≤ length xs → ((k : ℕ) → k < a → p (get_or xs k d) ≡ false) → ((k : ℕ) → a ≤ k → k < b → p (get_or xs k d) ≡ true)
    → ((k : ℕ) → b ≤ k → k < length xs → p (get_or xs k d) ≡ false) → filter p xs ≡ take (b - a) (drop a xs)
filter_range p d [] zero zero le within before inside after = refl
filter_range p d [] zero (suc b) le within before inside after = absurd (omega arith)
filter_range p d [] (suc a) b le within before inside after = absurd (omega arith)
filter_range p d (x ∷ xs) zero zero le within before inside after =
    let fails : p x ≡ false = after zero (omega arith) (omega arith) in
    rw fails (filter_range p d xs zero zero le (omega arith) (λ k h. absurd (omega arith)) (λ k low high. absurd (omega arith)) (λ k low high. after (suc k) (omega arith) (omega arith)))
filter_range p d (x ∷ xs) zero (suc b) le within before inside after =
    let passes : p x ≡ true = inside zero (omega arith) (omega arith) in
    let whole : suc b - 0 ≡ suc b = omega arith in
    let rest : b - 0 ≡ b = omega arith in
    let later = filter_range p d xs zero b (omega arith) (omega arith) (λ k h. absurd (omega arith)) (λ k low high. inside (suc k) (omega arith) (omega arith)) (λ k low high. after (suc k) (omega arith) (omega arith)) in
    rw (passes, whole) (ap (λ l. x ∷ l) (rw rest at later))
filter_range p d (x ∷ xs) (suc a) zero le within before inside after = absurd (omega arith)
filter_range p d (x ∷ xs) (suc a) (suc b) le within before inside after =
    let fails : p x ≡ false = before zero (omega arith) in
    let less : suc b - suc a ≡ b - a = omega arith in
    rw (fails, less) (filter_range p d xs a b (omega arith) (omega arith) (λ k h. before (suc k) (omega arith)) (λ k low high. inside (suc k) (omega arith) (omega arith)) (λ k low high. after (suc k) (omega arith) (omega arith)))

-- ---- the pairs of a key

-- a start is no later than that of a higher key
start-le : {pairs : List (ℕ × ℕ)} {key next a b : ℕ} → key ≤ next → IsStart pairs key a → IsStart pairs next b → a ≤ b
start-le {pairs} {key} {next} {a} {b} le low high =
    elim (cases_lt b a) [
      | inl lt ↦
          let below = low.before b lt in
          let from = high.after b (omega arith) (omega (arith, low.within)) in
          absurd (omega arith)
      | inr ok ↦ ok
    ]

pub pairs_of_key : {pairs : List (ℕ × ℕ)} {key a b : ℕ} → IsStart pairs key a → IsStart pairs (key + 1) b → filter (λ pair. eqb pair.0 key) pairs ≡ slice_range pairs a b
pairs_of_key {pairs} {key} {a} {b} low high =
    filter_range (λ (pair : ℕ × ℕ). eqb pair.0 key) (0, 0) pairs a b (start-le (omega arith) low high) high.within
    (λ k lt. let below = low.before k lt in ne_eqb _ _ (λ e. omega arith))
    (λ k from lt. let above = low.after k from (omega (arith, high.within)) in let below = high.before k lt in eq-eqb _ _ (omega arith))
    (λ k from lt. let above = high.after k from lt in ne_eqb _ _ (λ e. omega arith))

-- ---- all starts

pub starts_hold : {pairs : List (ℕ × ℕ)} {count : ℕ} {starts : List ℕ} → AreStartsOf pairs count starts → AreStarts starts (length pairs)
starts_hold {pairs} {count} {starts} all = record {
  some = omega (arith, all.len);
  rise = λ key lt. start-le (omega arith) (all.each key (omega (arith, all.len))) (all.each (key + 1) (omega (arith, all.len)));
  within = λ key lt. (all.each key (omega (arith, all.len))).within;
}

-- ---- the values of a key

-- the test of a stable sort is that of the key
same_key : (key : ℕ) (pair : ℕ × ℕ) → ties (λ (x y : ℕ × ℕ). is_lt (nat_cmp x.0 y.0)) (key, 0) pair ≡ eqb pair.0 key
same_key key pair = same_number key pair.0
  where
    same_number : (a b : ℕ) → (not (is_lt (nat_cmp a b)) && not (is_lt (nat_cmp b a))) ≡ eqb b a
    same_number a b = grind (arith, nat_tests)

-- the values between starts are those of the pairs as they were before they were sorted
values_stay :
    (old : List (ℕ × ℕ)) {sorted : List (ℕ × ℕ)} {values : List ℕ} {key a b : ℕ} → IsStableByKey (λ (pair : ℕ × ℕ). pair.0) nat_cmp old sorted → values ≡ map (λ pair. pair.1) sorted
    → IsStart sorted key a → IsStart sorted (key + 1) b → slice_range values a b ≡ values_of old key
values_stay old {sorted} {values} {key} {a} {b} stable is low high =
    let value = λ (pair : ℕ × ℕ). pair.1 in
    let tied : filter (λ pair. eqb pair.0 key) sorted ≡ filter (λ pair. eqb pair.0 key) old =
    ap (λ q. filter q sorted) (λ i pair. sym (same_key key pair) i) ∙ stable (key, 0) ∙ ap (λ q. filter q old) (λ i pair. same_key key pair i) in
    ap (λ l. slice_range l a b) is
    ∙ ap (take (b - a)) (drop-map value a sorted) ∙ take-map value (b - a) (drop a sorted)
    ∙ ap (map value) (sym (pairs_of_key low high)) ∙ ap (map value) tied

-- ---- the map

-- the lists between the starts are those of the pairs
pub lists_stay :
    (old : List (ℕ × ℕ)) {sorted : List (ℕ × ℕ)} {values starts : List ℕ} {count : ℕ} → IsStableByKey (λ (pair : ℕ × ℕ). pair.0) nat_cmp old sorted → values ≡ map (λ pair. pair.1) sorted
    → AreStartsOf sorted count starts → lists_of (record { keys = count; pairs = old }) ≡ lists_between starts values
lists_stay old {sorted} {values} {starts} {count} stable is all =
    let f = values_of old in
    let n : length starts - 1 ≡ count = omega (arith, all.len) in
    let lists = lists_between starts values in
    sym (fill_by_all f lists count [] (length-map-range_with_len (λ key. slice_range values (slice_index starts key) (slice_index starts (key + 1))) 0 (length starts - 1) ∙ n)
    (λ key lt.
    get_or-map-range_with_len (λ key. slice_range values (slice_index starts key) (slice_index starts (key + 1))) 0 (length starts - 1) key key [] (omega arith) (omega arith)
    ∙ values_stay old stable is (all.each key (omega arith)) (all.each (key + 1) (omega arith))))

-- a list between starts is read
pub list_read : (starts values : List ℕ) (key : ℕ) → key + 1 < length starts → slice_range values (slice_index starts key) (slice_index starts (key + 1)) ≡ get_or (lists_between starts values) key []
list_read starts values key lt =
    sym (get_or-map-range_with_len (λ k. slice_range values (slice_index starts k) (slice_index starts (k + 1))) 0 (length starts - 1) key key [] (omega arith) (omega arith))

pub length-lists : (starts values : List ℕ) → length (lists_between starts values) ≡ length starts - 1
length-lists starts values = length-map-range_with_len (λ k. slice_range values (slice_index starts k) (slice_index starts (k + 1))) 0 (length starts - 1)

-- where a list of pairs whose keys ascend is parted
pub start_is : (pairs : List (ℕ × ℕ)) (key start : ℕ) → start ≤ length pairs → IsPartitionPoint (λ (y : ℕ × ℕ). ltb y.0 key ≡ true) (λ (y : ℕ × ℕ). ltb y.0 key ≡ false) pairs start → IsStart pairs key start
start_is pairs key start within parted = record {
  within = within;
  before = λ k lt. ltb-true _ _ (parted.0 k (0, 0) (omega arith) lt);
  after = λ k from lt. ltb-false _ _ (parted.1 k (0, 0) from lt);
}

-- a key's list begins and ends where the starts say
pub key_within : (starts values : List ℕ) (lists : List (List ℕ)) (key : ℕ) → lists_between starts values ≡ lists → key < length lists → key + 1 < length starts
key_within starts values lists key e lt = omega (arith, ap length e, length-lists starts values)
