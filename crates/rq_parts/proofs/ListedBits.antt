-- The bits of an ascending list of ones.
use Rattle.std.proofs.Common.{◌≡◌, ◌≢◌, ℕ, zero, suc, ◌+◌, ◌-◌, ◌<◌, ◌≤◌, ◌==◌, List, [], ◌∷◌, ◌++◌, length, take, drop, get_or, Bool, cond, not, filter, refl, sym, ap, subst, ◌∙◌, inl, inr, arith, if◌then◌else◌, All, Contains, None, Some, Result, Ok, Err, IfOk, IfErr}
use mathlib.Core.Bool.{false≢true, not-not}
use Rattle.std.specs.List.Sorted.{IsStrictlyIncreasing, IsBinarySearchResult}
use Rattle.std.specs.Ordering.{nat_cmp}
use Rattle.std.proofs.lemmas.List.Sorted.{searched}
use Rattle.std.specs.List.{insert, remove}
use Rattle.std.specs.List.Retain.{RetainsInTurn}
use Rattle.std.proofs.lemmas.List.Elements.{All-cons, filter-append, filter_passes}
use Rattle.std.proofs.lemmas.List.Filters.{sum_by-filter_both}
use Rattle.std.proofs.lemmas.Bool.{cases_lt}
use Rattle.std.proofs.lemmas.Bool.Decides.{eqb_tells}
use Rattle.std.proofs.lemmas.List.Sums.{sum_by-append, sum_by-insert, sum_by-remove}
use Rattle.std.proofs.lemmas.List.{get_or_append_left, get_or_default, length-append, take-append-drop}
use Rattle.std.proofs.lemmas.List.Edits.{length-insert, length-remove, get_or-insert_below, get_or-insert_at, get_or-insert_above, get_or-remove_below, get_or-remove_above}
use Rattle.std.proofs.Math.Seq.{get_or-append_right}
use Rattle.rq_algebra.proofs.Choices.{if_same, if_apart}
use Rattle.rq_parts.specs.ListedLaws.{listed-self, listed-other, rises-tail, listed-first, listed_more}
use Rattle.rq_parts.specs.SparseBinaryVec.{listed_bit, listed_octet, SetsListed, IsListed, IsGap, IsInsertionPlace}
use Rattle.rq_standard.specs.BitTableSteps.{bit_of}

pub nonzero_bit : (octet : ℕ) → octet ≢ 0 → bit_of octet ≡ 1
nonzero_bit octet some = elim (eqb_tells octet 0) [ inl e ↦ absurd (some e.1) | inr e ↦ ap (λ b. if b then 0 else 1) e.0 ]

rises-next : (xs : List ℕ) → IsStrictlyIncreasing xs → (j : ℕ) → suc j < length xs → get_or xs j 0 < get_or xs (suc j) 0
rises-next xs up j l =
    let same : get_or xs (suc j) 0 ≡ get_or xs (j + 1) 0 = ap (λ n. get_or xs n 0) (omega arith) in
    omega (arith, same, up j (omega arith))

-- ---- two rows one after the other

pub rises-join : (xs ys : List ℕ) → IsStrictlyIncreasing xs → IsStrictlyIncreasing ys → (0 < length xs → 0 < length ys → get_or xs (length xs - 1) 0 < get_or ys 0 0) → IsStrictlyIncreasing (xs ++ ys)
rises-join xs ys front back between k l =
    elim (cases_lt (k + 1) (length xs)) [
      | inl inside ↦ omega (arith, front k inside, get_or_append_left xs ys 0 k (omega arith), get_or_append_left xs ys 0 (k + 1) inside)
      | inr past ↦ elim (cases_lt k (length xs)) [
        | inl last ↦
            let here : get_or (xs ++ ys) k 0 ≡ get_or xs (length xs - 1) 0 = get_or_append_left xs ys 0 k last ∙ ap (λ n. get_or xs n 0) {y = length xs - 1} (omega arith) in
            let next : get_or (xs ++ ys) (k + 1) 0 ≡ get_or ys 0 0 = get_or-append_right xs ys (k + 1) 0 past ∙ ap (λ n. get_or ys n 0) {y = 0} (omega arith) in
            omega (arith, here, next, between (omega arith) (omega (arith, length-append xs ys)))
        | inr behind ↦
            let n = k - length xs in
            let here = get_or-append_right xs ys k 0 behind in
            let next : get_or (xs ++ ys) (k + 1) 0 ≡ get_or ys (n + 1) 0 = get_or-append_right xs ys (k + 1) 0 past ∙ ap (λ m. get_or ys m 0) {y = n + 1} (omega arith) in
            omega (arith, here, next, back n (omega (arith, length-append xs ys)))
      ]
    ]

pub rises-one : (x : ℕ) → IsStrictlyIncreasing (x ∷ [])
rises-one x k l = absurd (omega arith)

pub last-more : (xs : List ℕ) (x : ℕ) → get_or (xs ++ x ∷ []) (length (xs ++ x ∷ []) - 1) 0 ≡ x
last-more xs x =
    let long = length-append xs (x ∷ []) in
    get_or-append_right xs (x ∷ []) (length (xs ++ x ∷ []) - 1) 0 (omega arith) ∙ ap (λ n. get_or (x ∷ []) n 0) {y = 0} (omega arith)

pub listed-append : (xs ys : List ℕ) (k : ℕ) → listed_bit (xs ++ ys) k ≡ listed_bit xs k + listed_bit ys k
listed-append xs ys k = sum_by-append (λ one. cond (one == k) 1 0) xs ys

-- ---- what a search finds

-- the first one is below all others
rises-head : (x : ℕ) (xs : List ℕ) → IsStrictlyIncreasing (x ∷ xs) → (j : ℕ) → j < length xs → x < get_or xs j 0
rises-head x xs up zero l = up 0 (omega arith)
rises-head x xs up (suc j) l = omega (arith, rises-head x xs up j (omega arith), rises-next xs (rises-tail x xs up) j l)

listed-at : (xs : List ℕ) (at : ℕ) → IsStrictlyIncreasing xs → at < length xs → listed_bit xs (get_or xs at 0) ≡ 1
listed-at [] at up l = absurd (omega arith)
listed-at (x ∷ xs) zero up l = listed-first x xs up
listed-at (x ∷ xs) (suc at) up l = listed-other x xs (get_or xs at 0) (λ same. omega (arith, same, rises-head x xs up at (omega arith))) ∙ listed-at xs at (rises-tail x xs up) (omega arith)

listed-none : (xs : List ℕ) (i : ℕ) → ((k : ℕ) → k < length xs → get_or xs k 0 ≢ i) → listed_bit xs i ≡ 0
listed-none [] i none = refl
listed-none (x ∷ xs) i none = listed-other x xs i (λ same. none 0 (omega arith) (sym same)) ∙ listed-none xs i (λ k l. none (suc k) (omega arith))

pub listed-gap : (xs : List ℕ) (i gap : ℕ) → IsGap xs i gap → listed_bit xs i ≡ 0
listed-gap xs i gap found = listed-none xs i (λ k l same. elim (cases_lt k gap) [ inl before ↦ omega (arith, same, found.before k before) | inr behind ↦ omega (arith, same, found.behind k behind l) ])

pub sets-nothing : (xs : List ℕ) (i : ℕ) → listed_bit xs i ≡ 0 → SetsListed xs i 0 xs
sets-nothing xs i none = record { here = none; elsewhere = λ k other. refl }

pub sets-again : (xs : List ℕ) (i octet : ℕ) → octet ≢ 0 → listed_bit xs i ≡ 1 → SetsListed xs i octet xs
sets-again xs i octet some one = record { here = one ∙ sym (nonzero_bit octet some); elsewhere = λ k other. refl }

pub listed-found : (xs : List ℕ) (i at : ℕ) → IsStrictlyIncreasing xs → IsListed xs i at → listed_bit xs i ≡ 1
listed-found xs i at up found = ap (listed_bit xs) (sym found.is) ∙ listed-at xs at up found.within

pub sets-removed : (xs : List ℕ) (i at : ℕ) → IsStrictlyIncreasing xs → IsListed xs i at → SetsListed xs i 0 (remove xs at)
sets-removed xs i at up found =
    let taken : (k : ℕ) → listed_bit (remove xs at) k + cond (get_or xs at 0 == k) 1 0 ≡ listed_bit xs k = λ k. sum_by-remove (λ one. cond (one == k) 1 0) xs at 0 found.within in
    let one = listed-found xs i at up found in
    record {
      here = omega (arith, taken i, one, if_same (get_or xs at 0) i 1 0 found.is);
      elsewhere = λ k other. omega (arith, taken k, if_apart (get_or xs at 0) k 1 0 (λ same. other (sym same ∙ found.is)));
    }

pub sets-inserted : (xs : List ℕ) (i gap octet : ℕ) → octet ≢ 0 → IsGap xs i gap → SetsListed xs i octet (insert xs gap i)
sets-inserted xs i gap octet some found =
    let put : (k : ℕ) → listed_bit (insert xs gap i) k ≡ listed_bit xs k + cond (i == k) 1 0 = λ k. sum_by-insert (λ one. cond (one == k) 1 0) xs gap i in
    record {
      here = omega (arith, put i, listed-gap xs i gap found, if_same i i 1 0 refl) ∙ sym (nonzero_bit octet some);
      elsewhere = λ k other. omega (arith, put k, if_apart i k 1 0 (λ same. other (sym same)));
    }

pub sets-nonzero : (xs : List ℕ) (i octet : ℕ) (ys : List ℕ) → octet ≢ 0 → SetsListed xs i 1 ys → SetsListed xs i octet ys
sets-nonzero xs i octet ys some sets = record { here = sets.here ∙ sym (nonzero_bit octet some); elsewhere = sets.elsewhere }

pub octet-listed : (xs : List ℕ) (i : ℕ) → listed_bit xs i ≡ 1 → Some 1 ≡ listed_octet xs i
octet-listed xs i one = ap (λ n. if n == 0 then None else Some 1) (sym one)

pub octet-none : (xs : List ℕ) (i : ℕ) → listed_bit xs i ≡ 0 → None ≡ listed_octet xs i
octet-none xs i none = ap (λ n. if n == 0 then None else Some 1) (sym none)

rises-far : (xs : List ℕ) → IsStrictlyIncreasing xs → (i j : ℕ) → i ≤ j → j < length xs → get_or xs i 0 ≤ get_or xs j 0
rises-far [] up i j le l = absurd (omega arith)
rises-far (x ∷ xs) up zero zero le l = omega arith
rises-far (x ∷ xs) up zero (suc j) le l = omega (arith, rises-head x xs up j (omega arith))
rises-far (x ∷ xs) up (suc i) zero le l = absurd (omega arith)
rises-far (x ∷ xs) up (suc i) (suc j) le l = rises-far xs (rises-tail x xs up) i j (omega arith) (omega arith)

-- the ones before a place are below an index, if the last of them is
pub gap-behind : (xs : List ℕ) (i gap : ℕ) → IsStrictlyIncreasing xs → gap ≤ length xs → (0 < gap → get_or xs (gap - 1) 0 < i) → ((k : ℕ) → gap ≤ k → k < length xs → i < get_or xs k 0) → IsGap xs i gap
gap-behind xs i gap up within last behind = record {
  within = within;
  before = λ k l. omega (arith, rises-far xs up k (gap - 1) (omega arith) (omega arith), last (omega arith));
  behind = behind;
}

-- ---- a list that ascends still does with one fewer, and with one more at its gap

pub rises-without : (xs : List ℕ) (at : ℕ) → at < length xs → IsStrictlyIncreasing xs → IsStrictlyIncreasing (remove xs at)
rises-without xs at within up k l =
    let long = length-remove xs at within in
    elim (cases_lt (k + 1) at) [
      | inl below ↦ omega (arith, up k (omega arith), get_or-remove_below xs at 0 k (omega arith) within, get_or-remove_below xs at 0 (k + 1) below within)
      | inr past ↦ elim (cases_lt k at) [
        | inl last ↦ omega (arith, up k (omega arith), up (k + 1) (omega arith), get_or-remove_below xs at 0 k last within, get_or-remove_above xs at 0 (k + 1) past within)
        | inr behind ↦ omega (arith, up (k + 1) (omega arith), get_or-remove_above xs at 0 k behind within, get_or-remove_above xs at 0 (k + 1) past within)
      ]
    ]

pub rises-with : (xs : List ℕ) (i gap : ℕ) → IsStrictlyIncreasing xs → IsGap xs i gap → IsStrictlyIncreasing (insert xs gap i)
rises-with xs i gap up found k l =
    let long = length-insert xs gap i found.within in
    let at = get_or-insert_at xs gap i 0 found.within in
    elim (cases_lt k gap) [
      | inl below ↦
          let here = get_or-insert_below xs gap i 0 k below found.within in
          elim (cases_lt (k + 1) gap) [
            | inl next ↦ omega (arith, up k (omega arith), here, get_or-insert_below xs gap i 0 (k + 1) next found.within)
            | inr last ↦
                let same : get_or (insert xs gap i) (k + 1) 0 ≡ get_or (insert xs gap i) gap 0 = ap (λ n. get_or (insert xs gap i) n 0) (omega arith) in
                omega (arith, found.before k below, here, same, at)
          ]
      | inr past ↦
          let next = get_or-insert_above xs gap i 0 k past found.within in
          elim (cases_lt gap k) [
            | inl behind ↦
                let same : get_or (insert xs gap i) (k - 1 + 1) 0 ≡ get_or (insert xs gap i) k 0 = ap (λ n. get_or (insert xs gap i) n 0) (omega arith) in
                let back : get_or xs (k - 1 + 1) 0 ≡ get_or xs k 0 = ap (λ n. get_or xs n 0) (omega arith) in
                omega (arith, up (k - 1) (omega arith), get_or-insert_above xs gap i 0 (k - 1) (omega arith) found.within, same, back, next)
            | inr here ↦
                let same : get_or (insert xs gap i) k 0 ≡ get_or (insert xs gap i) gap 0 = ap (λ n. get_or (insert xs gap i) n 0) (omega arith) in
                omega (arith, found.behind k past (omega arith), next, same, at)
          ]
    ]

-- where an index is listed, or where it would go
pub record IsFound (xs : List ℕ) (i : ℕ) (r : Result ℕ ℕ) : Type 0 where
  pub found : IfOk r (IsListed xs i)
  pub missing : IfErr r (IsGap xs i)

pub found_or_gap : (xs : List ℕ) (i : ℕ) (r : Result ℕ ℕ) → IsStrictlyIncreasing xs → IsBinarySearchResult (λ y. nat_cmp y i) xs r → IsFound xs i r
found_or_gap xs i (Ok at) up is = let s = searched xs i (Ok at) is (rises-far xs up) in record { found = record { within = s.0; is = s.1 }; missing = tt }
found_or_gap xs i (Err gap) up is = let s = searched xs i (Err gap) is (rises-far xs up) in record { found = tt; missing = record { within = s.0; before = s.1; behind = s.2 } }

-- where no bit is set from n on, all ones are below n
pub ones_below_all : (xs : List ℕ) (n : ℕ) → ((k : ℕ) → n ≤ k → listed_bit xs k ≡ 0) → All (λ one. one < n) xs
ones_below_all [] n none = λ j d l. absurd (omega arith)
ones_below_all (x ∷ xs) n none = All-cons (λ one. one < n) x xs
    (elim (cases_lt x n) [ inl below ↦ below | inr above ↦ absurd (omega (arith, none x above, listed-self x xs x refl)) ])
    (ones_below_all xs n (λ k above. omega (arith, none k above, listed_more x xs k)))

-- ---- whether an index is listed, and its place

pub listed-contained : (xs : List ℕ) (i : ℕ) → IsStrictlyIncreasing xs → Contains xs i → listed_bit xs i ≡ 1
listed-contained xs i up found = listed-found xs i found.0 up (record { within = found.1; is = get_or_default xs found.0 0 i found.1 ∙ found.2 })

pub listed-missing : (xs : List ℕ) (i : ℕ) → ¬ (Contains xs i) → listed_bit xs i ≡ 0
listed-missing xs i none = listed-none xs i (λ k l same. none (k, l, get_or_default xs k i 0 l ∙ same))

before-cons : (x i : ℕ) (xs : List ℕ) (place : ℕ) → x < i → ((k : ℕ) → k < place → get_or xs k 0 < i) → (k : ℕ) → k < suc place → get_or (x ∷ xs) k 0 < i
before-cons x i xs place less rest zero l = less
before-cons x i xs place less rest (suc k) l = rest k (omega arith)

behind-cons : (x i : ℕ) (xs : List ℕ) (place : ℕ) → ((k : ℕ) → place ≤ k → k < length xs → i ≤ get_or xs k 0) → (k : ℕ) → suc place ≤ k → k < length (x ∷ xs) → i ≤ get_or (x ∷ xs) k 0
behind-cons x i xs place rest zero past l = absurd (omega arith)
behind-cons x i xs place rest (suc k) past l = rest k (omega arith) (omega arith)

behind-all : (x i : ℕ) (xs : List ℕ) → IsStrictlyIncreasing (x ∷ xs) → i ≤ x → (k : ℕ) → 0 ≤ k → k < length (x ∷ xs) → i ≤ get_or (x ∷ xs) k 0
behind-all x i xs up less zero past l = less
behind-all x i xs up less (suc k) past l = omega (arith, less, rises-head x xs up k (omega arith))

pub place-of : (xs : List ℕ) (i : ℕ) → IsStrictlyIncreasing xs → (place : ℕ) × IsInsertionPlace xs i place
place-of [] i up = (0, record { within = omega arith; before = λ k l. absurd (omega arith); behind = λ k past l. absurd (omega arith) })
place-of (x ∷ xs) i up =
    elim (cases_lt x i) [
      | inl less ↦
          let rest = place-of xs i (rises-tail x xs up) in
          (suc rest.0, record { within = omega (arith, rest.1.within); before = before-cons x i xs rest.0 less rest.1.before; behind = behind-cons x i xs rest.0 rest.1.behind })
      | inr past ↦ (0, record { within = omega arith; before = λ k l. absurd (omega arith); behind = behind-all x i xs up past })
    ]

-- the place of an index that isn't listed is a gap
pub gap-at : (xs : List ℕ) (i place : ℕ) → IsStrictlyIncreasing xs → listed_bit xs i ≡ 0 → IsInsertionPlace xs i place → IsGap xs i place
gap-at xs i place up none found = record {
  within = found.within;
  before = found.before;
  behind = λ k past l.
      let apart : i ≢ get_or xs k 0 = λ same. omega (arith, none, ap (listed_bit xs) same, listed-at xs k up l) in
      omega (arith, found.behind k past l, apart);
}

-- ---- all but one index

abbrev pub is_other : ℕ → ℕ → Bool
is_other i one = not (one == i)

pub others-inserted : (xs : List ℕ) (place i : ℕ) → filter (is_other i) (insert xs place i) ≡ filter (is_other i) xs
others-inserted xs place i =
    let rest = filter (is_other i) (drop place xs) in
    let gone : filter (is_other i) (i ∷ drop place xs) ≡ rest = elim (eqb_tells i i) [ inl e ↦ ap (λ b. cond (not b) (i ∷ rest) rest) e.0 | inr e ↦ absurd (e.1 refl) ] in
    filter-append (is_other i) (take place xs) (i ∷ drop place xs) ∙ ap (λ ys. filter (is_other i) (take place xs) ++ ys) gone
    ∙ sym (filter-append (is_other i) (take place xs) (drop place xs)) ∙ ap (filter (is_other i)) (take-append-drop place xs)

-- what `retain` leaves where no call changes the closure or an element
pub filter-from_retain : {F : Type 0} (R : F → ℕ → Bool → F → ℕ → Type 0) (test : ℕ → Bool) (f : F) → ((x : ℕ) (kept : Bool) (f' : F) (y : ℕ) → R f x kept f' y → (kept ≡ test x) × (f' ≡ f) × (y ≡ x)) → (xs ys : List ℕ) → RetainsInTurn R f xs ys → ys ≡ filter test xs
filter-from_retain R test f says [] ys left = left
filter-from_retain R test f says (x ∷ xs) ys left =
    let said = says x left.0 left.1 left.2 left.3 in
    let rest = filter-from_retain R test f says xs left.4 (subst (λ g. RetainsInTurn R g xs left.4) said.1 left.5) in
    left.6 ∙ (λ i. cond (said.0 i) (said.2 i ∷ rest i) (rest i))

pub sets-others : (xs : List ℕ) (i : ℕ) → SetsListed xs i 0 (filter (is_other i) xs)
sets-others xs i = record {
  here = listed-none (filter (is_other i) xs) i (λ k l same. elim (eqb_tells (get_or (filter (is_other i) xs) k 0) i) [
    | inl e ↦ false≢true (sym (ap not e.0) ∙ filter_passes (is_other i) xs k 0 l)
    | inr e ↦ e.1 same
  ]);
  elsewhere = λ k other.
      let none : listed_bit (filter (λ one. one == i) xs) k ≡ 0 = listed-none (filter (λ one. one == i) xs) k (λ j l same. elim (eqb_tells (get_or (filter (λ one. one == i) xs) j 0) i) [
        | inl e ↦ other (sym same ∙ e.1)
        | inr e ↦ false≢true (sym e.0 ∙ filter_passes (λ one. one == i) xs j 0 l)
      ]) in
      omega (arith, sum_by-filter_both (is_other i) (λ one. one == i) (λ one. sym (not-not (one == i))) (λ one. cond (one == k) 1 0) xs, none);
}
