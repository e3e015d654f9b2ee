-- A slab after some of its operations, and after more.
use Rattle.std.proofs.Common.{◌≡◌, ℕ, suc, ◌+◌, ◌<◌, ◌≤◌, List, [], ◌∷◌, ◌++◌, Option, All, map, length, take, drop, get_or, set, refl, sym, ap, ◌∙◌, subst, arith}
use Rattle.std.proofs.lemmas.List.{length-set, length-map, get_or-map, take-append-drop, map-append, take_more_set, take-append-le}
use Rattle.std.proofs.lemmas.List.Elements.{All-nil, All-cons}
use Rattle.std.proofs.Math.Seq.{drop-cons, take-add}
use borrow.Rule.Slice.PartMut.{put_mid, post_of}
use Rattle.rq_algebra.specs.Operations.{Operation, AddAssign, MulAssign, Fma, Reorder, Store, step, run, meant_at, order_after, IsAllowed, AreAllowed}
use Rattle.rq_algebra.specs.Symbols.{symbols}
use Rattle.rq_algebra.proofs.OperationRuns.{run-append, last_order, order-run}
use Rattle.rq_standard.specs.OctetField.{octets}
use Rattle.rq_bytes.specs.SymbolSlab.{Slab, store_of, after, after_all}
use Rattle.rq_operations.specs.declared.steps.Step.{Step}
use Rattle.rq_operations.specs.RecordedSteps.{operation_of_step, PerformsFirst}

-- operations change no number of values
length-step : (s : Store (List ℕ)) (operation : Operation) → length (step (symbols octets) s operation).values ≡ length s.values
unfolding step
length-step s (AddAssign dest src) = length-set s.values (meant_at s.order dest) _
length-step s (MulAssign dest scalar) = length-set s.values (meant_at s.order dest) _
length-step s (Fma dest src scalar) = length-set s.values (meant_at s.order dest) _
length-step s (Reorder order) = refl

length-run : (operations : List Operation) (s : Store (List ℕ)) → length (run (symbols octets) operations s).values ≡ length s.values
unfolding run
length-run [] s = refl
length-run (operation ∷ operations) s = unfold run in length-run operations (step (symbols octets) s operation) ∙ length-step s operation

pub after_all-one : (operation : Operation) (slab : Slab) → after_all (operation ∷ []) slab ≡ after operation slab
unfolding run
after_all-one operation slab = refl

pub after_all-append : (first second : List Operation) (slab : Slab) → after_all (first ++ second) slab ≡ after_all second (after_all first slab)
after_all-append first second slab = ap (λ (s : Store (List ℕ)). let t : Slab = record slab { values = s.values; order = s.order } in t) (run-append (symbols octets) first second (store_of slab))

-- what operations ask after others
AreAllowed-after : (n : ℕ) (order : Option (List ℕ)) (before rest : List Operation) → AreAllowed n order (before ++ rest) → AreAllowed n (last_order order before) rest
AreAllowed-after n order [] rest all = all
AreAllowed-after n order (first ∷ before) rest all = AreAllowed-after n (order_after order first) before rest all.1

-- what the first of them ask, and the order behind them
pub AreAllowed-before : (n : ℕ) (order : Option (List ℕ)) (before rest : List Operation) → AreAllowed n order (before ++ rest) → AreAllowed n order before
AreAllowed-before n order [] rest all = tt
AreAllowed-before n order (first ∷ before) rest all = (all.0, AreAllowed-before n (order_after order first) before rest all.1)

pub length-after_all : (operations : List Operation) (slab : Slab) → length (after_all operations slab).values ≡ length slab.values
length-after_all operations slab = length-run operations (store_of slab)

-- ---- an operation and some of those behind it were performed

module _ (first : Operation) (behind : List Operation) (count : ℕ) (old new : Slab) (next : PerformsFirst first behind count old new) where
  abbrev done : List Operation
  done = first ∷ take count behind

  all_are : done ++ drop count behind ≡ first ∷ behind
  all_are = ap (λ l. first ∷ l) (take-append-drop count behind)

  pub rest_allowed : AreAllowed (length old.values) old.order (first ∷ behind) → AreAllowed (length new.values) new.order (drop count behind)
  rest_allowed allowed =
      let rest = AreAllowed-after (length old.values) old.order done (drop count behind) (subst (AreAllowed (length old.values) old.order) (sym all_are) allowed) in
      subst (λ (s : Slab). AreAllowed (length s.values) s.order (drop count behind)) (sym next.performed) (rw (length-run done (store_of old), order-run (symbols octets) done (store_of old)) rest)

  pub rest_performed : after_all (drop count behind) new ≡ after_all (first ∷ behind) old
  rest_performed =
      ap (after_all (drop count behind)) next.performed
      ∙ sym (after_all-append done (drop count behind) old)
      ∙ ap (λ l. after_all l old) all_are

-- ---- operations that f makes, one after another

-- one more of them
pub run_more : {T : Type 0} (f : T → Operation) (steps : List Step) (step : Step) (xs : List T) (x : T) (count : ℕ)
    → count < length steps → step ≡ get_or steps count step → count < length xs → operation_of_step step ≡ f x
    → take count (map operation_of_step steps) ≡ map f (take count xs)
    → take (count + 1) (map operation_of_step steps) ≡ map f (take (count + 1) (set xs count x))
run_more f steps step xs x count here is room is_f so_far =
    let operations = map operation_of_step steps in
    let operation = operation_of_step step in
    take-add count 1 operations
    ∙ ap (λ l. l ++ take 1 (drop count operations)) so_far
    ∙ ap (λ l. map f (take count xs) ++ take 1 l) (drop-cons operations count operation (omega (arith, length-map steps operation_of_step)))
    ∙ ap (λ o. map f (take count xs) ++ o ∷ []) (get_or-map operation_of_step steps count step operation here ∙ ap operation_of_step (sym is) ∙ is_f)
    ∙ sym (map-append f (take count xs) (x ∷ []))
    ∙ ap (map f) (sym (take_more_set xs count x room))

-- what they ask, where none of them sets an order
each_allowed : {T : Type 0} (f : T → Operation) → ((order : Option (List ℕ)) (x : T) → order_after order (f x) ≡ order)
    → (n : ℕ) (order : Option (List ℕ)) (xs : List T) (rest : List Operation) → AreAllowed n order (map f xs ++ rest) → All (λ x. IsAllowed n order (f x)) xs
each_allowed f keeps n order [] rest all = All-nil (λ x. IsAllowed n order (f x))
each_allowed f keeps n order (x ∷ xs) rest all =
    All-cons (λ y. IsAllowed n order (f y)) x xs all.0 (each_allowed f keeps n order xs rest (subst (λ o. AreAllowed n o (map f xs ++ rest)) (keeps order x) all.1))

-- an item written first, and others behind it
written : {T : Type 0} (first : T) (room behind : List T) (left count : ℕ) → 0 < length room → count ≤ length behind
    → take (1 + count) (put_mid 1 left (set room 0 first) behind) ≡ first ∷ take count behind
written first [] behind left count some fit = absurd (omega arith)
written first (old ∷ others) behind left count some fit =
    let one : 1 + count ≡ suc count = omega arith in
    ap (λ n. take n (put_mid 1 left (first ∷ others) behind)) one
    ∙ ap (λ l. first ∷ l) (take-append-le count behind (post_of 1 left (first ∷ others)) fit)

-- an operation that f makes, and those behind it that f makes too
module _ {T : Type 0} (f : T → Operation) (first : T) (room items : List T) (left count : ℕ) (behind : List Operation)
    (some : 0 < length room) (fit : count ≤ length items) (are : take count behind ≡ map f (take count items)) where
  abbrev all_items : List T
  all_items = take (1 + count) (put_mid 1 left (set room 0 first) items)

  pub run_is : map f all_items ≡ f first ∷ take count behind
  run_is = ap (map f) (written first room items left count some fit) ∙ ap (λ l. f first ∷ l) (sym are)

  pub run_performed : (old new : Slab) → count ≤ length behind → new ≡ after_all (map f all_items) old → PerformsFirst (f first) behind count old new
  run_performed old new within is = record { within = within; performed = is ∙ ap (λ l. after_all l old) run_is }

  pub run_allowed : (keeps : (order : Option (List ℕ)) (x : T) → order_after order (f x) ≡ order) (n : ℕ) (order : Option (List ℕ)) → AreAllowed n order (f first ∷ behind)
      → All (λ x. IsAllowed n order (f x)) all_items
  run_allowed keeps n order allowed =
      each_allowed f keeps n order all_items (drop count behind) (subst (AreAllowed n order) (
      ap (λ l. f first ∷ l) (sym (take-append-drop count behind))
      ∙ ap (λ l. l ++ drop count behind) (sym run_is)) allowed)
