-- One more operation: what it asks, and that it does to the values what was done to the rows.
use Rattle.std.proofs.Common.{◌≡◌, ◌≢◌, ℕ, ◌<◌, List, [], ◌∷◌, ◌++◌, Option, None, set, sym, ap, ◌∙◌, refl, subst, arith, inl, inr, replicate}
use Rattle.std.proofs.lemmas.Bool.{cases_eq}
use Rattle.std.proofs.lemmas.List.{get_or-set_same, get_or-set_other, length-set, length-replicate}
use Rattle.std.proofs.lemmas.List.Sums.{fold_push}
use Rattle.rq_algebra.specs.Field.{Field}
use Rattle.rq_algebra.specs.Systems.{at}
use Rattle.rq_algebra.specs.Steps.{AddsRow, SameSolutions}
use Rattle.rq_algebra.specs.Operations.{Operation, AddAssign, MulAssign, Fma, Reorder, Space, Store, step, run, plain, unordered, IsAllowed, AreAllowed, order_after, IsValues}
use Rattle.rq_algebra.specs.Following.{KeepsSolutions, Follows, Extends}
use Rattle.rq_algebra.specs.OperationLaws.{NothingFollows, AddAssignExtends, FmaExtends, MulAssignExtends}
use Rattle.rq_algebra.proofs.Placewise.{at-zeros}
use Rattle.rq_algebra.proofs.Solutions.{SameSolutions-refl, SameSolutions-trans, adds_keeps, scales_keeps}

pub run_push : {X : Type 0} (S : Space X) (operations : List Operation) (operation : Operation) (s : Store X) → run S (operations ++ operation ∷ []) s ≡ step S (run S operations s) operation
unfolding run
run_push S operations operation s = fold_push (step S) s operations operation

pub run-append : {X : Type 0} (S : Space X) (first second : List Operation) (s : Store X) → run S (first ++ second) s ≡ run S second (run S first s)
unfolding run
run-append S [] second s = refl
run-append S (operation ∷ first) second s = unfold run in run-append S first second (step S s operation)

-- the order that is set after all of them
abbrev pub last_order : Option (List ℕ) → List Operation → Option (List ℕ)
last_order order [] = order
last_order order (operation ∷ operations) = last_order (order_after order operation) operations

order-step : {X : Type 0} (S : Space X) (s : Store X) (operation : Operation) → (step S s operation).order ≡ order_after s.order operation
unfolding step
order-step S s (AddAssign dest src) = refl
order-step S s (MulAssign dest scalar) = refl
order-step S s (Fma dest src scalar) = refl
order-step S s (Reorder order) = refl

pub order-run : {X : Type 0} (S : Space X) (operations : List Operation) (s : Store X) → (run S operations s).order ≡ last_order s.order operations
unfolding run
order-run S [] s = refl
order-run S (operation ∷ operations) s = unfold run in order-run S operations (step S s operation) ∙ ap (λ (o : Option (List ℕ)). last_order o operations) (order-step S s operation)

pub AreAllowed-push : (n : ℕ) (order : Option (List ℕ)) (operations : List Operation) (operation : Operation) → AreAllowed n order operations → IsAllowed n (last_order order operations) operation → AreAllowed n order (operations ++ operation ∷ [])
AreAllowed-push n order [] operation all one = (one, tt)
AreAllowed-push n order (first ∷ operations) operation all one = (all.0, AreAllowed-push n (order_after order first) operations operation all.1 one)

-- what an operation asks where it stands among others
pub AreAllowed-middle : (n : ℕ) (order : Option (List ℕ)) (before : List Operation) (operation : Operation) (after : List Operation) → AreAllowed n order (before ++ operation ∷ after) → IsAllowed n (last_order order before) operation
AreAllowed-middle n order [] operation after all = all.0
AreAllowed-middle n order (first ∷ before) operation after all = AreAllowed-middle n (order_after order first) before operation after all.1

pub follows_none : NothingFollows
unfolding run
follows_none F height width rows = record { allowed = tt; keeps = λ v e. record { values = e; order = refl; same = SameSolutions-refl F height width rows (at v) } }

module _ (F : Field) (height width : ℕ) where
  pub zero_values : IsValues F height (replicate height 0)
  zero_values = record { count = length-replicate height 0; elements = λ i l. rw (at-zeros height i) (omega (arith, F.one_below)) }

  -- operations that follow rows set no order
  pub follows_unordered : (original rows : ℕ → ℕ → ℕ) (operations : List Operation) → Follows F height width original rows operations → last_order None operations ≡ None
  follows_unordered original rows operations f = sym (order-run (plain F) operations (unordered (replicate height 0))) ∙ (f.keeps (replicate height 0) zero_values).order

  values_set : (v : List ℕ) (i x : ℕ) → i < height → x < F.size → IsValues F height v → IsValues F height (set v i x)
  values_set v i x l m e = record {
    count = length-set v i x ∙ e.count;
    elements = λ j n. elim (cases_eq j i) [
      | inl s ↦ rw (s, get_or-set_same v i x 0 (omega (arith, e.count))) m
      | inr d ↦ rw (get_or-set_other v i j x 0 d) (e.elements j n)
    ];
  }

  module _ (a b : ℕ → ℕ → ℕ) (operations : List Operation) (operation : Operation) (dest : ℕ) (allowed : IsAllowed height None operation) (in_dest : dest < height) where
    -- one more operation, which sets a value so that the changed rows say what the rows said
    follows_more : ((w : List ℕ) → IsValues F height w → (x : ℕ) × (x < F.size) × (step (plain F) (unordered w) operation ≡ unordered (set w dest x)) × SameSolutions F height width a (at w) b (at (set w dest x)))
        → Extends F height width a operations b (operations ++ operation ∷ [])
    follows_more sets original f = record {
      allowed = AreAllowed-push height None operations operation f.allowed (subst (λ (o : Option (List ℕ)). IsAllowed height o operation) (sym (follows_unordered original a operations f)) allowed);
      keeps = λ v e.
          let s : Store ℕ = run (plain F) operations (unordered v) in
          let k : KeepsSolutions F height width original a v s = f.keeps v e in
          let is : unordered s.values ≡ s = ap (λ (o : Option (List ℕ)). let t : Store ℕ = record { values = s.values; order = o } in t) (sym k.order) in
          let one = sets s.values k.values in
          rw (run_push (plain F) operations operation (unordered v)) (
          subst (λ (t : Store ℕ). KeepsSolutions F height width original b v (step (plain F) t operation)) is (
          subst (λ (t : Store ℕ). KeepsSolutions F height width original b v t) (sym one.2) record {
            values = values_set s.values dest one.0 in_dest one.1 k.values;
            order = refl;
            same = SameSolutions-trans F height width k.same one.3;
          }));
    }

    -- one that adds a multiple of a value
    follows_adding : (src scalar : ℕ) → src ≢ dest → src < height → AddsRow F height width dest src scalar a b
        → ((w : List ℕ) → IsValues F height w → step (plain F) (unordered w) operation ≡ unordered (set w dest (F.add (at w dest) (F.mul scalar (at w src)))))
        → Extends F height width a operations b (operations ++ operation ∷ [])
    follows_adding src scalar apart in_src rows sets = follows_more (λ w e. (
      _,
      F.add_below _ _ (e.elements dest in_dest) (F.mul_below _ _),
      sets w e,
      adds_keeps F height width dest src scalar apart in_dest in_src a b (at w) _ rows record {
        at_dest = get_or-set_same w dest _ 0 (omega (arith, e.count));
        elsewhere = λ i l d. get_or-set_other w dest i _ 0 d;
      },
    ))

pub follows_fma : FmaExtends
unfolding step
follows_fma F height width a b operations dest src scalar apart in_dest in_src rows =
    follows_adding F height width a b operations (Fma dest src scalar) dest (in_dest, in_src, apart) in_dest src scalar apart in_src rows (λ w e. refl)

pub follows_add : AddAssignExtends
unfolding step
follows_add F height width a b operations dest src apart in_dest in_src rows =
    follows_adding F height width a b operations (AddAssign dest src) dest (in_dest, in_src, apart) in_dest src 1 apart in_src rows (λ w e.
    ap (λ y. unordered (set w dest (F.add (at w dest) y))) (sym (F.one_mul (at w src) (e.elements src in_src))))

pub follows_scale : MulAssignExtends
unfolding step
follows_scale F height width a b operations dest scalar in_dest is_element nonzero rows =
    follows_more F height width a b operations (MulAssign dest scalar) dest in_dest in_dest (λ w e. (
      _,
      F.mul_below _ _,
      refl,
      scales_keeps F height width dest scalar in_dest is_element nonzero a b (at w) _ e.elements rows record {
        at_dest = get_or-set_same w dest _ 0 (omega (arith, e.count));
        elsewhere = λ i l d. get_or-set_other w dest i _ 0 d;
      },
    ))
