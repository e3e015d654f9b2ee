-- Orders: the first numbers in their own places, and two places exchanged.
use Rattle.std.proofs.Common.{◌≡◌, ◌≢◌, ℕ, ◌<◌, List, length, get_or, set, refl, sym, ap, ◌∙◌, arith, inl, inr, zero-add, length-set}
use Rattle.std.specs.Iterator.{DrainsIf}
use Rattle.std.specs.List.{range_with_len, swap}
use Rattle.std.proofs.iter.Yields.{nat_range_steps}
use Rattle.std.proofs.lemmas.Iterator.{YieldsList-from_range, items_from_drains}
use Rattle.std.proofs.lemmas.Bool.{cases_eq}
use Rattle.std.proofs.lemmas.List.{map-id}
use Rattle.std.proofs.lemmas.List.Edits.{swap_is, swapped_from_swap}
use Rattle.std.proofs.lemmas.List.FromFn.{length-range_with_len, get_or-range_with_len}
use Rattle.rq_algebra.specs.Arrangements.{exchange}
use Rattle.rq_algebra.specs.Systems.{at}
use Rattle.rq_algebra.proofs.Places.{exchange_left, exchange_right, exchange_other, exchange_below, exchange_twice}
use Rattle.rq_matrix.specs.Orders.{Order, IsOrderOf, IsPlacedOrder}

-- ---- the first numbers

-- the numbers below `count`, each at its own place
abbrev pub first_order : ℕ → Order
first_order count = record { order = range_with_len 0 count; places = range_with_len 0 count }

pub first_is_order : (count : ℕ) → IsPlacedOrder (first_order count)
first_is_order count =
    let xs : List ℕ = range_with_len 0 count in
    let own : (k : ℕ) → k < length xs → at xs k ≡ k = λ k l. get_or-range_with_len 0 count k 0 (omega (arith, length-range_with_len 0 count)) ∙ zero-add k in
    let placed : (k : ℕ) → k < length xs → (at xs k < length xs) × (at xs (at xs k) ≡ k) = λ k l. (omega (arith, own k l), ap (at xs) (own k l) ∙ own k l) in
    record { order_count = refl; place_count = refl; ordered = placed; placed = placed }

-- the numbers that a range gives
pub first_numbers : (count : ℕ) (xs : List ℕ) → DrainsIf nat_range_steps (Unit {0}) (record { start = 0; end = count }) xs → xs ≡ range_with_len 0 count
first_numbers count xs drained = sym (map-id xs) ∙ items_from_drains xs drained (YieldsList-from_range 0 count count refl (omega arith))

pub first_made : (count : ℕ) (numbers : List ℕ) (o : Order) → numbers ≡ range_with_len 0 count → o ≡ record { order = numbers; places = numbers } → o ≡ first_order count
first_made count numbers o are made = made ∙ ap (λ (xs : List ℕ). let p : Order = record { order = xs; places = xs } in p) are

-- at two places stand two numbers
pub order_apart : (o : Order) (i j : ℕ) → IsPlacedOrder o → i < length o.order → j < length o.order → i ≢ j → get_or o.order i 0 ≢ get_or o.order j 0
order_apart o i j is in_i in_j other same = other (sym (is.ordered i in_i).1 ∙ ap (λ n. get_or o.places n 0) same ∙ (is.ordered j in_j).1)

-- ---- two places exchanged

-- what stands at places i and j is exchanged
pub record ExchangesPlaces (i j : ℕ) (old new : Order) : Type 0 where
  pub count : length new.order ≡ length old.order
  pub first : at new.order i ≡ at old.order j
  pub second : at new.order j ≡ at old.order i
  pub elsewhere : (k : ℕ) → k ≢ i → k ≢ j → at new.order k ≡ at old.order k

at-exchanged : (xs : List ℕ) (p q : ℕ) → p < length xs → q < length xs → (j : ℕ) → at (set (set xs p (at xs q)) q (at xs p)) j ≡ at xs (exchange p q j)
at-exchanged xs p q in_p in_q j =
    let moved = swapped_from_swap xs (set (set xs p (at xs q)) q (at xs p)) p q 0 in_p in_q (swap_is xs p q 0 in_p in_q) in
    elim (cases_eq j p) [
      | inl e ↦ rw (e, exchange_left p q p refl) moved.0
      | inr d ↦ elim (cases_eq j q) [ inl e ↦ rw (e, exchange_right p q q refl) moved.1 | inr f ↦ rw (exchange_other p q j d f) (moved.2 j d f) ]
    ]

module _ (width : ℕ) (order places : List ℕ) (is : IsOrderOf width order places) (p q : ℕ) (in_p : p < width) (in_q : q < width) where
  pub order_exchanged : (j : ℕ) → at (set (set order p (at order q)) q (at order p)) j ≡ at order (exchange p q j)
  order_exchanged = at-exchanged order p q (rw is.order_count in_p) (rw is.order_count in_q)

  pub places_exchanged : (k : ℕ) → k < width → at (set (set places (at order p) q) (at order q) p) k ≡ exchange p q (at places k)
  places_exchanged k l =
      let first : ℕ = at order p in
      let second : ℕ = at order q in
      let own = is.ordered p in_p in
      let other = is.ordered q in_q in
      rw (own.1, other.1) at (at-exchanged places first second (rw is.place_count own.0) (rw is.place_count other.0) k)
      ∙ elim (cases_eq k first) [
        | inl e ↦ rw (exchange_left first second k e) (other.1 ∙ sym (exchange_left p q (at places k) (ap (at places) e ∙ own.1)))
        | inr d ↦ elim (cases_eq k second) [
          | inl e ↦ rw (exchange_right first second k e) (own.1 ∙ sym (exchange_right p q (at places k) (ap (at places) e ∙ other.1)))
          | inr f ↦
              let back = sym (is.placed k l).1 in
              let same = exchange_other p q (at places k) (λ e. d (back ∙ ap (at order) e)) (λ e. f (back ∙ ap (at order) e)) in
              rw (exchange_other first second k d f) (sym same)
        ]
      ]

  pub order_kept : IsOrderOf width (set (set order p (at order q)) q (at order p)) (set (set places (at order p) q) (at order q) p)
  order_kept =
      let to = exchange p q in
      let below = exchange_below p q width in_p in_q in
      record {
        order_count = length-set (set order p (at order q)) q (at order p) ∙ length-set order p (at order q) ∙ is.order_count;
        place_count = length-set (set places (at order p) q) (at order q) p ∙ length-set places (at order p) q ∙ is.place_count;
        ordered = λ j l.
            let there = is.ordered (to j) (below j l) in
            (rw (order_exchanged j) there.0, rw (order_exchanged j) (places_exchanged (at order (to j)) there.0 ∙ ap to there.1 ∙ exchange_twice p q j));
        placed = λ k l.
            let there = is.placed k l in
            let back = order_exchanged (to (at places k)) ∙ ap (at order) (exchange_twice p q (at places k)) ∙ there.1 in
            (rw (places_exchanged k l) (below (at places k) there.0), rw (places_exchanged k l) back);
      }

module _ (o : Order) (is : IsPlacedOrder o) (i j : ℕ) (in_i : i < length o.order) (in_j : j < length o.order) where
  pub exchanges : (new : Order) (first second : ℕ) → first ≡ at o.order i → second ≡ at o.order j
      → ◌≡◌ {A = Order} new (record { order = swap o.order i j; places = swap o.places first second }) → ExchangesPlaces i j o new × IsPlacedOrder new
  exchanges new first second at_i at_j is_new =
      let count = length o.order in
      let in_first : first < length o.places = omega (arith, at_i, is.place_count, (is.ordered i in_i).0) in
      let in_second : second < length o.places = omega (arith, at_j, is.place_count, (is.ordered j in_j).0) in
      let own : at o.places first ≡ i = ap (at o.places) at_i ∙ (is.ordered i in_i).1 in
      let other : at o.places second ≡ j = ap (at o.places) at_j ∙ (is.ordered j in_j).1 in
      let order : swap o.order i j ≡ set (set o.order i (at o.order j)) j (at o.order i) = sym (swap_is o.order i j 0 in_i in_j) in
      let places : swap o.places first second ≡ set (set o.places (at o.order i) j) (at o.order j) i =
      sym (swap_is o.places first second 0 in_first in_second) ∙ rw (own, other, at_i, at_j) refl in
      let kept = order_kept count o.order o.places is i j in_i in_j in
      let exchanged = order_exchanged count o.order o.places is i j in_i in_j in
      rw (is_new, order, places, kept.order_count) (
        record {
          count = kept.order_count;
          first = exchanged i ∙ ap (at o.order) (exchange_left i j i refl);
          second = exchanged j ∙ ap (at o.order) (exchange_right i j j refl);
          elsewhere = λ k not_i not_j. exchanged k ∙ ap (at o.order) (exchange_other i j k not_i not_j);
        },
        kept,
      )
