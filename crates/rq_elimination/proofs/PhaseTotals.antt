-- The operations of all phases are all operations.
use Rattle.std.proofs.Common.{◌≡◌, if◌then◌else◌, ℕ, ◌+◌, ◌-◌, ◌≤◌, Bool, List, [], ◌∷◌, ◌++◌, count_by, length, map, take, drop, sym, ap, ◌∙◌, arith, append_assoc, length-append}
use Rattle.std.specs.List.{slice_range}
use Rattle.std.proofs.lemmas.List.{drop-append-le, drop-drop, drop-map, length-drop, take-append-drop, take-append-le, take-map, take_rest}
use Rattle.std.proofs.lemmas.List.Sums.{sum_by-append}
use Rattle.rq_algebra.specs.Operations.{Operation, Reorder}
use Rattle.rq_operations.specs.RecordedSteps.{operation_of_step}
use Rattle.rq_operations.specs.declared.steps.Step.{Step}
use Rattle.rq_elimination.specs.OperationCounts.{additions, is_addition, is_multiplication, multiplications}
use Rattle.rq_elimination.specs.PhaseCounts.{AreCountsOf, AreInOrder, CountsEach, first_of, second_of, fourth_of, total_of}
use Rattle.rq_elimination.specs.declared.counts.OperationCounts.{OperationCounts}
use Rattle.rq_elimination.specs.declared.counts.PhaseCounts.{PhaseCounts}
use Rattle.rq_elimination.specs.declared.counts.PhaseEnds.{PhaseEnds}

module _ (is : Operation → Bool) where
  pub count-append : (xs ys : List Operation) → count_by is (xs ++ ys) ≡ count_by is xs + count_by is ys
  count-append xs ys = sum_by-append (λ (o : Operation). if is o then 1 else 0) xs ys

  module _ (xs : List Operation) where
    rest : (a b : ℕ) → a ≤ b → count_by is (drop a xs) ≡ count_by is (slice_range xs a b) + count_by is (drop b xs)
    rest a b l =
        let back : a + (b - a) ≡ b = omega arith in
        let behind : drop (b - a) (drop a xs) ≡ drop b xs = drop-drop (b - a) a xs ∙ ap (λ (n : ℕ). drop n xs) back in
        ap (count_by is) (sym (take-append-drop (b - a) (drop a xs))) ∙ count-append (take (b - a) (drop a xs)) (drop (b - a) (drop a xs))
        ∙ ap (λ (ys : List Operation). count_by is (take (b - a) (drop a xs)) + count_by is ys) behind

    pub count_all : (ends : PhaseEnds) → AreInOrder ends (length xs) → count_by is (first_of ends xs) + count_by is (second_of ends xs) + count_by is (fourth_of ends xs) ≡ count_by is xs
    count_all ends order =
        let whole : count_by is xs ≡ count_by is (take ends.cleared xs) + count_by is (drop ends.cleared xs) = ap (count_by is) (sym (take-append-drop ends.cleared xs)) ∙ count-append (take ends.cleared xs) (drop ends.cleared xs) in
        let forward = rest ends.cleared ends.eliminated order.first in
        let sparsifying = rest ends.eliminated ends.sparsified order.forward in
        let back = rest ends.sparsified ends.substituted order.sparsifying in
        let second = count-append (slice_range xs ends.cleared ends.eliminated) (slice_range xs ends.sparsified ends.substituted) in
        let fourth = count-append (slice_range xs ends.eliminated ends.sparsified) (drop ends.substituted xs) in
        omega (arith, whole, forward, sparsifying, back, second, fourth)

-- the phases' counts sum to those of the operations
pub record AreTotalsOf (counts : OperationCounts) (operations : List Operation) : Type 0 where
  pub additions_are : total_of counts.additions ≡ additions operations
  pub multiplications_are : total_of counts.multiplications ≡ multiplications operations

pub totals_of : (ends : PhaseEnds) (operations : List Operation) (counts : OperationCounts) → AreInOrder ends (length operations) → AreCountsOf ends operations counts → AreTotalsOf counts operations
totals_of ends operations counts in_order are =
    let added = count_all is_addition operations ends in_order in
    let multiplied = count_all is_multiplication operations ends in_order in
    let a = are.additions_are in
    let m = are.multiplications_are in
    record {
      additions_are = omega (arith, added, a.first, a.second, a.fourth);
      multiplications_are = omega (arith, multiplied, m.first, m.second, m.fourth);
    }

-- ---- an order behind them

module _ (xs : List Operation) (order : List ℕ) (ends : PhaseEnds) (in_order : AreInOrder ends (length xs)) where
  part_kept : (a b : ℕ) → a ≤ b → b ≤ length xs → slice_range (xs ++ Reorder order ∷ []) a b ≡ slice_range xs a b
  part_kept a b l m =
      ap (take (b - a)) (drop-append-le a xs (Reorder order ∷ []) (omega arith)) ∙ take-append-le (b - a) (drop a xs) (Reorder order ∷ []) (let long = length-drop a xs in omega (arith, long))

  first_kept : first_of ends (xs ++ Reorder order ∷ []) ≡ first_of ends xs
  first_kept = take-append-le ends.cleared xs (Reorder order ∷ []) (omega (arith, in_order.first, in_order.forward, in_order.sparsifying, in_order.back))

  second_kept : second_of ends (xs ++ Reorder order ∷ []) ≡ second_of ends xs
  second_kept =
      ap (λ (ys : List Operation). ys ++ slice_range (xs ++ Reorder order ∷ []) ends.sparsified ends.substituted) (part_kept ends.cleared ends.eliminated in_order.first (omega (arith, in_order.forward, in_order.sparsifying, in_order.back)))
      ∙ ap (λ (ys : List Operation). slice_range xs ends.cleared ends.eliminated ++ ys) (part_kept ends.sparsified ends.substituted in_order.sparsifying in_order.back)

  fourth_longer : fourth_of ends (xs ++ Reorder order ∷ []) ≡ fourth_of ends xs ++ Reorder order ∷ []
  fourth_longer =
      ap (λ (ys : List Operation). ys ++ drop ends.substituted (xs ++ Reorder order ∷ [])) (part_kept ends.eliminated ends.sparsified in_order.forward (omega (arith, in_order.sparsifying, in_order.back)))
      ∙ ap (λ (ys : List Operation). slice_range xs ends.eliminated ends.sparsified ++ ys) (drop-append-le ends.substituted xs (Reorder order ∷ []) in_order.back)
      ∙ sym (append_assoc (slice_range xs ends.eliminated ends.sparsified) (drop ends.substituted xs) (Reorder order ∷ []))

  -- an order counts as none of them
  pub counts_with_order : (counts : OperationCounts) → AreCountsOf ends xs counts → AreCountsOf ends (xs ++ Reorder order ∷ []) counts
  counts_with_order counts are =
      let a = are.additions_are in
      let m = are.multiplications_are in
      let none = count-append is_addition (fourth_of ends xs) (Reorder order ∷ []) in
      let neither = count-append is_multiplication (fourth_of ends xs) (Reorder order ∷ []) in
      record {
        additions_are = record {
          first = a.first ∙ ap additions (sym first_kept);
          second = a.second ∙ ap additions (sym second_kept);
          fourth = rw fourth_longer (omega (arith, none, a.fourth));
        };
        multiplications_are = record {
          first = m.first ∙ ap multiplications (sym first_kept);
          second = m.second ∙ ap multiplications (sym second_kept);
          fourth = rw fourth_longer (omega (arith, neither, m.fourth));
        };
      }

  pub longer_in_order : AreInOrder ends (length (xs ++ Reorder order ∷ []))
  longer_in_order = record { first = in_order.first; forward = in_order.forward; sparsifying = in_order.sparsifying; back = (let long = length-append xs (Reorder order ∷ []) in omega (arith, long, in_order.back)) }

-- ---- counted in parts of the steps

module _ (is : Operation → Bool) (steps : List Step) where
  steps_between : (a b : ℕ) → count_by is (map operation_of_step (take (b - a) (drop a steps))) ≡ count_by is (slice_range (map operation_of_step steps) a b)
  steps_between a b = ap (count_by is) (sym (take-map operation_of_step (b - a) (drop a steps)) ∙ ap (take (b - a)) (sym (drop-map operation_of_step a steps)))

  pub phases_counted : (ends : PhaseEnds) (clearing forward sparsifying back last : ℕ) → clearing ≡ count_by is (map operation_of_step (take ends.cleared steps))
      → forward ≡ count_by is (map operation_of_step (take (ends.eliminated - ends.cleared) (drop ends.cleared steps))) → sparsifying ≡ count_by is (map operation_of_step (take (ends.sparsified - ends.eliminated) (drop ends.eliminated steps)))
      → back ≡ count_by is (map operation_of_step (take (ends.substituted - ends.sparsified) (drop ends.sparsified steps))) → last ≡ count_by is (map operation_of_step (take (length steps - ends.substituted) (drop ends.substituted steps)))
      → (counts : PhaseCounts) → counts.first ≡ clearing → counts.second ≡ forward + back → counts.fourth ≡ sparsifying + last → CountsEach (count_by is) ends (map operation_of_step steps) counts
  phases_counted ends clearing forward sparsifying back last a b c d e counts first second fourth =
      let ops = map operation_of_step steps in
      let behind : count_by is (map operation_of_step (take (length steps - ends.substituted) (drop ends.substituted steps))) ≡ count_by is (drop ends.substituted ops) =
      ap (λ (xs : List Step). count_by is (map operation_of_step xs)) (take_rest steps ends.substituted) ∙ ap (count_by is) (sym (drop-map operation_of_step ends.substituted steps)) in
      let two = count-append is (slice_range ops ends.cleared ends.eliminated) (slice_range ops ends.sparsified ends.substituted) in
      let four = count-append is (slice_range ops ends.eliminated ends.sparsified) (drop ends.substituted ops) in
      record {
        first = first ∙ a ∙ ap (count_by is) (sym (take-map operation_of_step ends.cleared steps));
        second = omega (arith, second, b, d, two, steps_between ends.cleared ends.eliminated, steps_between ends.sparsified ends.substituted);
        fourth = omega (arith, fourth, c, e, four, behind, steps_between ends.eliminated ends.sparsified);
      }
