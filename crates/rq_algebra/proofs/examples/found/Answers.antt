-- One row is added to the other, and the order turns them round.
use Rattle.std.proofs.Common.{◌≡◌, ◌≢◌, ℕ, ◌<◌, [], ◌∷◌, refl, arith}
use Rattle.rq_algebra.specs.Arrangements.{exchange}
use Rattle.rq_algebra.specs.Examples.{rows, turned}
use Rattle.rq_algebra.specs.Two.{two}
use Rattle.rq_algebra.proofs.Places.{exchange_are}
use Rattle.rq_algebra.proofs.OperationRuns.{follows_none, follows_add}
use Rattle.rq_algebra.proofs.Pivots.{finds_by_pivots}
use Rattle.rq_algebra.proofs.SmallCases.{below_two}
use Rattle.rq_algebra.proofs.examples.found.Goals as goal

-- x1 and x0
exchanged : ℕ → ℕ → ℕ
exchanged = rows ((0 ∷ 1 ∷ []) ∷ (1 ∷ 0 ∷ []) ∷ [])

pub returns : goal.returns
unfolding exchange exchanged
returns c = finds_by_pivots two 2 2 turned exchanged (_ ∷ [])
    (follows_add two 2 2 turned exchanged [] 1 0 (omega arith) (omega arith) (omega arith) record {
      at_dest = below_two _ refl refl;
      elsewhere = λ i k l m d. let e : i ≡ 0 = omega arith in rw e (below_two (λ j. exchanged 0 j ≡ turned 0 j) refl refl k m);
    } turned (follows_none two 2 2 turned))
    (exchange 0 1) (λ k. k) record {
      in_rows = exchange_are 0 1 2 (omega arith) (omega arith);
      in_columns = record { below = λ i l. l; apart = λ i j l m e. e };
      ones = below_two _ refl refl;
      zeros = λ p k l m d. below_two (λ q. k ≢ q → exchanged (exchange 0 1 q) k ≡ 0)
          (λ e. let f : k ≡ 1 = omega arith in rw f) (λ e. let f : k ≡ 0 = omega arith in rw f) p l d;
      rest = λ i k l free. below_two (λ j. ((p : ℕ) → p < 2 → exchange 0 1 p ≢ j) → k < 2 → exchanged j k ≡ 0) (λ f. absurd (f 1 (omega arith) refl)) (λ f. absurd (f 0 (omega arith) refl)) i l free;
    } (1 ∷ 0 ∷ []) record { count = refl; reads = below_two _ refl refl }
