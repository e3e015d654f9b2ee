-- Small systems in which a law fails for want of a premise.
use Rattle.std.proofs.Common.{◌≡◌, ℕ, ◌<◌, [], ◌∷◌, sym, ◌∙◌, refl, arith}
use Rattle.rq_algebra.specs.Systems.{sum_below, dot, Solves, at}
use Rattle.rq_algebra.specs.Steps.{SameSolutions}
use Rattle.rq_algebra.specs.Operations.{run, step}
use Rattle.rq_algebra.specs.Parities.{sum_listed, parity}
use Rattle.rq_algebra.specs.Two.{two}
use Rattle.rq_algebra.specs.Examples.{triangular, single, empty, tall}
use Rattle.rq_algebra.proofs.Sums.{dot_zero, zero_mul}
use Rattle.rq_algebra.proofs.FewEquations.{few_rows}
use Rattle.rq_algebra.proofs.OperationRuns.{follows_none}
use Rattle.rq_algebra.proofs.Pivots.{finds_by_pivots}
use Rattle.rq_algebra.proofs.SmallCases.{below_one, below_two}
use Rattle.rq_algebra.proofs.examples.premises.Goals as goal

-- zero solves what says nothing, and not that x0 is 1
lost : SameSolutions two 1 1 single (at (1 ∷ [])) empty (at (0 ∷ [])) → ⊥
unfolding dot sum_below
lost same =
    let zero_solves : Solves two 1 1 empty (λ _. 0) (at (0 ∷ [])) = record { at = below_one (λ i. dot two 1 (empty i) (λ _. 0) ≡ at (0 ∷ []) i) refl } in
    let e : ◌≡◌ {A = ℕ} 0 1 = (same.back (λ _. 0) zero_solves).at 0 (omega arith) in
    omega (arith, e)

-- any column makes zero of an equation without an unknown
unsolved : (x : ℕ → ℕ) → 0 ≡ dot two 1 (empty 0) x
unsolved x = sym (dot_zero two 1 (empty 0) x (λ k l. below_one (λ j. two.mul (empty 0 j) (x j) ≡ 0) (zero_mul two (x 0)) k l))

pub returns : goal.returns
unfolding dot sum_below run step sum_listed parity
returns c = record {
  two_rows = (record { at_dest = below_one _ refl; elsewhere = λ i k l m d. absurd (omega arith) }, record { at_dest = refl; elsewhere = λ i l d. absurd (omega arith) }, lost);
  nonzero = (record { at_dest = below_one _ refl; elsewhere = λ i k l m d. absurd (omega arith) }, record { at_dest = refl; elsewhere = λ i l d. absurd (omega arith) }, lost);
  few = few_rows two 2 1 triangular (omega arith) (λ i k l m. below_one (λ j. triangular j k < 2) (below_two (λ j. triangular 0 j < 2) (omega arith) (omega arith) k m) i l);
  square = (
    finds_by_pivots two 2 1 tall tall [] (follows_none two 2 1 tall) (λ _. 0) (λ _. 0) record {
      in_rows = record { below = λ i l. omega arith; apart = λ i j l m e. omega arith };
      in_columns = record { below = λ i l. omega arith; apart = λ i j l m e. omega arith };
      ones = λ p l. refl;
      zeros = λ p k l m d. absurd (omega arith);
      rest = λ i k l free m. let e : i ≡ 1 = omega (arith, free 0 (omega arith)) in rw e (below_one (λ j. tall 1 j ≡ 0) refl k m);
    } (0 ∷ []) record { count = refl; reads = λ p l. refl },
    λ s. let e : ◌≡◌ {A = ℕ} 0 1 = s.at 1 (omega arith) in omega (arith, e),
  );
  determined = (
    λ determined. let e : ◌≡◌ {A = ℕ} 1 0 = determined (λ _. 1) (λ k l. omega arith) record { at = below_one (λ i. dot two 1 (empty i) (λ _. 1) ≡ 0) refl } 0 (omega arith) in omega (arith, e),
    λ has. let e : 0 ≡ 1 = unsolved has.column ∙ has.solves.at 0 (omega arith) in omega (arith, e),
  );
  listed = (λ e. let z : ◌≡◌ {A = ℕ} 1 0 = e in omega (arith, z), λ e. let z : ◌≡◌ {A = ℕ} 2 0 = e in omega (arith, z));
}
