-- Two small systems, worked out.
use Rattle.std.proofs.Common.{◌≡◌, refl, arith}
use Rattle.rq_algebra.specs.Field.{Field}
use Rattle.rq_algebra.specs.Systems.{sum_below, dot, IsDetermined}
use Rattle.rq_algebra.specs.Two.{two}
use Rattle.rq_algebra.specs.Examples.{triangular, repeated, RepeatedHasHomogeneousColumn}
use Rattle.rq_algebra.proofs.Sums.{add_zero, zero_mul}
use Rattle.rq_algebra.proofs.Solutions.{homogeneous_not_determined}
use Rattle.rq_algebra.proofs.SmallCases.{below_two, dot-two}
use Rattle.rq_algebra.proofs.examples.equations.Goals as goal

-- over any field
triangle_determined : (F : Field) → IsDetermined F 2 2 triangular
triangle_determined F x elements s =
    let last : x 1 ≡ 0 = cc (s.at 1 (omega arith), dot-two F (triangular 1) x, zero_mul F (x 0), F.one_mul (x 1) (elements 1 (omega arith)), F.zero_add (x 1)) in
    let first : x 0 ≡ 0 = cc (s.at 0 (omega arith), dot-two F (triangular 0) x, F.one_mul (x 0) (elements 0 (omega arith)), F.one_mul (x 1) (elements 1 (omega arith)), last, add_zero F (x 0)) in
    below_two (λ k. x k ≡ 0) first last

homogeneous_column : RepeatedHasHomogeneousColumn
unfolding dot sum_below
homogeneous_column = record {
  column = λ _. 1;
  is_column = λ k l. omega arith;
  index = 0;
  in_width = omega arith;
  nonzero = omega arith;
  solves = record { at = below_two (λ i. dot two 2 (repeated i) (λ _. 1) ≡ 0) refl refl };
}

pub returns : goal.returns
unfolding dot sum_below
returns c = record {
  solved = record { at = below_two _ refl refl };
  determined = triangle_determined two;
  homogeneous_column = homogeneous_column;
  not_determined = homogeneous_not_determined two 2 2 repeated homogeneous_column;
}
