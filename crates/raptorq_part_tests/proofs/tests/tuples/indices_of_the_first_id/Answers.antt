use Rattle.std.proofs.Common.{rules}
use Rattle.rq_base.proofs.CallLaws.{callable_along}
use Rattle.raptorq_part_tests.proofs.tests.tuples.indices_of_the_first_id.Goals as goal

pub enc_indices-requires-clause-callable : goal.enc_indices-requires-clause-callable
enc_indices-requires-clause-callable g c =
    callable_along _ _ (λ f. Unit {0}) (λ x. Unit {0}) (λ f x fits item. search rules) (λ f x h fits item called. tt) _ _ tt (λ k d lt. tt)
