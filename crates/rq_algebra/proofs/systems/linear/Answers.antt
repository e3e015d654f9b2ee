-- Sums and products are linear, by the lemmas on sums.
use Rattle.rq_algebra.proofs.Sums.{sum_add, sum_mul, dot_add_row, dot_mul_row, dot_add_column, dot_mul_column, dot_product}
use Rattle.rq_algebra.proofs.systems.linear.Goals as goal

pub returns : goal.returns
returns c = record {
  sum = λ F n c f g. (sum_add F n f g, sum_mul F n c f);
  in_row = λ F n c r s x. (dot_add_row F n r s x, dot_mul_row F n c r x);
  in_column = λ F n c r x y. (dot_add_column F n r x y, dot_mul_column F n c r x);
  product = dot_product;
}
