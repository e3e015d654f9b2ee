-- Sums and dots are linear.
use Rattle.std.proofs.Common.{◌≡◌, ◌≢◌, ℕ, zero, suc, ◌+◌, ◌<◌, add-zero, add-suc, sym, ap, ◌∙◌, refl, arith, inl, inr}
use Rattle.std.proofs.lemmas.Bool.{cases_eq}
use Rattle.rq_algebra.specs.Field.{Field}
use Rattle.rq_algebra.specs.Systems.{sum_below, dot}
use Rattle.rq_algebra.specs.SystemLaws.{ProductActsInTurn}

module _ (F : Field) where
  pub add_zero : (x : ℕ) → F.add x 0 ≡ x
  add_zero x = F.add_comm x 0 ∙ F.zero_add x

  pub add_left : (x y z : ℕ) → F.add x (F.add y z) ≡ F.add y (F.add x z)
  add_left x y z = cc (F.add_assoc x y z, F.add_assoc y x z, F.add_comm x y)

  -- adding twice gives back what was there
  pub add_twice : (x y : ℕ) → F.add x (F.add x y) ≡ y
  add_twice x y = cc (F.add_assoc x x y, F.add_self x, F.zero_add y)

  pub add_again : (x y : ℕ) → F.add (F.add x y) y ≡ x
  add_again x y = cc (F.add_assoc x y y, F.add_self y, add_zero x)

  pub mul_zero : (x : ℕ) → F.mul x 0 ≡ 0
  mul_zero x = cc (F.mul_add x 0 0, F.add_self 0, F.add_self (F.mul x 0))

  pub zero_mul : (x : ℕ) → F.mul 0 x ≡ 0
  zero_mul x = F.mul_comm 0 x ∙ mul_zero x

  pub add_mul : (x y z : ℕ) → F.mul (F.add x y) z ≡ F.add (F.mul x z) (F.mul y z)
  add_mul x y z = cc (F.mul_comm (F.add x y) z, F.mul_add z x y, F.mul_comm x z, F.mul_comm y z)

  pub add_pairs : (a b c d : ℕ) → F.add (F.add a b) (F.add c d) ≡ F.add (F.add a c) (F.add b d)
  add_pairs a b c d = simp (F.add_assoc, add_left)

  pub sum_same : (n : ℕ) (f g : ℕ → ℕ) → ((k : ℕ) → k < n → f k ≡ g k) → sum_below F n f ≡ sum_below F n g
  unfolding sum_below
  sum_same zero f g h = refl
  sum_same (suc n) f g h = cc (sum_same n f g (λ k l. h k (omega arith)), h n (omega arith))

  pub sum_add : (n : ℕ) (f g : ℕ → ℕ) → sum_below F n (λ k. F.add (f k) (g k)) ≡ F.add (sum_below F n f) (sum_below F n g)
  unfolding sum_below
  sum_add zero f g = sym (F.zero_add 0)
  sum_add (suc n) f g = ap (λ (s : ℕ). F.add s (F.add (f n) (g n))) (sum_add n f g) ∙ add_pairs (sum_below F n f) (sum_below F n g) (f n) (g n)

  pub sum_mul : (n c : ℕ) (f : ℕ → ℕ) → sum_below F n (λ k. F.mul c (f k)) ≡ F.mul c (sum_below F n f)
  unfolding sum_below
  sum_mul zero c f = sym (mul_zero c)
  sum_mul (suc n) c f = ap (λ (s : ℕ). F.add s (F.mul c (f n))) (sum_mul n c f) ∙ sym (F.mul_add c (sum_below F n f) (f n))

  pub sum_zero : (n : ℕ) (f : ℕ → ℕ) → ((k : ℕ) → k < n → f k ≡ 0) → sum_below F n f ≡ 0
  unfolding sum_below
  sum_zero zero f h = refl
  sum_zero (suc n) f h = cc (sum_zero n f (λ k l. h k (omega arith)), h n (omega arith), F.zero_add 0)

  pub sum_below_size : (n : ℕ) (f : ℕ → ℕ) → ((k : ℕ) → k < n → f k < F.size) → sum_below F n f < F.size
  unfolding sum_below
  sum_below_size zero f h = omega (arith, F.one_below)
  sum_below_size (suc n) f h = F.add_below _ _ (sum_below_size n f (λ k l. h k (omega arith))) (h n (omega arith))

  -- a sum with one place that may be nonzero
  pub sum_one : (n : ℕ) (f : ℕ → ℕ) (p : ℕ) → p < n → ((k : ℕ) → k < n → k ≢ p → f k ≡ 0) → sum_below F n f ≡ f p
  unfolding sum_below
  sum_one zero f p l h = absurd (omega arith)
  sum_one (suc n) f p l h =
      elim (cases_eq p n) [
        | inl e ↦ cc (sum_zero n f (λ k m. h k (omega arith) (omega arith)), F.zero_add (f n), ap f e)
        | inr d ↦ cc (sum_one n f p (omega arith) (λ k m. h k (omega arith)), h n (omega arith) (λ e. d (sym e)), add_zero (f p))
      ]

  -- dot is linear in the row and in the column, and reads both only below the width
  pub dot_same : (n : ℕ) (r s x y : ℕ → ℕ) → ((k : ℕ) → k < n → r k ≡ s k) → ((k : ℕ) → k < n → x k ≡ y k) → dot F n r x ≡ dot F n s y
  unfolding dot
  dot_same n r s x y h g = sum_same n (λ k. F.mul (r k) (x k)) (λ k. F.mul (s k) (y k)) (λ k l. cc (h k l, g k l))

  pub dot_add_row : (n : ℕ) (r s x : ℕ → ℕ) → dot F n (λ k. F.add (r k) (s k)) x ≡ F.add (dot F n r x) (dot F n s x)
  unfolding dot
  dot_add_row n r s x =
      sum_same n (λ k. F.mul (F.add (r k) (s k)) (x k)) (λ k. F.add (F.mul (r k) (x k)) (F.mul (s k) (x k))) (λ k l. add_mul (r k) (s k) (x k))
      ∙ sum_add n (λ k. F.mul (r k) (x k)) (λ k. F.mul (s k) (x k))

  pub dot_mul_row : (n c : ℕ) (r x : ℕ → ℕ) → dot F n (λ k. F.mul c (r k)) x ≡ F.mul c (dot F n r x)
  unfolding dot
  dot_mul_row n c r x =
      sum_same n (λ k. F.mul (F.mul c (r k)) (x k)) (λ k. F.mul c (F.mul (r k) (x k))) (λ k l. F.mul_assoc c (r k) (x k))
      ∙ sum_mul n c (λ k. F.mul (r k) (x k))

  pub dot_comm : (n : ℕ) (r x : ℕ → ℕ) → dot F n r x ≡ dot F n x r
  unfolding dot
  dot_comm n r x = sum_same n (λ k. F.mul (r k) (x k)) (λ k. F.mul (x k) (r k)) (λ k l. F.mul_comm (r k) (x k))

  pub dot_add_column : (n : ℕ) (r x y : ℕ → ℕ) → dot F n r (λ k. F.add (x k) (y k)) ≡ F.add (dot F n r x) (dot F n r y)
  dot_add_column n r x y = cc (dot_comm n r (λ k. F.add (x k) (y k)), dot_add_row n x y r, dot_comm n r x, dot_comm n r y)

  pub dot_mul_column : (n c : ℕ) (r x : ℕ → ℕ) → dot F n r (λ k. F.mul c (x k)) ≡ F.mul c (dot F n r x)
  dot_mul_column n c r x = cc (dot_comm n r (λ k. F.mul c (x k)), dot_mul_row n c x r, dot_comm n r x)

  -- row + c * another
  pub dot_fma : (n c : ℕ) (r s x : ℕ → ℕ) → dot F n (λ k. F.add (r k) (F.mul c (s k))) x ≡ F.add (dot F n r x) (F.mul c (dot F n s x))
  dot_fma n c r s x = dot_add_row n r (λ k. F.mul c (s k)) x ∙ ap (λ (d : ℕ). F.add (dot F n r x) d) (dot_mul_row n c s x)

  pub dot_below_size : (n : ℕ) (r x : ℕ → ℕ) → dot F n r x < F.size
  unfolding dot
  dot_below_size n r x = sum_below_size n (λ k. F.mul (r k) (x k)) (λ k l. F.mul_below (r k) (x k))

  -- a row that is zero but at one place
  pub dot_one : (n : ℕ) (r x : ℕ → ℕ) (p : ℕ) → p < n → ((k : ℕ) → k < n → k ≢ p → r k ≡ 0) → dot F n r x ≡ F.mul (r p) (x p)
  unfolding dot
  dot_one n r x p l h = sum_one n (λ k. F.mul (r k) (x k)) p l (λ k m d. cc (h k m d, zero_mul (x k)))

  pub dot_zero : (n : ℕ) (r x : ℕ → ℕ) → ((k : ℕ) → k < n → F.mul (r k) (x k) ≡ 0) → dot F n r x ≡ 0
  unfolding dot
  dot_zero n r x h = sum_zero n (λ k. F.mul (r k) (x k)) h

  pub dot-suc : (n : ℕ) (r x : ℕ → ℕ) → dot F (suc n) r x ≡ F.add (dot F n r x) (F.mul (r n) (x n))
  unfolding dot sum_below
  dot-suc n r x = refl

  -- an inverse undoes
  pub undo_mul : (c x : ℕ) → c < F.size → c ≢ 0 → x < F.size → F.mul (F.inverse c) (F.mul c x) ≡ x
  undo_mul c x lc nc lx = cc (F.mul_assoc (F.inverse c) c x, F.inverse_mul c lc nc, F.one_mul x lx)

  pub redo_mul : (c x : ℕ) → c < F.size → c ≢ 0 → x < F.size → F.mul c (F.mul (F.inverse c) x) ≡ x
  redo_mul c x lc nc lx = cc (F.mul_assoc c (F.inverse c) x, F.mul_comm c (F.inverse c), F.inverse_mul c lc nc, F.one_mul x lx)

  pub mul_one : (x : ℕ) → x < F.size → F.mul x 1 ≡ x
  mul_one x l = F.mul_comm x 1 ∙ F.one_mul x l

  pub inverse_nonzero : (x : ℕ) → x < F.size → x ≢ 0 → F.inverse x ≢ 0
  inverse_nonzero x l d e = let z : ◌≡◌ {A = ℕ} 0 1 = cc (F.inverse_mul x l d, e, zero_mul x) in omega (arith, z)

  -- a sum in two parts
  pub sum_split : (m n : ℕ) (f : ℕ → ℕ) → sum_below F (m + n) f ≡ F.add (sum_below F m f) (sum_below F n (λ k. f (m + k)))
  unfolding sum_below
  sum_split m zero f = rw (add-zero m) (sym (add_zero (sum_below F m f)))
  sum_split m (suc n) f = rw (add-suc m n) (ap (λ (s : ℕ). F.add s (f (m + n))) (sum_split m n f) ∙ F.add_assoc (sum_below F m f) (sum_below F n (λ k. f (m + k))) (f (m + n)))

  pub dot_split : (m n : ℕ) (r x : ℕ → ℕ) → dot F (m + n) r x ≡ F.add (dot F m r x) (dot F n (λ k. r (m + k)) (λ k. x (m + k)))
  unfolding dot
  dot_split m n r x = sum_split m n (λ k. F.mul (r k) (x k))

  -- sums of sums, in either order
  pub sum_sum : (m n : ℕ) (f : ℕ → ℕ → ℕ) → sum_below F m (λ i. sum_below F n (λ k. f i k)) ≡ sum_below F n (λ k. sum_below F m (λ i. f i k))
  unfolding sum_below
  sum_sum zero n f = sym (sum_zero n (λ k. 0) (λ k l. refl))
  sum_sum (suc m) n f = ap (λ (s : ℕ). F.add s (sum_below F n (λ k. f m k))) (sum_sum m n f) ∙ sym (sum_add n (λ k. sum_below F m (λ i. f i k)) (λ k. f m k))

-- a row times a matrix, times a column, is the row times the matrix times the column
pub dot_product : ProductActsInTurn
unfolding dot
dot_product F m n r a x =
    sum_same F n _ _ (λ k l. F.mul_comm (sum_below F m (λ i. F.mul (r i) (a i k))) (x k) ∙ sym (sum_mul F m (x k) (λ i. F.mul (r i) (a i k))))
    ∙ sym (sum_sum F m n (λ i k. F.mul (x k) (F.mul (r i) (a i k))))
    ∙ sum_same F m _ _ (λ i l.
    sum_same F n _ _ (λ k o. cc (F.mul_comm (x k) (F.mul (r i) (a i k)), F.mul_assoc (r i) (a i k) (x k)))
    ∙ sum_mul F n (r i) (λ k. F.mul (a i k) (x k)))
