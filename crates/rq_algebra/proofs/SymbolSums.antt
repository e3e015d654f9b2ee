-- Sums of symbols.
use Rattle.std.proofs.Common.{◌≡◌, ℕ, zero, suc, ◌<◌, List, [], ◌∷◌, ◌++◌, map, length, replicate, sym, ap, ◌∙◌, refl, arith, inl, inr}
use Rattle.std.proofs.lemmas.Bool.{cases_lt}
use Rattle.std.proofs.lemmas.List.{length-map, length-replicate, get_or_past, ext_get_or}
use Rattle.std.proofs.lemmas.List.Elements.{All-get_or, All-from_get_or, All-head, All-tail}
use Rattle.rq_algebra.specs.Field.{Field}
use Rattle.rq_algebra.specs.Systems.{IsColumn, at}
use Rattle.rq_algebra.specs.Operations.{plain}
use Rattle.rq_algebra.specs.Symbols.{add_symbols, symbols, IsSymbol, IsSymbolColumn, slice_at}
use Rattle.rq_algebra.specs.Parities.{sum_listed}
use Rattle.rq_algebra.specs.SymbolLaws.{SumIsSymbol, SymbolSumIsDotOfParities}
use Rattle.rq_algebra.proofs.Placewise.{place, place_linear, add_symbols_at, scale_at, sum_listed-linear, at-zeros}
use Rattle.rq_algebra.proofs.Parity.{sum_listed_is}

module _ (F : Field) where
  pub add_nothing : (xs : List ℕ) → add_symbols F xs [] ≡ xs
  unfolding add_symbols
  add_nothing [] = refl
  add_nothing (x ∷ xs) = refl

  pub add_symbols_comm : (xs ys : List ℕ) → add_symbols F xs ys ≡ add_symbols F ys xs
  unfolding add_symbols
  add_symbols_comm [] ys = sym (add_nothing ys)
  add_symbols_comm (x ∷ xs) [] = refl
  add_symbols_comm (x ∷ xs) (y ∷ ys) = cc (F.add_comm x y, add_symbols_comm xs ys)

  pub add_symbols_assoc : (xs ys zs : List ℕ) → add_symbols F (add_symbols F xs ys) zs ≡ add_symbols F xs (add_symbols F ys zs)
  unfolding add_symbols
  add_symbols_assoc [] ys zs = refl
  add_symbols_assoc (x ∷ xs) [] zs = refl
  add_symbols_assoc (x ∷ xs) (y ∷ ys) [] = refl
  add_symbols_assoc (x ∷ xs) (y ∷ ys) (z ∷ zs) = cc (F.add_assoc x y z, add_symbols_assoc xs ys zs)

  -- zeros that are no longer than a symbol add nothing to it
  pub add_zeros : (n : ℕ) (xs : List ℕ) → length xs ≡ n → add_symbols F (replicate n 0) xs ≡ xs
  unfolding add_symbols
  add_zeros zero xs e = refl
  add_zeros (suc n) [] e = absurd (omega arith)
  add_zeros (suc n) (x ∷ xs) e = cc (F.zero_add x, add_zeros n xs (omega arith))

  -- one more symbol is added
  pub sum_listed-push : (places : List ℕ) (p : ℕ) (column : ℕ → List ℕ) → sum_listed (symbols F) (places ++ p ∷ []) column ≡ add_symbols F (sum_listed (symbols F) places column) (column p)
  unfolding sum_listed
  sum_listed-push [] p column = add_symbols_comm (column p) []
  sum_listed-push (q ∷ places) p column = ap (add_symbols F (column q)) (sum_listed-push places p column) ∙ sym (add_symbols_assoc (column q) (sum_listed (symbols F) places column) (column p))

module _ (F : Field) (size : ℕ) where
  -- past its end a symbol is read as zero
  pub symbol_elements : (xs : List ℕ) → IsSymbol F size xs → (p : ℕ) → at xs p < F.size
  symbol_elements xs s p = elim (cases_lt p (length xs)) [
    | inl l ↦ All-get_or (λ x. x < F.size) xs p 0 l s.elements
    | inr l ↦ rw (get_or_past xs p 0 l) (omega (arith, F.one_below))
  ]

  pub slice_elements : (n : ℕ) (column : ℕ → List ℕ) → IsSymbolColumn F size n column → (p : ℕ) → IsColumn F n (slice_at p column)
  slice_elements n column are p k l = symbol_elements (column k) (are k l) p

  pub same_symbol : (xs ys : List ℕ) → IsSymbol F size xs → IsSymbol F size ys → ((p : ℕ) → at xs p ≡ at ys p) → xs ≡ ys
  same_symbol xs ys s t same = ext_get_or 0 xs ys (s.size_is ∙ sym t.size_is) (λ p l. same p)

  pub zeros_are_symbol : IsSymbol F size (replicate size 0)
  zeros_are_symbol = record { size_is = length-replicate size 0; elements = All-from_get_or (λ x. x < F.size) (replicate size 0) 0 (λ p l. rw (at-zeros size p) (omega (arith, F.one_below))) }

  pub length-add_symbols : (n : ℕ) (xs ys : List ℕ) → length xs ≡ n → length ys ≡ n → length (add_symbols F xs ys) ≡ n
  unfolding add_symbols
  length-add_symbols n [] ys e f = f
  length-add_symbols n (x ∷ xs) [] e f = e
  length-add_symbols zero (x ∷ xs) (y ∷ ys) e f = absurd (omega arith)
  length-add_symbols (suc n) (x ∷ xs) (y ∷ ys) e f = ap suc (length-add_symbols n xs ys (omega arith) (omega arith))

  pub add_is_symbol : (xs ys : List ℕ) → IsSymbol F size xs → IsSymbol F size ys → IsSymbol F size (add_symbols F xs ys)
  add_is_symbol xs ys s t = record {
    size_is = length-add_symbols size xs ys s.size_is t.size_is;
    elements = All-from_get_or (λ x. x < F.size) (add_symbols F xs ys) 0 (λ p l. rw (add_symbols_at F p xs ys) (F.add_below _ _ (symbol_elements xs s p) (symbol_elements ys t p)));
  }

  pub scale_is_symbol : (c : ℕ) (xs : List ℕ) → IsSymbol F size xs → IsSymbol F size (map (F.mul c) xs)
  scale_is_symbol c xs s = record {
    size_is = length-map xs (F.mul c) ∙ s.size_is;
    elements = All-from_get_or (λ x. x < F.size) (map (F.mul c) xs) 0 (λ p l. rw (scale_at F p c xs) (F.mul_below _ _));
  }

-- the sum of some of the symbols
pub sum_is_symbol : SumIsSymbol
unfolding sum_listed
sum_is_symbol F size width p [] column below are = rw (add_nothing F (column p)) (are p (All-head (λ k. k < width) p [] below))
sum_is_symbol F size width p (q ∷ places) column below are =
    add_is_symbol F size (column p) _ (are p (All-head (λ k. k < width) p (q ∷ places) below)) (sum_is_symbol F size width q places column (All-tail (λ k. k < width) p (q ∷ places) below) are)

-- at each place it is the dot with the parities
pub sum_symbols_is : SymbolSumIsDotOfParities
sum_symbols_is F size width places column below are p =
    sum_listed-linear (symbols F) (plain F) (place p) (place_linear F p) places column
    ∙ sum_listed_is F width places (slice_at p column) below (slice_elements F size width column are p)
