-- Symbols keep their size under operations, and columns of symbols are taken place by place.
use Rattle.std.proofs.Common.{◌≡◌, ℕ, ◌<◌, ◌⊎◌, List, [], ◌∷◌, map, get_or, set, ◌∙◌, arith, inl, inr}
use Rattle.std.proofs.lemmas.Bool.{cases_eq, cases_lt}
use Rattle.std.proofs.lemmas.List.{length-set, get_or-set_same, get_or-set_other, get_or_past}
use Rattle.rq_algebra.specs.Field.{Field}
use Rattle.rq_algebra.specs.Operations.{Operation, AddAssign, MulAssign, Fma, Reorder, Store, step, run, meant_at}
use Rattle.rq_algebra.specs.Symbols.{add_symbols, symbols, IsSymbol, AreSymbols, slice_at}
use Rattle.rq_algebra.specs.SymbolLaws.{OperationsKeepSymbols, DeterminedHasOneSolutionInSymbols}
use Rattle.rq_algebra.proofs.Solutions.{determined_unique}
use Rattle.rq_algebra.proofs.SymbolSums.{slice_elements, same_symbol, add_nothing, add_is_symbol, scale_is_symbol}

-- a determined system has at most one solution in symbols
pub symbols_unique : DeterminedHasOneSolutionInSymbols
symbols_unique F size height width rows x y values determined are_x are_y solves_x solves_y k l = same_symbol F size (x k) (y k) (are_x k l) (are_y k l) (λ p.
    determined_unique F height width rows (slice_at p x) (slice_at p y) (slice_at p values) determined
    (slice_elements F size width x are_x p) (slice_elements F size width y are_y p) (solves_x.at_place p) (solves_y.at_place p) k l)

module _ (F : Field) (size count : ℕ) where
  symbols_set : (xs : List (List ℕ)) (i : ℕ) (x : List ℕ) → (i < count → IsSymbol F size x) → AreSymbols F size count xs → AreSymbols F size count (set xs i x)
  symbols_set xs i x is are = record {
    count_is = length-set xs i x ∙ are.count_is;
    each = λ j l. elim (cases_eq j i) [
      | inl e ↦ rw (e, get_or-set_same xs i x [] (omega (arith, are.count_is))) (is (omega arith))
      | inr d ↦ rw (get_or-set_other xs i j x [] d) (are.each j l)
    ];
  }

  -- what is read is a symbol, or there is nothing at that place
  value_read : (xs : List (List ℕ)) (i : ℕ) → AreSymbols F size count xs → IsSymbol F size (get_or xs i []) ⊎ (get_or xs i [] ≡ [])
  value_read xs i are = elim (cases_lt i count) [ inl l ↦ inl (are.each i l) | inr l ↦ inr (get_or_past xs i [] (omega (arith, are.count_is))) ]

  add_is : (xs ys : List ℕ) → IsSymbol F size xs → IsSymbol F size ys ⊎ (ys ≡ []) → IsSymbol F size (add_symbols F xs ys)
  add_is xs ys s t = elim t [ inl u ↦ add_is_symbol F size xs ys s u | inr e ↦ rw (e, add_nothing F xs) s ]

  scale_is : (c : ℕ) (xs : List ℕ) → IsSymbol F size xs ⊎ (xs ≡ []) → IsSymbol F size (map (F.mul c) xs) ⊎ (map (F.mul c) xs ≡ [])
  scale_is c xs t = elim t [ inl u ↦ inl (scale_is_symbol F size c xs u) | inr e ↦ inr (rw e) ]

  step_keeps_symbols : (s : Store (List ℕ)) (operation : Operation) → AreSymbols F size count s.values → AreSymbols F size count (step (symbols F) s operation).values
  unfolding step
  step_keeps_symbols s (AddAssign dest src) are = symbols_set s.values (meant_at s.order dest) _ (λ l. add_is _ _ (are.each _ l) (value_read s.values (meant_at s.order src) are)) are
  step_keeps_symbols s (MulAssign dest scalar) are = symbols_set s.values (meant_at s.order dest) _ (λ l. scale_is_symbol F size scalar _ (are.each _ l)) are
  step_keeps_symbols s (Fma dest src scalar) are = symbols_set s.values (meant_at s.order dest) _ (λ l. add_is _ _ (are.each _ l) (scale_is scalar _ (value_read s.values (meant_at s.order src) are))) are
  step_keeps_symbols s (Reorder order) are = are

pub run_keeps_symbols : OperationsKeepSymbols
unfolding run
run_keeps_symbols F size count [] s are = are
run_keeps_symbols F size count (operation ∷ operations) s are =
    unfold run in run_keeps_symbols F size count operations (step (symbols F) s operation) (step_keeps_symbols F size count s operation are)
