-- The sum at the indices of an id, one after another.
use Rattle.std.proofs.Common.{◌≡◌, ℕ, ◌<◌, ◌≤◌, List, [], ◌∷◌, ◌++◌, All, length, replicate, get_or, Option, Some, None, refl, sym, ap, ◌∙◌, subst, arith, append_assoc, append-nil}
use Rattle.std.proofs.Math.Seq.{take-append_seam, drop-append_seam}
use Rattle.std.proofs.lemmas.List.{length-map}
use Rattle.std.proofs.lemmas.List.Elements.{All-head, All-tail, All-take, All-drop}
use Rattle.rq_algebra.specs.Operations.{IsPlace}
use Rattle.rq_algebra.specs.Symbols.{add_symbols, symbols, IsSymbolColumn}
use Rattle.rq_algebra.specs.Parities.{sum_listed}
use Rattle.rq_algebra.proofs.SymbolSums.{add_nothing, add_zeros, add_symbols_assoc, length-add_symbols, sum_listed-push}
use Rattle.rq_bytes.specs.SymbolSlab.{Slab, HasPlace, symbol_in, symbols_in, with_symbols_added}
use Rattle.rq_standard.specs.OctetField.{octets}
use Rattle.rq_standard.specs.declared.row.TableRow.{TableRow}
use Rattle.rq_standard.specs.TableRows.{IsChecked, intermediate_symbols}
use Rattle.rq_standard.specs.Equations.{row_indices, tuple_sum}
use Rattle.rq_standard.specs.Rows.{row_sum}
use Rattle.rq_standard.proofs.Columns.{sum_symbol}
use Rattle.rq_standard.proofs.RowSymbols.{add_symbols-rows}

-- a slab's places, by how many there are
has_place : (values : List (List ℕ)) (size : ℕ) (order : Option (List ℕ)) (k n : ℕ) → n ≤ length (symbols_in (record { values = values; symbol_size = size; order = order })) → k < n → HasPlace (record { values = values; symbol_size = size; order = order }) k
has_place values size None k n few below = omega arith
has_place values size (Some order) k n few below = omega (arith, length-map order (λ i. get_or values i []))

pub place_of_slab : (slab : Slab) (k n : ℕ) → n ≤ length (symbols_in slab) → k < n → HasPlace slab k
place_of_slab slab = has_place slab.values slab.symbol_size slab.order

-- and where no order is set
pub place_of_plain : (slab : Slab) (k : ℕ) → slab.order ≡ None → k < length slab.values → HasPlace slab k
place_of_plain slab k plain below = subst (λ o. IsPlace (length slab.values) o k) (sym plain) below

-- what was summed, from zeros on
pub record SumsSoFar (size : ℕ) (all left : List ℕ) (column : ℕ → List ℕ) (sum : List ℕ) : Type 0 where
  pub done : List ℕ
  pub whole : all ≡ done ++ left
  pub is : sum ≡ add_symbols octets (replicate size 0) (sum_listed (symbols octets) done column)

pub nothing_summed : (size : ℕ) (all left : List ℕ) (column : ℕ → List ℕ) (sum : List ℕ) → left ≡ all → sum ≡ replicate size 0 → SumsSoFar size all left column sum
unfolding sum_listed
nothing_summed size all left column sum same zeros = record { done = []; whole = sym same; is = zeros ∙ sym (add_nothing octets (replicate size 0)) }

pub one_summed : (size p : ℕ) (all left rest : List ℕ) (column : ℕ → List ℕ) (sum term new : List ℕ) → SumsSoFar size all left column sum → left ≡ p ∷ rest → term ≡ column p → length term ≡ length sum → new ≡ row_sum sum term → SumsSoFar size all rest column new
one_summed size p all left rest column sum term new so next is long added = record {
  done = so.done ++ p ∷ [];
  whole = so.whole ∙ ap (λ l. so.done ++ l) next ∙ sym (append_assoc so.done (p ∷ []) rest);
  is = added ∙ sym (add_symbols-rows sum term long) ∙ ap (λ s. add_symbols octets s term) so.is ∙ ap (add_symbols octets (add_symbols octets (replicate size 0) (sum_listed (symbols octets) so.done column))) is
      ∙ add_symbols_assoc octets (replicate size 0) (sum_listed (symbols octets) so.done column) (column p) ∙ ap (add_symbols octets (replicate size 0)) (sym (sum_listed-push octets so.done p column));
}

length-sum : (xs ys : List ℕ) → length ys ≡ length xs → length (row_sum xs ys) ≡ length xs
length-sum xs ys same = ap length (sym (add_symbols-rows xs ys same)) ∙ length-add_symbols octets 0 (length xs) xs ys refl same

module _ (slab : Slab) (size : ℕ) where
  pub length-several : (ps sum : List ℕ) → All (λ p. length (symbol_in slab p) ≡ size) ps → length sum ≡ size → length (with_symbols_added slab sum ps) ≡ size
  length-several [] sum each long = long
  length-several (p ∷ ps) sum each long =
      let term = symbol_in slab p in
      length-several ps (row_sum sum term) (All-tail (λ k. length (symbol_in slab k) ≡ size) p ps each)
      (length-sum sum term (All-head (λ k. length (symbol_in slab k) ≡ size) p ps each ∙ sym long) ∙ long)

  -- those of several places
  pub several_summed : (all rest ps left sum new : List ℕ) → left ≡ ps ++ rest → All (λ p. length (symbol_in slab p) ≡ size) ps → length sum ≡ size → new ≡ with_symbols_added slab sum ps
      → SumsSoFar size all left (symbol_in slab) sum → SumsSoFar size all rest (symbol_in slab) new
  several_summed all rest [] left sum new is each long added so = subst (λ l. SumsSoFar size all l (symbol_in slab) new) is (subst (SumsSoFar size all left (symbol_in slab)) (sym added) so)
  several_summed all rest (p ∷ ps) left sum new is each long added so =
      let term = symbol_in slab p in
      let same : length term ≡ length sum = All-head (λ k. length (symbol_in slab k) ≡ size) p ps each ∙ sym long in
      several_summed all rest ps (ps ++ rest) (row_sum sum term) new refl (All-tail (λ k. length (symbol_in slab k) ≡ size) p ps each) (length-sum sum term same ∙ long) added
      (one_summed size p all left (ps ++ rest) (symbol_in slab) sum term (row_sum sum term) so is refl same refl)

-- the indices that are listed, and those behind them
pub All-front : (P : ℕ → Type 0) (xs ys : List ℕ) → All P (xs ++ ys) → All P xs
All-front P xs ys all = subst (All P) (take-append_seam xs ys) (All-take P (length xs) (xs ++ ys) all)

pub All-back : (P : ℕ → Type 0) (xs ys : List ℕ) → All P (xs ++ ys) → All P ys
All-back P xs ys all = subst (All P) (drop-append_seam xs ys) (All-drop P (length xs) (xs ++ ys) all)

-- the sum at all indices
pub all_summed : (row : TableRow) (slab : Slab) (id : ℕ) (left sum : List ℕ) → IsChecked row → IsSymbolColumn octets slab.symbol_size (intermediate_symbols row) (symbol_in slab) → left ≡ [] → SumsSoFar slab.symbol_size (row_indices row id) left (symbol_in slab) sum → sum ≡ tuple_sum row (symbol_in slab) id
all_summed row slab id left sum checked are none so =
    let whole : row_indices row id ≡ so.done = so.whole ∙ ap (λ l. so.done ++ l) none ∙ append-nil so.done in
    so.is ∙ ap (λ ps. add_symbols octets (replicate slab.symbol_size 0) (sum_listed (symbols octets) ps (symbol_in slab))) (sym whole) ∙ add_zeros octets slab.symbol_size (tuple_sum row (symbol_in slab) id) (sum_symbol row slab.symbol_size id (symbol_in slab) checked are).size_is
