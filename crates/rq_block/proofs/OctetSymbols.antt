-- Octets as symbols of one octet each, and the sums at the indices of ids.
use Rattle.std.proofs.Common.{◌≡◌, ℕ, ◌+◌, ◌<◌, List, [], ◌∷◌, ◌++◌, length, map, drop, refl, sym, ap, ◌∙◌, subst, arith, append-nil}
use Rattle.std.proofs.lemmas.List.{length-map, get_or-map, nil_from_length, length-drop}
use Rattle.rq_algebra.specs.Systems.{at, IsColumn}
use Rattle.rq_algebra.specs.Symbols.{IsSymbol}
use Rattle.rq_bytes.specs.Ranges.{cut, with_range}
use Rattle.rq_bytes.specs.SymbolSlab.{Slab, slab_of, symbol_in, symbols_in}
use Rattle.rq_standard.specs.declared.row.TableRow.{TableRow}
use Rattle.rq_standard.specs.OctetField.{octets}
use Rattle.rq_standard.specs.TableRows.{IsChecked, intermediate_symbols}
use Rattle.rq_standard.specs.Equations.{tuple_sum}
use Rattle.rq_standard.specs.Differences.{plain_sum}
use Rattle.rq_block.specs.BlockSolutions.{HasIntermediate}
use Rattle.rq_standard.proofs.Columns.{tuple_sum-same}
use Rattle.rq_standard.proofs.DifferenceColumns.{wide, wide_symbols, wide_sum}

abbrev pub one_by_one : List ℕ → List (List ℕ)
one_by_one xs = map (λ x. x ∷ []) xs

cut-one : (xs : List ℕ) → cut (length xs) 1 xs ≡ one_by_one xs
cut-one [] = refl
cut-one (x ∷ xs) = ap (λ ys. (x ∷ []) ∷ ys) (cut-one xs)

pub one_by_one-cut : (zeros : List (List ℕ)) (xs : List ℕ) (n : ℕ) → n ≡ length xs → length zeros ≡ n → with_range zeros 0 (cut n 1 xs) ≡ one_by_one xs
one_by_one-cut zeros xs n is long =
    let all : cut n 1 xs ≡ one_by_one xs = ap (λ m. cut m 1 xs) is ∙ cut-one xs in
    let none : drop (0 + length (one_by_one xs)) zeros ≡ [] = nil_from_length (drop (0 + length (one_by_one xs)) zeros) (length-drop (0 + length (one_by_one xs)) zeros ∙ omega (arith, long, is, length-map xs (λ (x : ℕ). x ∷ []))) in
    ap (with_range zeros 0) all ∙ ap (λ ys. one_by_one xs ++ ys) none ∙ append-nil (one_by_one xs)

module _ (row : TableRow) (xs : List ℕ) (slab : Slab) (checked : IsChecked row) (count : length xs ≡ intermediate_symbols row) (elements : IsColumn octets (intermediate_symbols row) (at xs)) (is : slab ≡ slab_of 1 (one_by_one xs)) where
  symbol_is : (k : ℕ) → k < intermediate_symbols row → symbol_in slab k ≡ wide 1 (at xs) k
  symbol_is k below = ap (λ s. symbol_in s k) is ∙ get_or-map (λ (x : ℕ). x ∷ []) xs k 0 [] (omega (arith, count))

  -- they are intermediate symbols
  pub octet_column : HasIntermediate row slab
  octet_column = record {
    enough = omega (arith, ap (λ s. length (symbols_in s)) is, length-map xs (λ (x : ℕ). x ∷ []), count);
    symbols = λ k below. subst (λ s. IsSymbol octets s (symbol_in slab k)) (sym (ap (λ s. s.symbol_size) is)) (subst (IsSymbol octets 1) (sym (symbol_is k below)) (wide_symbols 1 (omega arith) row checked (at xs) elements k below));
  }

  -- the octet of an id
  pub octet_sum : (e : ℕ) → tuple_sum row (symbol_in slab) e ≡ plain_sum row (at xs) e ∷ []
  octet_sum e = tuple_sum-same row e (symbol_in slab) (wide 1 (at xs)) checked symbol_is ∙ wide_sum 1 (omega arith) row checked (at xs) elements e
