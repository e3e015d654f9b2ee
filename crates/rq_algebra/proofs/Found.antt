-- What operations that find the column say of the rows, and of symbols.
use Rattle.std.proofs.Common.{◌≡◌, ℕ, ◌<◌, List, [], None, map, replicate, get_or, sym, ap, ◌∙◌, refl, subst, arith}
use Rattle.std.proofs.lemmas.List.{length-map}
use Rattle.std.proofs.lemmas.List.Elements.{All-get_or}
use Rattle.std.proofs.Math.ListN.{get_or-map}
use Rattle.rq_algebra.specs.Field.{Field}
use Rattle.rq_algebra.specs.Systems.{Solves, at}
use Rattle.rq_algebra.specs.Operations.{Operation, Reorder, Store, run, plain, unordered, AreAllowed, IsValues, found_by, FindsColumn}
use Rattle.rq_algebra.specs.Symbols.{symbols, IsSymbolColumn, AreSymbols, symbol_at, slice_at, SolvesSymbols}
use Rattle.rq_algebra.specs.OperationLaws.{FoundIsDetermined}
use Rattle.rq_algebra.specs.SymbolLaws.{FindsSymbols}
use Rattle.rq_algebra.proofs.Sums.{dot_same}
use Rattle.rq_algebra.proofs.Solutions.{solves_same}
use Rattle.rq_algebra.proofs.OperationRuns.{zero_values, AreAllowed-middle}
use Rattle.rq_algebra.proofs.Placewise.{place, place_linear, run_linear, read-run_linear, at-zeros, zeros_stay}
use Rattle.rq_algebra.proofs.Pivots.{found-reorder}
use Rattle.rq_algebra.proofs.SymbolColumns.{run_keeps_symbols}
use Rattle.rq_algebra.proofs.SymbolSums.{slice_elements, same_symbol, zeros_are_symbol}

-- the rows determine the column
pub finds_determined : FoundIsDetermined
finds_determined F height width rows operations finds column elements s k l =
    finds.only (replicate height 0) (zero_values F height width) column elements
    (solves_same F height width rows rows column (λ _. 0) (at (replicate height 0)) (λ i j m n. refl) (λ i m. sym (at-zeros height i)) s) k l
    ∙ zeros_stay F operations (unordered (replicate height 0)) (at-zeros height) _

module _ (F : Field) (height width : ℕ) (rows : ℕ → ℕ → ℕ) (operations : List Operation) (finds : FindsColumn F height width rows operations)
    (size : ℕ) (values : List (List ℕ)) (are : AreSymbols F size height values) where
  -- each entry of the order that stands last is a row
  order_below : (k : ℕ) → k < width → get_or finds.order k 0 < height
  order_below k l = All-get_or (λ i. i < height) finds.order k 0 (omega (arith, finds.count)) (AreAllowed-middle height None finds.before (Reorder finds.order) [] (subst (λ (all : List Operation). AreAllowed height None all) finds.ends finds.allowed))

  -- what the operations make of the symbols has at each place what they make of the elements there
  placewise : (p k : ℕ) → at (found_by (symbols F) operations values k) p ≡ found_by (plain F) operations (map (place p) values) k
  placewise p k = read-run_linear (symbols F) (plain F) (place p) (place_linear F p) operations (unordered values) k

  values_at : (p i : ℕ) → at (map (place p) values) i ≡ slice_at p (symbol_at values) i
  values_at p i = get_or-map (place p) values i []

  are_values : (p : ℕ) → IsValues F height (map (place p) values)
  are_values p = record { count = length-map values (place p) ∙ are.count_is; elements = λ i l. rw (values_at p i) (slice_elements F size height (symbol_at values) are.each p i l) }

  -- what the operations leave of the symbols has at each place what they leave of the elements there
  left_placewise : (p i : ℕ) → at (symbol_at (run (symbols F) operations (unordered values)).values i) p ≡ at (run (plain F) operations (unordered (map (place p) values))).values i
  left_placewise p i =
      sym (get_or-map (place p) (run (symbols F) operations (unordered values)).values i [])
      ∙ ap (λ (t : Store ℕ). at t.values i) (run_linear (symbols F) (plain F) (place p) (place_linear F p) operations (unordered values))

  found_are_symbols : IsSymbolColumn F size width (found_by (symbols F) operations values)
  found_are_symbols k l =
      let e : found_by (symbols F) operations values k ≡ symbol_at (run (symbols F) finds.before (unordered values)).values (get_or finds.order k 0) =
      ap (λ (all : List Operation). found_by (symbols F) all values k) finds.ends ∙ found-reorder (symbols F) finds.before finds.order values k in
      rw e ((run_keeps_symbols F size height finds.before (unordered values) are).each (get_or finds.order k 0) (order_below k l))

  -- symbols that solve the rows do so at each place, and the other way round
  solves_at : (column : ℕ → List ℕ) → SolvesSymbols F height width rows column (symbol_at values) → (p : ℕ) → Solves F height width rows (slice_at p column) (at (map (place p) values))
  solves_at column s p = solves_same F height width rows rows _ _ _ (λ i k l m. refl) (λ i l. sym (values_at p i)) (s.at_place p)

  found_solves : ((p : ℕ) → Solves F height width rows (found_by (plain F) operations (map (place p) values)) (at (map (place p) values)))
      → SolvesSymbols F height width rows (found_by (symbols F) operations values) (symbol_at values)
  found_solves s = record {
    at_place = λ p. record { at = λ i l. dot_same F width (rows i) (rows i) _ _ (λ k m. refl) (λ k m. placewise p k) ∙ (s p).at i l ∙ values_at p i };
  }

  pub finds_symbols : FindsSymbols F height width rows operations finds.order size values
  finds_symbols = record {
    are_symbols = found_are_symbols;
    only = λ column is s k l. same_symbol F size (column k) (found_by (symbols F) operations values k) (is k l) (found_are_symbols k l) (λ p.
        finds.only (map (place p) values) (are_values p) (slice_at p column) (slice_elements F size width column is p) (solves_at column s p) k l ∙ sym (placewise p k));
    solves = λ square. found_solves (λ p. finds.solves square (map (place p) values) (are_values p));
    leaves = λ column is s i unread. same_symbol F size _ (replicate size 0) ((run_keeps_symbols F size height operations (unordered values) are).each i unread.0) (zeros_are_symbol F size) (λ p.
        left_placewise p i ∙ finds.leaves (map (place p) values) (are_values p) (slice_at p column) (slice_elements F size width column is p) (solves_at column s p) i unread
        ∙ sym (at-zeros size p));
    consistent = λ zeros. found_solves (λ p. finds.consistent (map (place p) values) (are_values p) (λ i unread.
        sym (left_placewise p i) ∙ ap (place p) (zeros i unread) ∙ at-zeros size p));
  }
