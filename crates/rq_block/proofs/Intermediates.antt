-- The intermediate symbols that operations make of a block's source symbols.
use Rattle.std.proofs.Common.{◌≡◌, ℕ, ◌+◌, ◌-◌, ◌<◌, ◌≤◌, List, [], ◌++◌, length, get_or, replicate, None, refl, sym, ap, ◌∙◌, subst, arith, inl, inr}
use Rattle.std.specs.List.{range_with_len}
use Rattle.std.proofs.lemmas.Bool.{cases_lt}
use Rattle.std.proofs.lemmas.List.{get_or_append_left, get_or-append_right, get_or-replicate, get_or_past, length-append, length-replicate, get_or_default}
use Rattle.std.proofs.lemmas.List.FromFn.{length-range_with_len}
use Rattle.rq_algebra.specs.Systems.{at}
use Rattle.rq_algebra.specs.Operations.{Operation, AreAllowed, FindsColumn}
use Rattle.rq_algebra.specs.SymbolLaws.{FindsSymbols}
use Rattle.rq_algebra.specs.Symbols.{IsSymbol, AreSymbols, SolvesSymbols, symbol_at, slice_at}
use Rattle.rq_algebra.proofs.Stacks.{stacked_above, stacked_below}
use Rattle.rq_algebra.proofs.Solutions.{solves_same}
use Rattle.rq_algebra.proofs.Found.{finds_determined, finds_symbols}
use Rattle.rq_algebra.proofs.SymbolSums.{zeros_are_symbol}
use Rattle.rq_bytes.specs.SymbolSlab.{slab_of, symbol_in}
use Rattle.rq_operations.specs.RecordedOperations.{operations_of}
use Rattle.rq_solver.proofs.SolutionLaws.{found_places}
use Rattle.rq_standard.specs.declared.row.TableRow.{TableRow}
use Rattle.rq_standard.specs.OctetField.{octets}
use Rattle.rq_standard.specs.TableRows.{intermediate_symbols}
use Rattle.rq_standard.specs.Equations.{equations, equation_count, equation_values, zero_symbol, extended_ids}
use Rattle.rq_standard.proofs.KnownIds.{rows_nonsingular}
use Rattle.rq_block.specs.BlockSolutions.{FindsFrom, first_equations}
use Rattle.rq_block.specs.declared.solving.BlockOperations.{BlockOperations}
use Rattle.rq_block.specs.Planned.{source_values, planned_slab, IsPlanOf}
use Rattle.rq_block.proofs.BlockOutcomes.{places_count}
use Rattle.rq_standard.specs.Headline.{IsIntermediateColumn, IsNonsingular}

pub length-source_values : (row : TableRow) (size : ℕ) (source : List (List ℕ)) → length source ≤ row.extended_symbols → length (source_values row size source) ≡ equation_count row (extended_ids row)
length-source_values row size source fits =
    length-append (replicate (row.ldpc_symbols + row.hdpc_symbols) (zero_symbol size)) (source ++ replicate (row.extended_symbols - length source) (zero_symbol size))
    ∙ omega (arith, length-replicate (row.ldpc_symbols + row.hdpc_symbols) (zero_symbol size), length-append source (replicate (row.extended_symbols - length source) (zero_symbol size)), length-replicate (row.extended_symbols - length source) (zero_symbol size), length-range_with_len 0 row.extended_symbols)

-- there are as many equations as intermediate symbols
pub count_source : (row : TableRow) → equation_count row (extended_ids row) ≡ intermediate_symbols row
count_source row = omega (arith, length-range_with_len 0 row.extended_symbols)

pub extended_ids_are : (row : TableRow) (ids : List ℕ) → ids ≡ range_with_len 0 (row.extended_symbols - 0) → ids ≡ extended_ids row
extended_ids_are row ids is = is ∙ ap (range_with_len 0) (let e : row.extended_symbols - 0 ≡ row.extended_symbols = omega arith in e)

-- past the source symbols there are zeros
padded_at : (size n j : ℕ) (source : List (List ℕ)) → j < length source + n → get_or (source ++ replicate n (zero_symbol size)) j [] ≡ get_or source j (zero_symbol size)
padded_at size n j source below = elim (cases_lt j (length source)) [
  | inl lt ↦ get_or_append_left source (replicate n (zero_symbol size)) [] j lt ∙ get_or_default source j [] (zero_symbol size) lt
  | inr past ↦ get_or-append_right source (replicate n (zero_symbol size)) (length source) j [] refl past ∙ get_or-replicate n (j - length source) (zero_symbol size) [] (omega arith) ∙ sym (get_or_past source j (zero_symbol size) past)
]

values_are : (row : TableRow) (size i : ℕ) (source : List (List ℕ)) → length source ≤ row.extended_symbols → i < equation_count row (extended_ids row) → symbol_at (source_values row size source) i ≡ equation_values row size source i
values_are row size i source fits below =
    let f : ℕ = row.ldpc_symbols + row.hdpc_symbols in
    let n : ℕ = row.extended_symbols - length source in
    let zeros = replicate f (zero_symbol size) in
    let rest = source ++ replicate n (zero_symbol size) in
    elim (cases_lt i f) [
      | inl lt ↦ get_or_append_left zeros rest [] i (omega (arith, length-replicate f (zero_symbol size))) ∙ get_or-replicate f i (zero_symbol size) [] lt
          ∙ sym (stacked_above f (λ _. zero_symbol size) (λ j. get_or source j (zero_symbol size)) i lt)
      | inr past ↦
          let j : ℕ = i - f in
          let e : f + j ≡ i = omega arith in
          get_or-append_right zeros rest f i [] (length-replicate f (zero_symbol size)) past
          ∙ padded_at size n j source (omega (arith, length-range_with_len 0 row.extended_symbols))
          ∙ sym (stacked_below f (λ _. zero_symbol size) (λ k. get_or source k (zero_symbol size)) j) ∙ ap (equation_values row size source) e
    ]

-- ---- symbols

module _ (row : TableRow) (size : ℕ) (source : List (List ℕ)) (fits : length source ≤ row.extended_symbols) where
  value_is : (i : ℕ) → AreSymbols octets size (length source) source → IsSymbol octets size (equation_values row size source i)
  value_is i are = elim (cases_lt i (row.ldpc_symbols + row.hdpc_symbols)) [
    | inl lt ↦ subst (IsSymbol octets size) (sym (stacked_above (row.ldpc_symbols + row.hdpc_symbols) (λ _. zero_symbol size) (λ j. get_or source j (zero_symbol size)) i lt)) (zeros_are_symbol octets size)
    | inr past ↦
        let f : ℕ = row.ldpc_symbols + row.hdpc_symbols in
        let j : ℕ = i - f in
        let e : f + j ≡ i = omega arith in
        let read : get_or source j (zero_symbol size) ≡ equation_values row size source i = sym (stacked_below f (λ _. zero_symbol size) (λ k. get_or source k (zero_symbol size)) j) ∙ ap (equation_values row size source) e in
        subst (IsSymbol octets size) read (elim (cases_lt j (length source)) [
          | inl here ↦ subst (IsSymbol octets size) (get_or_default source j [] (zero_symbol size) here) (are.each j here)
          | inr none ↦ subst (IsSymbol octets size) (sym (get_or_past source j (zero_symbol size) none)) (zeros_are_symbol octets size)
        ])
  ]

  pub values_are_symbols : AreSymbols octets size (length source) source → AreSymbols octets size (equation_count row (extended_ids row)) (source_values row size source)
  values_are_symbols are = record {
    count_is = length-source_values row size source fits;
    each = λ k l. subst (IsSymbol octets size) (sym (values_are row size k source fits l)) (value_is k are);
  }

  -- the equations of a block in both forms
  same_values : (column : ℕ → List ℕ) (v w : ℕ → List ℕ) → ((i : ℕ) → i < equation_count row (extended_ids row) → v i ≡ w i) → SolvesSymbols octets (equation_count row (extended_ids row)) (intermediate_symbols row) (equations row (extended_ids row)) column v
      → SolvesSymbols octets (equation_count row (extended_ids row)) (intermediate_symbols row) (equations row (extended_ids row)) column w
  same_values column v w same solves = record {
    at_place = λ p. solves_same octets (equation_count row (extended_ids row)) (intermediate_symbols row) (equations row (extended_ids row)) (equations row (extended_ids row)) (slice_at p column) (slice_at p v) (slice_at p w)
        (λ i k l m. refl) (λ i l. ap (λ xs. at xs p) (same i l)) (solves.at_place p);
  }

-- ---- plans

module _ (row : TableRow) (operations : List Operation) (finds : FindsColumn octets (equation_count row (extended_ids row)) (intermediate_symbols row) (equations row (extended_ids row)) operations) where
  pub plan_allowed : AreAllowed (intermediate_symbols row) None operations
  plan_allowed = subst (λ n. AreAllowed n None operations) (count_source row) finds.allowed

  pub plan_nonsingular : IsNonsingular row
  plan_nonsingular = rows_nonsingular row (finds_determined octets (equation_count row (extended_ids row)) (intermediate_symbols row) (equations row (extended_ids row)) operations finds)

  module _ (size : ℕ) (source : List (List ℕ)) (fits : length source ≤ row.extended_symbols) (are : AreSymbols octets size (length source) source) where
    found : FindsSymbols octets (equation_count row (extended_ids row)) (intermediate_symbols row) (equations row (extended_ids row)) operations finds.order size (source_values row size source)
    found = finds_symbols octets _ _ (equations row (extended_ids row)) operations finds size (source_values row size source) (values_are_symbols row size source fits are)

    plan_column : IsIntermediateColumn row size source (symbol_in (planned_slab row operations size source))
    plan_column = record {
      symbols = found.are_symbols;
      solves = same_values row size source fits _ (symbol_at (source_values row size source)) (equation_values row size source) (λ i l. values_are row size i source fits l) (found.solves (count_source row));
    }

    plan_only : (other : ℕ → List ℕ) → IsIntermediateColumn row size source other → (k : ℕ) → k < intermediate_symbols row → other k ≡ symbol_in (planned_slab row operations size source) k
    plan_only other is = found.only other is.symbols
        (same_values row size source fits other (equation_values row size source) (symbol_at (source_values row size source)) (λ i l. sym (values_are row size i source fits l)) is.solves)

  -- operations that find the column of a row's equations are its plan
  pub plan_is : IsPlanOf row operations
  plan_is = record {
    enough = λ size source fits. places_count (planned_slab row operations size source) (intermediate_symbols row)
        (found_places (equation_count row (extended_ids row)) (intermediate_symbols row) (equations row (extended_ids row)) operations finds (slab_of size (source_values row size source)));
    column = λ size source fits are. record { is = plan_column size source fits are; only = plan_only size source fits are };
  }

-- with the ids of the source and padding symbols alone, all equations are needed
pub finds_source : (row : TableRow) (solution : BlockOperations) → FindsFrom row (extended_ids row) solution
    → FindsColumn octets (equation_count row (extended_ids row)) (intermediate_symbols row) (equations row (extended_ids row)) (operations_of solution.operations)
finds_source row solution from =
    let ids = extended_ids row in
    let all : solution.precode_rows ≡ row.ldpc_symbols + row.hdpc_symbols = omega (arith, from.few, from.enough, count_source row) in
    subst (λ (precode_rows : ℕ). FindsColumn octets (precode_rows + length ids) (intermediate_symbols row) (first_equations row precode_rows ids) (operations_of solution.operations)) all from.finds
