-- What a solver's outcome says of a block's equations.
use Rattle.std.proofs.Common.{◌≡◌, ℕ, zero, suc, ◌<◌, ◌≤◌, List, [], get_or, Option, None, Some, length, replicate, sym, ap, ◌+◌, ◌-◌, ◌∙◌, subst, arith, inl, inr}
use Rattle.std.specs.Prelude.{IfSome, Vec}
use Rattle.std.specs.Global.{Global}
use Rattle.std.specs.Option.{MatchOption}
use Rattle.std.proofs.lemmas.Bool.{cases_lt}
use Rattle.std.proofs.lemmas.List.{length-map}
use Rattle.std.proofs.lemmas.Option.{same_Some}
use Rattle.rq_algebra.specs.Arrangements.{RowsStandIn}
use Rattle.rq_algebra.specs.Operations.{Operation, Store, run, unordered, found_by, IsUnread, FindsColumn}
use Rattle.rq_algebra.specs.Symbols.{symbols, IsSymbol, IsSymbolColumn, AreSymbols, SolvesSymbols, symbol_at}
use Rattle.rq_algebra.specs.Systems.{IsDetermined, IsHomogeneousColumn, rows_of}
use Rattle.rq_algebra.proofs.Found.{finds_determined, finds_symbols}
use Rattle.rq_algebra.proofs.Solutions.{determined_stays, homogeneous_column_same, homogeneous_not_determined}
use Rattle.rq_algebra.proofs.Stacks.{stacked_above, stacked_below}
use Rattle.rq_algebra.proofs.SymbolColumns.{run_keeps_symbols}
use Rattle.rq_bytes.specs.SymbolSlab.{Slab, HasPlace, after_all, symbol_in, symbols_in, IsZeroUnread}
use Rattle.rq_operations.specs.RecordedOperations.{operations_of}
use Rattle.rq_standard.specs.declared.row.TableRow.{TableRow}
use Rattle.rq_standard.specs.BitTable.{BitTable}
use Rattle.rq_standard.specs.ConstraintMatrix.{IsBinaryPartWithoutHdpc}
use Rattle.rq_standard.specs.OctetField.{octets}
use Rattle.rq_standard.specs.TableRows.{intermediate_symbols}
use Rattle.rq_standard.specs.Equations.{equations, equation_count, precode_equations, ldpc_coefficient, hdpc_coefficient, symbol_coefficient}
use Rattle.rq_standard.specs.IdLists.{HasDeterminedRows}
use Rattle.rq_operations.specs.declared.recorded.RecordedOperations.{RecordedOperations}
use Rattle.rq_solver.specs.Solving.{FindsOperations, Solver}
use Rattle.rq_elimination.proofs.RowStepLaws.{SameEntries}
use Rattle.rq_solver.proofs.SolutionLaws.{store-unordered, order-found, finds_same, homogeneous_same, is_solution}
use Rattle.rq_block.specs.BlockSolutions.{FindsFrom, IsBlockSolution, first_equations}
use Rattle.rq_block.specs.declared.solving.BlockOperations.{BlockOperations}

has_count : (values : List (List ℕ)) (size : ℕ) (order : Option (List ℕ)) (n : ℕ) → HasPlace (record { values = values; symbol_size = size; order = order }) n → suc n ≤ length (symbols_in (record { values = values; symbol_size = size; order = order }))
has_count values size None n here = here
has_count values size (Some order) n here = omega (arith, length-map order (λ i. get_or values i []))

-- as many places as can be read
pub places_count : (slab : Slab) (n : ℕ) → ((k : ℕ) → k < n → HasPlace slab k) → n ≤ length (symbols_in slab)
places_count slab zero places = omega arith
places_count slab (suc n) places = has_count slab.values slab.symbol_size slab.order n (places n (omega arith))

-- ---- of rows with the same entries as a solver's

module _ (s t : Solver) (stands : s ≡ t) (height : ℕ) (count : t.height ≡ height) (rows : ℕ → ℕ → ℕ) (same : SameEntries height t.width t.rows rows) where
  -- what the solver finds solves them; where there is nothing, they aren't determined
  pub found_same : (answer : Option RecordedOperations) → FindsOperations s answer
      → MatchOption answer (IsDetermined octets height t.width rows → ⊥) (λ found. FindsColumn octets height t.width rows (operations_of found))
  found_same (Some found) finds = finds_same octets height t.width t.rows rows same (operations_of found) (rw (stands, count) at finds)
  found_same None null =
      homogeneous_not_determined octets height t.width rows (homogeneous_same octets height t.width t.rows rows same (rw (stands, count) at null))

  -- the column that it shows is one of theirs
  pub shown_same : (column : Option (Vec ℕ Global)) → IfSome column (λ shown. IsHomogeneousColumn octets s.height s.width s.rows shown.items)
      → IfSome column (λ shown. IsHomogeneousColumn octets height t.width rows shown.items)
  shown_same None shown = tt
  shown_same (Some column) shown = homogeneous_column_same octets height t.width t.rows rows same column.items (rw (stands, count) at shown)

-- ---- without HDPC equations

module _ (row : TableRow) (ids : List ℕ) (bits : BitTable) (part : IsBinaryPartWithoutHdpc row ids bits) where
  abbrev symbol_rows : ℕ → ℕ → ℕ
  symbol_rows = rows_of (symbol_coefficient row) ids

  -- its rows are the first equations
  pub same_without : SameEntries (row.ldpc_symbols + length ids) (intermediate_symbols row) bits.bit (first_equations row row.ldpc_symbols ids)
  same_without i k l m = elim (cases_lt i row.ldpc_symbols) [
    | inl above ↦
        part.ldpc i k above m
        ∙ ap (λ (r : ℕ → ℕ). r k) (sym (stacked_above row.ldpc_symbols (precode_equations row) symbol_rows i above ∙ stacked_above row.ldpc_symbols (ldpc_coefficient row) (hdpc_coefficient row) i above))
    | inr below ↦
        let j : ℕ = i - row.ldpc_symbols in
        let is : row.ldpc_symbols + j ≡ i = omega arith in
        rw (sym is) (part.symbols j k (omega arith) m ∙ ap (λ (r : ℕ → ℕ). r k) (sym (stacked_below row.ldpc_symbols (precode_equations row) symbol_rows j)))
  ]

-- ---- of any of the equations

module _ (row : TableRow) (precode_rows : ℕ) (ids : List ℕ) (few : precode_rows ≤ row.ldpc_symbols + row.hdpc_symbols) where
  abbrev precode_count : ℕ
  precode_count = row.ldpc_symbols + row.hdpc_symbols

  abbrev id_rows : ℕ → ℕ → ℕ
  id_rows = rows_of (symbol_coefficient row) ids

  -- the first equations are among all of them
  first_stand : RowsStandIn (intermediate_symbols row) (precode_rows + length ids) (first_equations row precode_rows ids) (equation_count row ids) (equations row ids)
  first_stand i l = elim (cases_lt i precode_rows) [
    | inl above ↦ (i, (omega arith), λ k n. ap (λ (r : ℕ → ℕ). r k) (stacked_above precode_count (precode_equations row) id_rows i (omega arith) ∙ sym (stacked_above precode_rows (precode_equations row) id_rows i above)))
    | inr below ↦
        let j : ℕ = i - precode_rows in
        let is : i ≡ precode_rows + j = omega arith in (
          precode_count + j,
          (omega arith),
          λ k n. ap (λ (r : ℕ → ℕ). r k) (stacked_below precode_count (precode_equations row) id_rows j ∙ sym (ap (first_equations row precode_rows ids) is ∙ stacked_below precode_rows (precode_equations row) id_rows j)),
        )
  ]

  -- so all are determined where the first are
  pub first_determine : (operations : List Operation) → FindsColumn octets (precode_rows + length ids) (intermediate_symbols row) (first_equations row precode_rows ids) operations → HasDeterminedRows row ids
  first_determine operations finds =
      determined_stays octets (intermediate_symbols row) (precode_rows + length ids) (equation_count row ids) (first_equations row precode_rows ids) (equations row ids) first_stand
      (finds_determined octets (precode_rows + length ids) (intermediate_symbols row) (first_equations row precode_rows ids) operations finds)

-- ---- what is left over of the values

module _ (height width : ℕ) (rows : ℕ → ℕ → ℕ) (operations : List Operation) (finds : FindsColumn octets height width rows operations) (handed slab : Slab) (are : AreSymbols octets handed.symbol_size height handed.values) (order : handed.order ≡ None) (made : slab ≡ after_all operations handed) where
  abbrev left : List (List ℕ)
  left = (run (symbols octets) operations (unordered handed.values)).values

  left_is : slab.values ≡ left
  left_is = ap (λ (g : Slab). g.values) made ∙ ap (λ (t : Store (List ℕ)). (run (symbols octets) operations t).values) (store-unordered handed order)

  order_is : slab.order ≡ Some finds.order
  order_is = ap (λ (g : Slab). g.order) made ∙ order-found height width rows operations finds handed

  size_is : slab.symbol_size ≡ handed.symbol_size
  size_is = ap (λ (g : Slab). g.symbol_size) made

  count_is : length slab.values ≡ height
  count_is = ap length left_is ∙ (run_keeps_symbols octets handed.symbol_size height operations (unordered handed.values) are).count_is

  -- where a column of symbols solves the rows, all that isn't read is zeros
  pub leaves_zeros : (column : ℕ → List ℕ) → IsSymbolColumn octets handed.symbol_size width column → SolvesSymbols octets height width rows column (symbol_at handed.values) → IsZeroUnread slab
  leaves_zeros column is solves o set i unread =
      let same : o ≡ finds.order = same_Some o finds.order (sym set ∙ order_is) in
      ap (λ (xs : List (List ℕ)). symbol_at xs i) left_is
      ∙ (finds_symbols octets height width rows operations finds handed.symbol_size handed.values are).leaves column is solves i (subst (λ n. IsUnread n finds.order i) count_is (subst (λ l. IsUnread (length slab.values) l i) same unread))
      ∙ ap (λ n. replicate {A = ℕ} n 0) (sym size_is)

  -- and where that is zeros, the column that is found solves the rows
  pub unread_solve : IsZeroUnread slab → ((k : ℕ) → symbol_in slab k ≡ found_by (symbols octets) operations handed.values k) → SolvesSymbols octets height width rows (symbol_in slab) (symbol_at handed.values)
  unread_solve zeros reads = subst (λ (column : ℕ → List ℕ). SolvesSymbols octets height width rows column (symbol_at handed.values)) (λ j k. sym (reads k) j)
      ((finds_symbols octets height width rows operations finds handed.symbol_size handed.values are).consistent (λ i unread.
      ap (λ (xs : List (List ℕ)). symbol_at xs i) (sym left_is) ∙ zeros finds.order order_is i (subst (λ n. IsUnread n finds.order i) (sym count_is) unread) ∙ ap (λ n. replicate {A = ℕ} n 0) size_is))

-- what the operations make of the values is the block's solution
pub solution_found : (row : TableRow) (ids : List ℕ) (solution : BlockOperations) (handed slab : Slab) → FindsFrom row ids solution → AreSymbols octets handed.symbol_size (solution.precode_rows + length ids) handed.values → handed.order ≡ None
    → slab ≡ after_all (operations_of solution.operations) handed → IsBlockSolution row solution.precode_rows ids handed.symbol_size handed.values slab
solution_found row ids solution handed slab from symbols_are order made =
    let height : ℕ = solution.precode_rows + length ids in
    let rows = first_equations row solution.precode_rows ids in
    let operations = operations_of solution.operations in
    let s = is_solution height (intermediate_symbols row) rows operations from.finds handed slab order made in
    record {
      determined = first_determine row solution.precode_rows ids from.few operations from.finds;
      enough = places_count slab (intermediate_symbols row) s.places;
      size_is = ap (λ (g : Slab). g.symbol_size) made;
      symbols = λ k l. subst (IsSymbol octets handed.symbol_size) (sym (s.reads k)) ((finds_symbols octets height (intermediate_symbols row) rows operations from.finds handed.symbol_size handed.values symbols_are).are_symbols k l);
      only = λ column is solves k l. s.only handed.symbol_size handed.values column symbols_are is solves k l ∙ sym (s.reads k);
      leaves = leaves_zeros height (intermediate_symbols row) rows operations from.finds handed slab symbols_are order made;
      solves = λ zeros. unread_solve height (intermediate_symbols row) rows operations from.finds handed slab symbols_are order made zeros s.reads;
    }
