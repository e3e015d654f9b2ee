-- What a solver answers, from operations that find the column.
use Rattle.std.proofs.Common.{◌≡◌, ◌<◌, ℕ, List, length, [], ◌∷◌, ◌++◌, Option, None, Some, IfSome, IfOk, Result, Vec, Global, refl, sym, ap, ◌∙◌, subst, arith}
use Rattle.std.specs.Option.{MatchOption, option_map}
use Rattle.rq_algebra.specs.Field.{Field}
use Rattle.rq_algebra.specs.Following.{Follows}
use Rattle.rq_algebra.specs.Systems.{HasHomogeneousColumn, Solves, at}
use Rattle.rq_algebra.specs.Operations.{Operation, Reorder, Store, step, run, read, unordered, FindsColumn, found_by}
use Rattle.rq_algebra.specs.Symbols.{symbols}
use Rattle.rq_algebra.proofs.Solutions.{solves_same}
use Rattle.rq_algebra.proofs.OperationRuns.{run_push}
use Rattle.rq_algebra.proofs.Found.{finds_symbols}
use Rattle.rq_algebra.proofs.Pivots.{homogeneous_back}
use Rattle.rq_standard.specs.OctetField.{octets}
use Rattle.rq_bytes.specs.declared.error.Error.{Error}
use Rattle.rq_bytes.specs.declared.operation_vector.SymbolOps.{SymbolOps}
use Rattle.rq_bytes.specs.SymbolSlab.{Slab, store_of, after_all, symbol_in, HasPlace}
use Rattle.rq_operations.specs.RecordedOperations.{operations_of}
use Rattle.rq_operations.specs.declared.recorded.RecordedOperations.{RecordedOperations}
use Rattle.rq_elimination.specs.PhaseCounts.{AreCountsOf, AreInOrder}
use Rattle.rq_peeling.specs.declared.system.System.{System}
use Rattle.rq_solver.specs.PhaseOutcome.{in_row_order, CountsOperations, RunsOverEquations, RunsPhases}
use Rattle.rq_solver.specs.Phases.{SolvesRows, then_ordered}
use Rattle.rq_solver.specs.Solved.{found_of}
use Rattle.rq_solver.specs.Solving.{IsSolution, IsOutcome, Solver}
use Rattle.rq_elimination.specs.declared.counts.OperationCounts.{OperationCounts}
use Rattle.rq_solver.specs.declared.pi_solver.phase_outcome.PhaseOutcome.{PhaseOutcome}
use Rattle.rq_solver.proofs.LaterPhases.{ends_in_order}
use Rattle.rq_elimination.proofs.PhaseTotals.{AreTotalsOf, counts_with_order, longer_in_order, totals_of}
use Rattle.rq_elimination.proofs.RowStepLaws.{SameEntries}

-- systems with the same entries have the same solutions
module _ (F : Field) (height width : ℕ) (a b : ℕ → ℕ → ℕ) (same : SameEntries height width a b) where
  onward : (x values : ℕ → ℕ) → Solves F height width a x values → Solves F height width b x values
  onward x values = solves_same F height width a b x values values same (λ i l. refl)

  back : (x values : ℕ → ℕ) → Solves F height width b x values → Solves F height width a x values
  back x values = solves_same F height width b a x values values (λ i k l m. sym (same i k l m)) (λ i l. refl)

  pub finds_same : (operations : List Operation) → FindsColumn F height width a operations → FindsColumn F height width b operations
  finds_same operations finds = record {
    allowed = finds.allowed;
    order = finds.order;
    before = finds.before;
    ends = finds.ends;
    count = finds.count;
    only = λ v e x is s. finds.only v e x is (back x (at v) s);
    solves = λ square v e. onward _ (at v) (finds.solves square v e);
    leaves = λ v e x is s. finds.leaves v e x is (back x (at v) s);
    consistent = λ v e zeros. onward _ (at v) (finds.consistent v e zeros);
  }

  -- no operation is needed to get from one to the other
  follows_same : Follows F height width b a []
  unfolding run
  follows_same = record {
    allowed = tt;
    keeps = λ v e. record {
      values = e;
      order = refl;
      same = record {
        onward = λ x s. back x (at v) s;
        back = λ x s. onward x (at v) s;
      };
    };
  }

  pub homogeneous_same : HasHomogeneousColumn F height width a → HasHomogeneousColumn F height width b
  homogeneous_same null = homogeneous_back F height width b a [] follows_same null

-- a slab in which no order was set is its values
pub store-unordered : (handed : Slab) → handed.order ≡ None → store_of handed ≡ unordered handed.values
store-unordered handed none = ap (λ (o : Option (List ℕ)). let t : Store (List ℕ) = record { values = handed.values; order = o } in t) none

-- what is read in it after operations
pub symbol_in-after_all : (operations : List Operation) (handed : Slab) (k : ℕ) → handed.order ≡ None → symbol_in (after_all operations handed) k ≡ found_by (symbols octets) operations handed.values k
symbol_in-after_all operations handed k none = ap (λ (s : Store (List ℕ)). read (symbols octets) (run (symbols octets) operations s) k) (store-unordered handed none)

module _ (height width : ℕ) (rows : ℕ → ℕ → ℕ) (operations : List Operation) (finds : FindsColumn octets height width rows operations) (handed : Slab) where
  -- operations that find the column end with an order of as many places as there are columns
  pub order-found : (after_all operations handed).order ≡ Some finds.order
  unfolding step
  order-found =
      ap (λ (l : List Operation). (run (symbols octets) l (store_of handed)).order) finds.ends
      ∙ ap (λ (t : Store (List ℕ)). t.order) (run_push (symbols octets) finds.before (Reorder finds.order) (store_of handed))

  pub found_places : (k : ℕ) → k < width → HasPlace (after_all operations handed) k
  found_places k l = rw order-found (omega (arith, finds.count))

  pub is_solution : (slab : Slab) → handed.order ≡ None → slab ≡ after_all operations handed → IsSolution height width rows handed slab operations
  is_solution slab unordered_is made = record {
    finds = finds;
    made = made;
    places = λ k l. rw made (found_places k l);
    reads = λ k. rw made (symbol_in-after_all operations handed k unordered_is);
    only = λ size values column are. (finds_symbols octets height width rows operations finds size values are).only column;
    solves = λ square size values are. (finds_symbols octets height width rows operations finds size values are).solves square;
  }

-- a fact of the value that an option has
pub if_some : {X : Type 0} (o : Option X) (x : X) (P : X → Type 0) → o ≡ Some x → P x → IfSome o P
if_some o x P e p = rw e p

-- operations that were found, as they are handed out
pub recorded_found : (height width : ℕ) (rows : ℕ → ℕ → ℕ) (found : Option (List Operation)) (answer : Option RecordedOperations) → SolvesRows height width rows found
    → option_map operations_of answer ≡ found → MatchOption answer (HasHomogeneousColumn octets height width rows) (λ ops. FindsColumn octets height width rows (operations_of ops))
recorded_found height width rows found None solves e = subst (SolvesRows height width rows) (sym e) solves
recorded_found height width rows found (Some ops) solves e = subst (SolvesRows height width rows) (sym e) solves

-- the counts of the five phases, as a list
pub by_phases : (a b d e f h : ℕ) → a ≡ e → b ≡ f → d ≡ h → a ∷ b ∷ 0 ∷ d ∷ 0 ∷ [] ≡ e ∷ f ∷ 0 ∷ h ∷ 0 ∷ []
by_phases a b d e f h first second fourth = ap (λ (n : ℕ). n ∷ b ∷ 0 ∷ d ∷ 0 ∷ []) first ∙ ap (λ (n : ℕ). e ∷ n ∷ 0 ∷ d ∷ 0 ∷ []) second ∙ ap (λ (n : ℕ). e ∷ f ∷ 0 ∷ n ∷ 0 ∷ []) fourth

-- what a phase recorded ends where the next begins
pub outcome_in_order : (system : System) (outcome : PhaseOutcome) → RunsPhases system outcome → AreInOrder outcome.ends (length outcome.operations)
outcome_in_order system outcome runs =
    let ran = runs.4 in
    rw runs.3 (ends_in_order runs.0 ran.before runs.1 ran.first runs.2 outcome.ends (found_of outcome.order) ran.later)

-- a fact of what was recorded and then ordered, in any order that there is
of_ordered : (recorded : List Operation) (order : Option (Vec ℕ Global)) (P : List Operation → Type 0) → ((rows : List ℕ) → P (recorded ++ Reorder rows ∷ []))
    → IfSome (then_ordered recorded order) P
of_ordered recorded None P p = tt
of_ordered recorded (Some rows) P p = p rows.items

-- a solver that shows the counts of what the phases recorded over its equations counts the operations that it answers
pub counts_operations : (old new : Solver) (found : PhaseOutcome) (counts : OperationCounts) (answer : Option (List Operation)) → RunsOverEquations old found
    → AreCountsOf found.ends found.operations counts → new.additions ≡ counts.additions.first ∷ counts.additions.second ∷ 0 ∷ counts.additions.fourth ∷ 0 ∷ []
    → new.multiplications ≡ counts.multiplications.first ∷ counts.multiplications.second ∷ 0 ∷ counts.multiplications.fourth ∷ 0 ∷ []
    → answer ≡ in_row_order found → CountsOperations old new answer
counts_operations old new found counts answer runs are added multiplied is =
    let in_order = outcome_in_order runs.system found runs.phases in
    let a = are.additions_are in
    let m = are.multiplications_are in
    let totals : (rows : List ℕ) → AreTotalsOf counts (found.operations ++ Reorder rows ∷ []) = λ rows.
    totals_of found.ends (found.operations ++ Reorder rows ∷ []) counts (longer_in_order found.operations rows found.ends in_order)
    (counts_with_order found.operations rows found.ends in_order counts are) in
    rw is (record {
      found = found;
      runs = runs;
      answers = refl;
      in_order = in_order;
      added = added ∙ by_phases _ _ _ _ _ _ a.first a.second a.fourth;
      multiplied = multiplied ∙ by_phases _ _ _ _ _ _ m.first m.second m.fourth;
      additions_are = of_ordered found.operations (found_of found.order) _ (λ rows. let t = (totals rows).additions_are in rw added (omega (arith, t)));
      multiplications_are = of_ordered found.operations (found_of found.order) _
          (λ rows. let t = (totals rows).multiplications_are in rw multiplied (omega (arith, t)));
    })

-- the outcome of a solver that stands for these equations and has not run
pub outcome_same : (s t : Solver) (handed : Slab) (r : Result (Option (Slab × Vec SymbolOps Global)) Error) → s ≡ t → t.symbols ≡ Some handed → IfSome s.symbols (λ h. IfOk r (IsOutcome s h)) → IfOk r (IsOutcome t handed)
outcome_same s t handed r same symbols_are solved =
    let is = subst (λ (u : Solver). IfSome u.symbols (λ h. IfOk r (IsOutcome u h))) same solved in
    subst (λ (o : Option Slab). IfSome o (λ h. IfOk r (IsOutcome t h))) symbols_are is
