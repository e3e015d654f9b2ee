-- The phases behind the first, one after another.
use Rattle.std.proofs.Common.{◌≡◌, ℕ, ◌+◌, ◌-◌, ◌*◌, ◌≤◌, List, ◌++◌, Contains, Option, None, Some, Vec, length, map, sym, ◌∙◌, arith}
use Rattle.std.specs.Global.{Global}
use Rattle.std.specs.List.Sorted.{IsPermutation}
use Rattle.std.proofs.lemmas.List.{get_or_default}
use Rattle.std.proofs.lemmas.List.Elements.{Contains-get_or}
use Rattle.std.proofs.lemmas.List.Prefix.{front_fits}
use Rattle.std.proofs.lemmas.List.Sorted.{Contains-permutation, IsPermutation-sym, length_permutation}
use Rattle.rq_algebra.specs.Operations.{Operation}
use Rattle.rq_algebra.specs.Systems.{at}
use Rattle.rq_elimination.specs.OperationCounts.{additions, triangle}
use Rattle.rq_elimination.specs.PhaseCounts.{AreInOrder}
use Rattle.rq_elimination.specs.RowSteps.{AreRows}
use Rattle.rq_elimination.specs.declared.counts.PhaseEnds.{PhaseEnds}
use Rattle.rq_elimination.specs.declared.recorded.RecordedRows.{RecordedRows}
use Rattle.rq_solver.specs.LeftRows.{ListsRows}
use Rattle.rq_solver.specs.Peeled.{inactive_count, IsUnderWay}
use Rattle.rq_solver.specs.Phases.{AddsLater, FindsOrder, LacksPivots, RunsLater, SolvesInactive}
use Rattle.rq_solver.specs.declared.pi_solver.peeled.Peeled.{Peeled}
use Rattle.rq_solver.proofs.CountLaws.{inactive_bound}
use Rattle.rq_solver.proofs.PeeledSolutions.{homogeneous_of_peeled, finds_by_peeled}
use Rattle.rq_elimination.proofs.Performing.{Logs}
use Rattle.rq_solver.proofs.TakenAgain.{pivots_stay}

-- ---- rows stay under way while phases record more

pub still_under_way : {p : Peeled} {left : List ℕ} {old new : RecordedRows} {steps : List Operation} → IsUnderWay p left old → Logs steps old new
    → IsUnderWay p left new
still_under_way under logs = record { pivots = pivots_stay under.pivots logs; listed = rw logs.height under.listed; apart = under.apart }

-- those that are left stand in another order
pub still_reordered : {p : Peeled} (before after : List ℕ) {state : RecordedRows} → IsUnderWay p before state → IsPermutation before after
    → AreRows after state.table → IsUnderWay p after state
still_reordered before after under permuted are = record {
  pivots = under.pivots;
  listed = are;
  apart = λ q f l n e.
      let c : Contains before (at after f) = Contains-permutation after before (at after f) (IsPermutation-sym before after permuted) (Contains-get_or after f 0 n) in
      under.apart q c.0 l c.1 (e ∙ sym (get_or_default before c.0 0 (at after f) c.1 ∙ c.2));
}

-- ---- what is found

module _ (p : Peeled) (before after : List ℕ) (old new : RecordedRows) (ends : PhaseEnds) (under : IsUnderWay p before old)
    (listed : ListsRows (length p.ones) p.peeling.rows before) where
  pub finds_none : LacksPivots p before after old new ends → FindsOrder p before old new None
  finds_none lacks = λ system peeled. homogeneous_of_peeled p before old under listed system peeled new lacks.changes after lacks.permuted lacks.stuck

  pub finds_rows : SolvesInactive p before after old new ends → (order : Vec ℕ Global) → order.items ≡ map (at (p.peeling.rows ++ after)) p.peeling.places
      → FindsOrder p before old new (Some order)
  finds_rows found order is = λ system peeled.
      rw is
      (finds_by_peeled p before old under listed system peeled found.forward found.changes after found.permuted found.marks found.sparse found.back new found.echelon found.sparsifies found.reduces found.finishes)

-- ---- how many additions

few_sum : (i n b limit start one two three last : ℕ) → i ≤ b → one + triangle i ≤ start + i * (b - 1) → two ≤ one + n * limit → three ≤ two + triangle i
    → last ≤ three + n * (i + limit) → last ≤ start + i * (n + b - 1) + 2 * (n * limit)
few_sum i n b limit start one two three last fits a e c d =
    let most = inactive_bound i b n fits in
    let same : b + n - 1 ≡ n + b - 1 = omega arith in
    let bound : i * (b - 1) + n * i ≤ i * (n + b - 1) = rw same at most in
    omega (arith, bound, a, e, c, d)

pub few_solved : (p : Peeled) (before after : List ℕ) (old new : RecordedRows) (ends : PhaseEnds) (found : SolvesInactive p before after old new ends)
    → additions found.forward.operations + triangle (inactive_count p.peeling) ≤ additions old.operations + inactive_count p.peeling * (length before - 1)
    → additions found.sparse.operations ≤ additions found.forward.operations + length p.peeling.rows * p.sparsify_limit
    → additions found.back.operations ≤ additions found.sparse.operations + triangle (inactive_count p.peeling)
    → additions new.operations ≤ additions found.back.operations + length p.peeling.rows * (inactive_count p.peeling + p.sparsify_limit)
    → AddsLater p before old new
few_solved p before after old new ends found one two three four =
    let long = length_permutation before after found.permuted in
    few_sum (inactive_count p.peeling) (length p.peeling.rows) (length before) p.sparsify_limit (additions old.operations) (additions found.forward.operations)
    (additions found.sparse.operations) (additions found.back.operations) (additions new.operations) (omega (arith, found.echelon.fits, long)) one two three four

-- ---- where stretches end

pub ends_in_order : (p : Peeled) (before after : List ℕ) (old new : RecordedRows) (ends : PhaseEnds) (order : Option (Vec ℕ Global))
    → RunsLater p before after old new (ends, order) → AreInOrder ends (length new.operations)
ends_in_order p before after old new ends None lacks =
    let more = front_fits new.operations old.operations lacks.changes.steps lacks.changes.performs.recorded in
    rw lacks.stretches (record { first = more; forward = omega arith; sparsifying = omega arith; back = omega arith })
ends_in_order p before after old new ends (Some order) found =
    rw found.stretches (record {
      first = front_fits found.forward.operations old.operations found.changes.steps found.changes.performs.recorded;
      forward = front_fits found.sparse.operations found.forward.operations found.sparsifies.steps found.sparsifies.done.recorded;
      sparsifying = front_fits found.back.operations found.sparse.operations found.reduces.steps found.reduces.done.recorded;
      back = front_fits new.operations found.back.operations found.finishes.steps found.finishes.done.recorded;
    })
