-- What the check leaves to show of `pi_solver::phases::run_phases`.
use Rattle.std.proofs.Common.{◌≡◌, ℕ, ◌+◌, ◌-◌, ◌*◌, ◌/◌, ◌≤◌, List, Vec, Option, None, IfOk, Result, Ok, Err, drop, length, refl, ap, ◌∙◌, arith}
use Rattle.std.specs.Global.{Global}
use Rattle.std.specs.Option.{IfSome}
use Rattle.std.specs.Result.{result_ok}
use Rattle.std.proofs.Math.Nat.{mul-le-mul_left}
use Rattle.std.proofs.lemmas.List.{take_at}
use Rattle.rq_algebra.specs.Systems.{at}
use Rattle.rq_elimination.specs.OperationCounts.{additions}
use Rattle.rq_algebra.proofs.FewPlaces.{few_together}
use Rattle.rq_elimination.specs.declared.recorded.RecordedRows.{RecordedRows}
use Rattle.rq_peeling.specs.Peeling.{IsPeeled}
use Rattle.rq_peeling.specs.System.{rows_of_system}
use Rattle.rq_peeling.specs.declared.system.System.{System}
use Rattle.rq_solver.specs.FirstPhase.{AddsFirst, ClearsPivots}
use Rattle.rq_solver.specs.HdpcOctets.{hdpc_bound}
use Rattle.rq_solver.specs.LeftRows.{ListsRows}
use Rattle.rq_solver.specs.Peeled.{inactive_count}
use Rattle.rq_solver.specs.PhaseOutcome.{RunsOverSystem}
use Rattle.rq_solver.specs.Phases.{then_ordered, AddsLater, FindsOrder, SolvesSystem}
use Rattle.rq_solver.specs.declared.pi_solver.peeled.Peeled.{Peeled}
use Rattle.rq_solver.proofs.CountLaws.{few_in_all}
use Rattle.rq_solver.proofs.LeftRows.{all_few}
use Rattle.rq_solver.proofs.PivotsCleared.{pivot_of_bits}
use Rattle.rq_solver.proofs.ShownColumns.{shows_system}
use Rattle.rq_solver.proofs.pi_solver.phases.run_phases.Goals as goal
use Rattle.rq_solver.proofs.pi_solver.phases.run_phases.Goals.{After-as_slice, In_ok-ends}

-- ---- what was recorded in all phases

few_of : (M width h p most recorded phases : ℕ) → p ≤ width → p + h ≤ M → 2 * most + h ≤ width → recorded ≤ M * p + hdpc_bound h width p
    → phases ≤ recorded + ((width - p) * (M - 1) + 2 * (p * most)) → phases ≤ 2 * width * M
few_of M width h p most recorded phases fits rows columns first second =
    let back : p + (width - p) ≡ width = omega arith in
    let all : M * p + hdpc_bound h width p + (width - p) * (M - 1) + p * (2 * most) ≤ 2 * width * M = rw back at (few_in_all p (width - p) h M (2 * most) rows (rw back columns)) in
    omega (arith, all, first, second)

-- the first phase, and those behind it
few_recorded : (system : System) (p : Peeled) (left : List ℕ) (first last : RecordedRows) → IsPeeled system.width system.ones p.peeling
    → p.sparsify_limit ≡ (system.width - length system.hdpc.rows) / 2 → ListsRows (length system.ones) p.peeling.rows left
    → AddsFirst system p.peeling first → AddsLater p left first last → additions last.operations ≤ 2 * system.width * length system.ones
few_recorded system p left first last peeled limit_is listing start later =
    let height = length system.ones in
    let width = system.width in
    let hdpc = system.hdpc in
    let rows = p.peeling.rows in
    let most : ℕ = (width - length hdpc.rows) / 2 in
    let room : 2 * most + length hdpc.rows ≤ width = omega (arith, system.few_hdpc) in
    let fewer = all_few height rows left peeled.in_rows listing in
    let together : length rows + length hdpc.rows ≤ height =
    few_together (length rows) (length hdpc.rows) system.first_hdpc height (at rows) peeled.in_rows system.octet_rows.within
    (λ i q l n. pivot_of_bits system.ones system.first_hdpc hdpc width system.bits system.octet_rows rows p.peeling.order p.peeling.places peeled q i n l) in
    let columns : inactive_count p.peeling ≡ width - length rows = ap (λ (n : ℕ). n - length rows) peeled.columns.place_count in
    let bound : (width - length rows) * (length rows + length left - 1) ≤ (width - length rows) * (height - 1) = mul-le-mul_left (width - length rows) (omega (arith, fewer)) in
    let second : additions last.operations ≤ additions first.operations + (width - length rows) * (length rows + length left - 1) + 2 * (length rows * most) =
    rw (columns, limit_is) at later in
    few_of height width (length hdpc.rows) (length rows) most (additions first.operations) (additions last.operations) peeled.few together room start
    (omega (arith, bound, second))

-- ---- what is found of the rows that the first phase left is found of the system

found_from : (system : System) (p : Peeled) (left : List ℕ) (first last : RecordedRows) (order : Option (Vec ℕ Global)) → p.ones ≡ system.ones
    → IsPeeled system.width system.ones p.peeling → ClearsPivots system p.peeling left first → FindsOrder p left first last order
    → SolvesSystem system (then_ordered last.operations order)
found_from system p left first last order ones peeled cleared found =
    rw (ones, peeled.columns.place_count) at (found (rows_of_system system) (rw (ones, peeled.columns.place_count) cleared))

module _ (c : In_ok-ends) where
  few : additions c.later_phases.new.recorded.operations ≤ 2 * c.args.system.width * length c.args.system.ones
  few =
      let made = c.in_ok-peeled.ensures in
      few_recorded c.args.system c.in_ok-peeled.peeled c.in_ok-peeled.left.items c.in_ok-peeled.recorded c.later_phases.new.recorded (rw made.peeling c.in_ok-peeling.ensures.peeled)
      made.limit (rw made.peeling made.listed) (rw made.peeling made.few) (rw c.as_mut_slice.ensures.value at c.in_ok-ends.ensures.few)

  found : SolvesSystem c.args.system (then_ordered c.later_phases.new.recorded.operations c.in_ok-ends.order)
  found =
      let made = c.in_ok-peeled.ensures in
      found_from c.args.system c.in_ok-peeled.peeled c.in_ok-peeled.left.items c.in_ok-peeled.recorded c.later_phases.new.recorded c.in_ok-ends.order made.ones
      (rw made.peeling c.in_ok-peeling.ensures.peeled) (rw made.peeling made.cleared) (rw c.as_mut_slice.ensures.value at c.in_ok-ends.ensures.found)

  runs : RunsOverSystem c.args.system c.in_ok-peeled.peeled c.later_phases.new.left c.later_phases.new.recorded (c.in_ok-ends.ends, c.in_ok-ends.order)
  runs =
      let made = c.in_ok-peeled.ensures in
      record {
        before = c.in_ok-peeled.left.items;
        first = c.in_ok-peeled.recorded;
        peeled = rw made.peeling c.in_ok-peeling.ensures.peeled;
        fewest = rw made.peeling c.in_ok-peeling.ensures.fewest;
        columns = rw made.peeling c.in_ok-peeling.ensures.columns;
        ones = made.ones;
        under_way = made.under_way;
        listed = rw made.peeling made.listed;
        cleared = rw made.peeling made.cleared;
        alone = rw made.peeling made.alone;
        later = rw c.as_mut_slice.ensures.value at c.in_ok-ends.ensures.phases;
      }

  lacks : c.in_ok-ends.order ≡ None
      → RunsOverSystem c.args.system c.in_ok-peeled.peeled c.later_phases.new.left c.later_phases.new.recorded (c.in_ok-ends.ends, None)
  lacks none = rw none at runs

-- ---- where a column has no pivot

-- a column that was made
if_made : {E : Type 0} (r : Result (Vec ℕ Global) E) (A B C D : Vec ℕ Global → Type 0) → ((column : Vec ℕ Global) → A column → B column → C column → D column)
    → IfOk r A → IfOk r B → IfOk r C → IfSome (result_ok r) D
if_made (Ok column) A B C D made a b c = made column a b c
if_made (Err e) A B C D made a b c = tt

module _ (c : After-as_slice) where
  all_left : c.as_slice.result.now ≡ c.later_phases.new.left
  all_left =
      let left = c.later_phases.new.left in
      c.as_slice.ensures.value
      ∙ take_at left (drop (length left) c.in_ok-peeled.left.items) c.in_ok-peeled.left.len
      (omega (arith, c.later_phases.auto.left, c.as_mut_slice.ensures.len))

pub homogeneous_column-column-requires-clause-under_way : goal.homogeneous_column-column-requires-clause-under_way
homogeneous_column-column-requires-clause-under_way c =
    rw (all_left (goal.at.homogeneous_column-column-requires-clause-under_way c).After-as_slice) (rw c.in_default.is at c.in_ok-ends.ensures.left)

pub homogeneous_column-column-requires-clause-stuck : goal.homogeneous_column-column-requires-clause-stuck
homogeneous_column-column-requires-clause-stuck c =
    let before = goal.at.homogeneous_column-column-requires-clause-stuck c in
    rw (all_left before.After-as_slice) (lacks before.In_ok-ends c.in_default.is).later.stuck

pub returns-in_default-clause-found : goal.returns-in_default-clause-found
returns-in_default-clause-found c = rw c.in_default.is at (found (goal.at.returns-in_default-clause-found c).In_ok-ends)

pub returns-in_default-clause-shown : goal.returns-in_default-clause-shown
returns-in_default-clause-shown c =
    let before = goal.at.returns-in_default-clause-shown c in
    let shown = shows_system c.args.system c.in_ok-peeled.peeled c.later_phases.new.left c.later_phases.new.recorded c.in_ok-ends.ends
    (lacks before.In_ok-ends c.in_default.is) in
    let made = c.homogeneous_column-column.ensures in
    rw c.ok.ensures.value
    (if_made c.homogeneous_column-column.result _ _ _ _ (λ column elements left pivots. shown column.items elements left pivots) made.elements
    (rw (all_left before.After-as_slice) at made.left) made.pivots)

pub returns-in_default-clause-phases : goal.returns-in_default-clause-phases
returns-in_default-clause-phases c =
    let before = (goal.at.returns-in_default-clause-phases c).In_ok-ends in
    (c.in_ok-peeled.peeled, c.later_phases.new.left, c.later_phases.new.recorded, refl, lacks before c.in_default.is)

pub returns-in_default-clause-few : goal.returns-in_default-clause-few
returns-in_default-clause-few c = few (goal.at.returns-in_default-clause-few c).In_ok-ends

pub returns-clause-found : goal.returns-clause-found
returns-clause-found c = rw c.in-Some.is at (found (goal.at.returns-clause-found c).In_ok-ends)

pub returns-clause-phases : goal.returns-clause-phases
returns-clause-phases c =
    (c.in_ok-peeled.peeled, c.later_phases.new.left, c.later_phases.new.recorded, refl, rw c.in-Some.is at (runs (goal.at.returns-clause-phases c).In_ok-ends))

pub returns-clause-few : goal.returns-clause-few
returns-clause-few c = few (goal.at.returns-clause-few c).In_ok-ends
