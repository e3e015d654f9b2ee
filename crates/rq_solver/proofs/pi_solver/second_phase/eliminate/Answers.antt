-- What the check leaves to show of `pi_solver::second_phase::eliminate`.
use Rattle.std.proofs.Common.{◌≡◌, refl, ◌∙◌, ◌+◌, ◌-◌, ◌≤◌, ◌<◌, length, All, ◌∷◌, [], Contains, arith}
use Rattle.std.proofs.lemmas.List.Elements.{All-nil, All-cons, Contains-get_or}
use Rattle.std.proofs.lemmas.List.Sorted.{Contains-permutation, IsPermutation-refl, IsPermutation-sym, IsPermutation-trans}
use Rattle.rq_algebra.specs.Systems.{at}
use Rattle.rq_elimination.specs.OperationCounts.{additions}
use Rattle.rq_solver.proofs.CountLaws.{triangle-start, forward_more, forward_bound}
use Rattle.rq_elimination.proofs.Performing.{changes_none, changes_among, changes_more}
use Rattle.rq_solver.proofs.EchelonRows.{echelon_none, swapped_echelon, echelon_more}
use Rattle.rq_elimination.proofs.SwappedRows.{Exchanges, swapped_rows}
use Rattle.rq_solver.proofs.pi_solver.second_phase.eliminate.Goals as goal

pub loop-done-init : goal.loop-done-init
loop-done-init c = record {
  rows = IsPermutation-refl c.args.rows.now;
  are_rows = c.requires.rows;
  steps = changes_none _ _;
  long = refl;
  few = triangle-start (additions c.args.recorded.now.operations) (length c.args.rows.now - 1);
  echelon = echelon_none _ _;
}

pub returns-in_err-scale_row-clause-permuted : goal.returns-in_err-scale_row-clause-permuted
returns-in_err-scale_row-clause-permuted c = IsPermutation-trans _ _ _ c.loop-done.invariant.rows c.swap.ensures.permutation

pub clear_below-requires-clause-rows : goal.clear_below-requires-clause-rows
clear_below-requires-clause-rows c =
    let found = c.in-Some.ensures.found in
    let exchanges : Exchanges c.loop-done.rows c.swap.new.self c.loop-done.done c.in-Some.pivot = record { by_index = c.swap.ensures.by_index; len = c.swap.ensures.len; left = omega (arith, found); right = found.1 } in
    rw c.in_ok-scale_row.ensures.steps.performs.height (swapped_rows exchanges c.loop-done.recorded.table c.loop-done.invariant.are_rows)

pub returns-in_err-clear_below-clause-permuted : goal.returns-in_err-clear_below-clause-permuted
returns-in_err-clear_below-clause-permuted c = IsPermutation-trans _ _ _ c.loop-done.invariant.rows c.swap.ensures.permutation

pub loop-done-preserved : goal.loop-done-preserved
loop-done-preserved c =
    let v = c.loop-done.invariant in
    let start = c.args.rows.now in
    let rows = c.loop-done.rows in
    let swapped = c.swap.new.self in
    let done = c.loop-done.done in
    let a = c.loop-done.recorded in
    let b = c.scale_row.new.recorded in
    let e = c.clear_below.new.recorded in
    let found = c.in-Some.ensures.found in
    let scaled = c.in_ok-scale_row.ensures in
    let cleared = c.in_ok-clear_below.ensures in
    let in_rows : done < length rows = omega (arith, found) in
    let in_swapped : done < length swapped = omega (arith, c.swap.ensures.len) in
    let permuted = IsPermutation-trans start rows swapped v.rows c.swap.ensures.permutation in
    let back : All (Contains start) swapped = (λ k d l. Contains-permutation swapped start _ (IsPermutation-sym start swapped permuted) (Contains-get_or swapped k d l)) in
    let exchanges : Exchanges rows swapped done c.in-Some.pivot = record { by_index = c.swap.ensures.by_index; len = c.swap.ensures.len; left = in_rows; right = found.1 } in
    let are = swapped_rows exchanges a.table v.are_rows in
    let echelon = swapped_echelon exchanges done a.table (omega arith) found.0 v.echelon in
    let scaling = changes_among (at swapped done ∷ []) start (All-cons (Contains start) (at swapped done) [] (back done 0 in_swapped) (All-nil (Contains start))) a b scaled.steps in
    let clearing = changes_among swapped start back b e cleared.steps in
    record {
      rows = permuted;
      are_rows = rw (cleared.steps.performs.height, scaled.steps.performs.height) are;
      steps = changes_more start c.args.recorded.now b e (changes_more start c.args.recorded.now a b v.steps scaling) clearing;
      long = c.swap.ensures.len ∙ v.long;
      few =
          let long : length swapped ≡ length start = c.swap.ensures.len ∙ v.long in
          let more : additions e.operations + (done + 1) ≤ additions a.operations + length start = omega (arith, long, scaled.few, cleared.few) in
          forward_more (length start) (additions c.args.recorded.now.operations) (additions a.operations) (additions e.operations) done (omega (arith, long, in_swapped)) v.few more;
      echelon = echelon_more swapped done a.table b.table e.table are in_swapped (omega (arith, v.steps.performs.width, c.requires.columns)) a.octets (rw (c.swap.ensures.by_index.0 0) found.2) scaled.scaled cleared.cleared scaled.steps.performs.width echelon;
    }

pub returns-in_default-clause-few : goal.returns-in_default-clause-few
returns-in_default-clause-few c = forward_bound (length c.args.rows.now) (additions c.args.recorded.now.operations) (additions c.loop-done.recorded.operations) c.loop-done.done c.args.count (omega arith) c.loop-done.invariant.few
