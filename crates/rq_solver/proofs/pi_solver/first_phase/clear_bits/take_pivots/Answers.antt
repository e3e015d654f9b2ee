-- What the check leaves to show of `pi_solver::first_phase::clear_bits::take_pivots`.
use Rattle.std.proofs.Common.{◌≡◌, ◌≢◌, ◌+◌, ◌<◌, ℕ, length, sym, ap, ◌∙◌, arith, inl, inr}
use Rattle.rq_algebra.specs.Systems.{at}
use Rattle.rq_algebra.proofs.FewPlaces.{few_places}
use Rattle.rq_peeling.proofs.Counting.{twice_counted}
use Rattle.rq_solver.proofs.CountLaws.{met_none, met_skipped, met_more}
use Rattle.rq_elimination.proofs.Performing.{performs_none, performs_more}
use Rattle.rq_solver.proofs.PivotsTaken.{columns_of_row, takes_no_pivots, takes_skipped, takes_more_pivots}
use Rattle.rq_solver.proofs.pi_solver.first_phase.clear_bits.take_pivots.Goals as goal
use Rattle.rq_solver.proofs.pi_solver.first_phase.clear_bits.take_pivots.Goals.{then-place-pivots+then-row_of-row+in_ok-add_multiple, else-place-pivots, else-place-pivots-via-then-place-pivots+else-row_of-row, else-place-pivots-via-else-place-pivots}

pub loop-column-init : goal.loop-column-init
loop-column-init c = record {
  taken = takes_no_pivots c.args.peeling.now.rows c.args.peeling.now.order c.args.row c.row-column-items.result.now (performs_none c.args.recorded.now);
  few = (0, met_none (length c.args.peeling.now.rows) (λ q. at c.args.peeling.now.places (at c.row-column-items.result.now q)), (omega arith));
}

pub loop-column-preserved : goal.loop-column-preserved
loop-column-preserved c =
    let rows = c.args.peeling.now.rows in
    let order = c.args.peeling.now.order in
    let places = c.args.peeling.now.places in
    let width = length places in
    let row = c.args.row in
    let columns = c.row-column-items.result.now in
    let t = c.loop-column.column-index in
    let j = c.place_of-place.result in
    let old = c.args.recorded.now in
    let cur = c.loop-column.recorded in
    let peeled = c.requires.peeled.peeled in
    let in_columns : t < length columns = c.loop-column-test.true in
    let are = columns_of_row c.requires.peeled.bits c.requires.row c.row-column-items.ensures in
    let in_width : at columns t < width = are.within t 0 in_columns in
    let place : at places (at columns t) ≡ j = sym c.place_of-place.ensures in
    let many = c.pivots.ensures in
    let v = c.loop-column.invariant in
    let met : ℕ → ℕ = λ q. at places (at columns q) in
    let fresh : (q : ℕ) → q < t → met q ≢ met t = (λ (q : ℕ) (l : q < t) (e : met q ≡ met t).
    let same : at columns q ≡ at columns t = sym (peeled.columns.placed (at columns q) (are.within q 0 (omega arith))).1 ∙ ap (at order) e ∙ (peeled.columns.placed (at columns t) in_width).1 in
    twice_counted columns q t l in_columns same (are.once (at columns t) in_width)) in
    elim c.if-place-pivots.branch [
      | then-place-pivots+then-row_of-row+in_ok-add_multiple w ↦
          let in_rows : j < length rows = omega (arith, many, w.if-place-pivots.true) in
          let tested : w.row_of.result ≡ at rows j = w.row_of.ensures in
          let read : w.row_of-then-row_of-row.result ≡ at rows j = w.row_of-then-row_of-row.ensures in
          rw w.recorded-is (record {
            few =
                let added = w.in_ok-add_multiple.ensures.counted in
                (v.few.0 + 1, met_more (length rows) met t v.few.0 v.few.1 (rw place in_rows) fresh, (let so_far = v.few.2 in omega (arith, added, so_far)));
            taken = takes_more_pivots rows order row columns peeled.columns peeled.few in_columns in_width v.taken are.once peeled.in_rows place in_rows
                (λ e. w.if-row_of-row.true (tested ∙ e)) c.requires.height (rw (read, w.one.ensures) at w.in_ok-add_multiple.ensures.added)
                (performs_more _ _ old cur w.add_multiple.new.self);
          })
      | else-place-pivots w ↦ rw w.recorded-is (record {
        few = (v.few.0, met_skipped (length rows) met t v.few.0 v.few.1, v.few.2);
        taken = elim w.else-place-pivots.branch [
          | else-place-pivots-via-then-place-pivots+else-row_of-row w' ↦
              let in_rows : j < length rows = omega (arith, many, w'.if-place-pivots.true) in
              let tested : w'.row_of.result ≡ at rows j = w'.row_of.ensures in
              takes_skipped _ _ _ columns peeled.columns peeled.few in_columns in_width v.taken (inr (ap (at rows) place ∙ rw tested at w'.if-row_of-row.false))
          | else-place-pivots-via-else-place-pivots w' ↦
              takes_skipped _ _ row columns peeled.columns peeled.few in_columns in_width v.taken (inl (omega (arith, many, w'.if-place-pivots.false, place)))
        ];
      })
    ]

pub returns-clause-few : goal.returns-clause-few
returns-clause-few c =
    let few = c.loop-column.invariant.few in
    let most = few_places few.0 (length c.args.peeling.now.rows) few.1.which few.1.are in
    let so_far = few.2 in
    omega (arith, most, so_far)
