-- What the check leaves to show of `pi_solver::first_phase::clear_hdpc::clear_column`.
use Rattle.std.proofs.Common.{◌≡◌, ◌≢◌, ℕ, ◌<◌, ◌+◌, length, ap, sym, ◌∙◌, subst, arith}
use Rattle.rq_algebra.specs.Systems.{at}
use Rattle.rq_parts.specs.DenseOctetMatrix.{OctetTable}
use Rattle.rq_elimination.specs.HdpcRows.{octet_in}
use Rattle.rq_solver.specs.HdpcOctets.{octets_from, ChangesOctets}
use Rattle.rq_solver.proofs.HdpcClearing.{octets_still, beside_still, changes_combined, changes_more_octets, column_skipped}
use Rattle.rq_solver.proofs.pi_solver.first_phase.clear_hdpc.clear_column.Goals as goal
use Rattle.rq_solver.proofs.pi_solver.first_phase.clear_hdpc.clear_column.Goals.{After-place_of-place}

pub add_pivot-requires-clause-rows : goal.add_pivot-requires-clause-rows
add_pivot-requires-clause-rows c =
    let added = c.in_ok-add_first_row.ensures.added in
    rw c.add_first_row.ensures.table (octets_still c.requires.hdpc.rows added.done.height)

pub add_pivot-requires-clause-pivots : goal.add_pivot-requires-clause-pivots
add_pivot-requires-clause-pivots c = rw c.add_first_row.ensures.table (beside_still c.requires.pivots c.in_ok-add_first_row.ensures.added.done.height)

module _ (c : After-place_of-place) where
  place : c.place_of-place.result ≡ at c.args.places.now.peeling.now.places c.args.column
  place = c.place_of-place.ensures

  -- what was done to the first row and the others
  combined : ChangesOctets c.args.places.now.peeling.now.rows c.args.places.now.peeling.now.order c.args.places.now.first (length c.args.hdpc_rows.now.table.rows) (octets_from c.args.column (octet_in c.args.hdpc_rows.now)) (octets_from c.args.column (octet_in c.add_first_row.new.hdpc_rows)) c.args.recorded.now c.add_first_row.new.recorded
  combined = changes_combined c.requires.pivots c.in_ok-add_first_row.ensures.added

pub returns-in_ok-add_pivot-clause-changed : goal.returns-in_ok-add_pivot-clause-changed
returns-in_ok-add_pivot-clause-changed c =
    let before = (goal.at.returns-in_ok-add_pivot-clause-changed c).After-place_of-place in
    let p = c.args.places.now.peeling.now in
    let first = c.args.places.now.first in
    let column = c.args.column in
    let hdpc_rows = c.args.hdpc_rows.now in
    let now = c.add_first_row.new.hdpc_rows in
    let count = length hdpc_rows.table.rows in
    let cur = c.add_first_row.new.recorded in
    let new = c.add_pivot.new.recorded in
    let back : at p.order c.place_of-place.result ≡ column = ap (at p.order) (place before) ∙ (c.requires.pivots.columns.placed column c.requires.hdpc.in_width).1 in
    let pivot : ChangesOctets p.rows p.order first count (octets_from column (octet_in now)) (octets_from (column + 1) (octet_in now)) cur new =
    subst (λ (k : ℕ). ChangesOctets p.rows p.order first count (octets_from k (octet_in now)) (octets_from (k + 1) (octet_in now)) cur new) back
    (subst (λ (n : ℕ). ChangesOctets p.rows p.order first n (octets_from (at p.order c.place_of-place.result) (octet_in now)) (octets_from (at p.order c.place_of-place.result + 1) (octet_in now)) cur new) (ap (λ (t : OctetTable). length t.rows) c.add_first_row.ensures.table) c.in_ok-add_pivot.ensures.changed) in
    changes_more_octets c.requires.pivots (combined before) pivot

pub returns-else-place-pivots-clause-changed : goal.returns-else-place-pivots-clause-changed
returns-else-place-pivots-clause-changed c =
    let before = (goal.at.returns-else-place-pivots-clause-changed c).After-place_of-place in
    let p = c.args.places.now.peeling.now in
    let hdpc_rows = c.args.hdpc_rows.now in
    let many = c.pivots.ensures in
    let none : (q : ℕ) → q < length p.rows → at p.order q ≢ c.args.column = (λ (q : ℕ) (l : q < length p.rows) (e : at p.order q ≡ c.args.column).
    let known = sym (c.requires.pivots.columns.ordered q (omega (arith, c.requires.pivots.few, l))).1 ∙ ap (at p.places) e in
    omega (arith, known, place before, many, c.if-place-pivots.false, l)) in
    column_skipped (octet_in c.add_first_row.new.hdpc_rows) c.args.column none (combined before)
