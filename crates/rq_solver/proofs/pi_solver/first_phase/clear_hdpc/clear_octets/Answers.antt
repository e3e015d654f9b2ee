-- What the check leaves to show of `pi_solver::first_phase::clear_hdpc::clear_octets`.
use Rattle.std.proofs.Common.{◌≡◌, ◌≢◌, ℕ, ◌+◌, ◌-◌, ◌<◌, ◌≤◌, length, refl, sym, ap, ◌∙◌, subst, arith, inl, inr}
use Rattle.std.proofs.lemmas.Bool.{cases_lt}
use Rattle.rq_algebra.specs.Systems.{at}
use Rattle.rq_solver.proofs.CountLaws.{hdpc_sum, met_none, met_skipped, met_more}
use Rattle.rq_algebra.proofs.FewPlaces.{few_places}
use Rattle.rq_parts.specs.DenseOctetMatrix.{OctetTable, entry_of}
use Rattle.rq_solver.specs.HdpcOctets.{HasPivotsBeside, ChangesOctets, CombinesOctets, octets_from}
use Rattle.rq_elimination.specs.HdpcRows.{octet_in}
use Rattle.rq_solver.proofs.OctetColumns.{from_column}
use Rattle.rq_solver.proofs.HdpcClearing.{octets_still, beside_still, in_width, changes_no_octets, changes_same, changes_combined, changes_more_octets, clears_octets, clears_no_octets}
use Rattle.rq_solver.proofs.pi_solver.first_phase.clear_hdpc.clear_octets.Goals as goal
use Rattle.rq_solver.proofs.pi_solver.first_phase.clear_hdpc.clear_octets.Goals.{then-height-eq0-via-then-height-eq0, then-height-eq0-via-else-height-eq0+then-are_zeros_at_pivots}

pub returns-then-height-eq0-clause-cleared : goal.returns-then-height-eq0-clause-cleared
returns-then-height-eq0-clause-cleared c =
    let hdpc = c.args.hdpc in
    let rows = c.args.peeling.now.rows in
    let order = c.args.peeling.now.order in
    let none : (p : ℕ) → p < length rows → (i : ℕ) → i < length hdpc.rows → entry_of hdpc i (at order p) ≡ 0 = elim c.then-height-eq0.branch [
      | then-height-eq0-via-then-height-eq0 w ↦ λ p l i n. absurd (let empty = w.if-height-eq0.true in omega (arith, empty, c.height.ensures, n))
      | then-height-eq0-via-else-height-eq0+then-are_zeros_at_pivots w ↦ let zeros = rw w.if-are_zeros_at_pivots.true at w.are_zeros_at_pivots.ensures in λ p l i n. zeros refl p l i n
    ] in
    clears_no_octets (entry_of hdpc) c.args.recorded.now none

pub loop-column-init : goal.loop-column-init
loop-column-init c =
    let hdpc = c.args.hdpc in
    record {
      table = refl;
      lanes = c.as_mut_slice-column_octets.ensures.len ∙ c.in_ok-octets.ensures.len ∙ c.lanes.ensures;
      changed = changes_no_octets;
      few = (0, met_none (length c.args.peeling.now.rows) (at c.args.peeling.now.places), (omega arith));
    }

pub clear_column-requires : goal.clear_column-requires
clear_column-requires c =
    let p = c.args.peeling.now in
    let hdpc = c.args.hdpc in
    let summed = c.in_ok-sum_rows.ensures.summed in
    let v = c.loop-column.invariant in
    let old = c.args.recorded.now in
    let now = c.loop-column.recorded in
    let table = v.table ∙ c.in_ok-hdpc_rows.ensures.table in
    let count : length c.loop-column.hdpc_rows.table.rows ≡ length hdpc.rows = ap (λ (t : OctetTable). length t.rows) table ∙ c.in_ok-sum_rows.ensures.height in
    let width : c.loop-column.hdpc_rows.table.width ≡ hdpc.width = ap (λ (t : OctetTable). t.width) table ∙ c.in_ok-sum_rows.ensures.width in
    let heights : length now.table.rows ≡ length old.table.rows = v.changed.done.height ∙ summed.done.height in
    record {
      hdpc = record {
        rows = rw count (octets_still c.requires.rows heights);
        some = omega (arith, count, c.height.ensures, c.if-height-eq0.false);
        in_width = omega (arith, width, c.loop-column-test.true, c.end_of_pivots-column-end.ensures.within, c.requires.pivots.columns.place_count);
        lanes = v.lanes;
      };
      pivots = rw (count, width) (beside_still c.requires.pivots heights);
    }

pub loop-column-preserved : goal.loop-column-preserved
loop-column-preserved c =
    let p = c.args.peeling.now in
    let v = c.loop-column.invariant in
    let first = c.args.first_hdpc in
    let hdpc = c.args.hdpc in
    let start = c.in_ok-hdpc_rows.hdpc_rows in
    let was = c.loop-column.hdpc_rows in
    let now = c.clear_column.new.hdpc_rows in
    let cur = c.sum_rows.new.recorded in
    let mid = c.loop-column.recorded in
    let new = c.clear_column.new.recorded in
    let column = c.loop-column.column in
    let count = length hdpc.rows in
    let width = hdpc.width in
    let height : length was.table.rows ≡ count = ap (λ (t : OctetTable). length t.rows) (v.table ∙ c.in_ok-hdpc_rows.ensures.table) ∙ c.in_ok-sum_rows.ensures.height in
    let beside : HasPivotsBeside p.rows p.order p.places first count width cur =
    beside_still c.requires.pivots c.in_ok-sum_rows.ensures.summed.done.height in
    let turn : ChangesOctets p.rows p.order first count (octets_from column (octet_in was)) (octets_from (column + 1) (octet_in now)) mid new =
    subst (λ (n : ℕ). ChangesOctets p.rows p.order first n (octets_from column (octet_in was)) (octets_from (column + 1) (octet_in now)) mid new) height c.in_ok-clear_column.ensures.changed in
    let fresh : (q : ℕ) → q < column → at p.places q ≢ at p.places column = (λ (q : ℕ) (l : q < column) (e : at p.places q ≡ at p.places column).
    let same : q ≡ column = sym (c.requires.pivots.columns.placed q (omega (arith, c.end_of_pivots-column-end.ensures.within, c.requires.pivots.columns.place_count))).1 ∙ ap (at p.order) e ∙ (c.requires.pivots.columns.placed column (omega (arith, c.end_of_pivots-column-end.ensures.within, c.requires.pivots.columns.place_count))).1 in
    omega (arith, same, l)) in
    record {
      table = c.clear_column.ensures.table ∙ v.table;
      lanes = c.in_ok-clear_column.ensures.lanes;
      few = elim (cases_lt (at p.places column) (length p.rows)) [
        | inl pivot ↦
            let more = c.in_ok-clear_column.ensures.few in
            let so_far = v.few.2 in
            (v.few.0 + 1, met_more (length p.rows) (at p.places) column v.few.0 v.few.1 pivot fresh, omega (arith, more, so_far, height))
        | inr other ↦
            let more = c.in_ok-clear_column.ensures.idle other in
            let so_far = v.few.2 in
            (v.few.0, met_skipped (length p.rows) (at p.places) column v.few.0 v.few.1, omega (arith, more, so_far, height))
      ];
      changed = changes_more_octets beside v.changed turn;
    }

pub returns-clause-cleared : goal.returns-clause-cleared
returns-clause-cleared c =
    let p = c.args.peeling.now in
    let hdpc = c.args.hdpc in
    let first = c.args.first_hdpc in
    let sums = c.sum_rows.new.rows in
    let start = c.in_ok-hdpc_rows.hdpc_rows in
    let end = c.loop-column.hdpc_rows in
    let old = c.args.recorded.now in
    let cur = c.sum_rows.new.recorded in
    let new = c.loop-column.recorded in
    let count = length hdpc.rows in
    let width = hdpc.width in
    let summed : CombinesOctets first count width (entry_of hdpc) (entry_of sums) old cur = c.in_ok-sum_rows.ensures.summed in
    let heights : length sums.rows ≡ count = c.in_ok-sum_rows.ensures.height in
    let widths : sums.width ≡ width = c.in_ok-sum_rows.ensures.width in
    let beside = c.requires.pivots in
    let last : c.loop-column.column ≡ c.end_of_pivots-column-end.result = omega (arith, c.loop-column.auto.column-end) in
    let begun : ChangesOctets p.rows p.order first count (entry_of hdpc) (octets_from 0 (octet_in start)) old cur =
    changes_same
    (λ i q l n. sym (from_column 0 (octet_in start) i (at p.order q) (omega arith) ∙ c.in_ok-hdpc_rows.ensures.octets i (at p.order q) (rw heights l) (rw widths (in_width beside q n))))
    (changes_combined beside summed) in
    clears_octets beside (entry_of hdpc) (octet_in end) c.loop-column.column (changes_more_octets beside begun c.loop-column.invariant.changed)
    (rw last c.end_of_pivots-column-end.ensures.last)

pub returns-clause-few : goal.returns-clause-few
returns-clause-few c =
    let hdpc = c.args.hdpc in
    let few = c.loop-column.invariant.few in
    let summed = c.in_ok-sum_rows.ensures.few in
    let met = few_places few.0 (length c.args.peeling.now.rows) few.1.which few.1.are in
    let done : c.loop-column.column ≤ hdpc.width = omega (arith, c.loop-column.auto.column-end, c.end_of_pivots-column-end.ensures.within, c.requires.pivots.columns.place_count) in
    let all = hdpc_sum (length hdpc.rows - 1) (length hdpc.rows) hdpc.width c.loop-column.column few.0 (length c.args.peeling.now.rows) done met in
    let so_far = few.2 in
    omega (arith, all, so_far, summed)
