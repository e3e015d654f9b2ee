-- What the check leaves to show of `pi_solver::first_phase::inactive::fill_columns`.
use Rattle.std.proofs.Common.{◌≡◌, ◌+◌, ◌<◌, ◌==◌, ℕ, count_by, length, min, ap, ◌∙◌, arith, inl, inr}
use Rattle.std.proofs.lemmas.Bool.{cases_eq}
use Rattle.rq_algebra.specs.Systems.{at}
use Rattle.rq_peeling.specs.SystemRows.{one_in}
use Rattle.rq_peeling.specs.ColumnRows.{rows_with}
use Rattle.rq_peeling.proofs.ActiveOnes.{count_rows}
use Rattle.rq_solver.proofs.pi_solver.first_phase.inactive.fill_columns.Goals as goal

pub loop-f-preserved : goal.loop-f-preserved
loop-f-preserved c =
    let v = c.loop-f.invariant in
    let f = c.loop-f.f in
    let system = c.args.system.now in
    let lists = system.ones in
    let order = c.args.peeling.now.order in
    let pivots : ℕ = length c.args.peeling.now.rows in
    let inside : f < c.args.inactive = c.loop-f-test.true in
    let column : ℕ = at order (pivots + f) in
    let in_width : column < system.width = (c.requires.peeled.columns.ordered (pivots + f) (omega (arith, inside, c.requires.inactive))).0 in
    let fills = c.fill_column.ensures in
    let is = c.inactive_column-column.ensures in
    let rows : c.rows_in.result.now ≡ rows_with lists column (length lists) = c.rows_in.ensures.rows ∙ system.column_lists c.inactive_column-column.result (rw (is, system.column_count) in_width) ∙ ap (λ (k : ℕ). rows_with lists k (length lists)) is in
    let here : (i : ℕ) → i < length lists → min 1 (count_by (λ row. row == i) c.rows_in.result.now) ≡ one_in lists i column = (λ (i : ℕ) (l : i < length lists).
    let counted = ap (count_by (λ row. row == i)) rows ∙ count_rows lists column (length lists) i l in
    let once = system.bits.once i column l in_width in
    omega (arith, counted, once)) in
    record {
      height = fills.height ∙ v.height;
      wide = rw fills.width v.wide;
      octets = fills.octets;
      filled = λ i k l m n. elim (cases_eq k f) [
        | inl e ↦ rw e (fills.here i (rw v.height l) ∙ here i l)
        | inr d ↦ fills.beside i k d ∙ v.filled i k l (omega (arith, m, d)) n
      ];
      left = λ i k l m n. fills.beside i k (λ e. omega (arith, e, m)) ∙ v.left i k l (omega (arith, m)) n;
    }
