-- What the check leaves to show of `column_rows::place_row`.
use Rattle.std.proofs.Common.{◌≡◌, ℕ, ◌+◌, ◌-◌, ◌<◌, ◌==◌, ◌++◌, List, count_by, length, replicate, take, ◌∙◌, subst, arith}
use Rattle.std.proofs.lemmas.List.{length-set, take_all}
use Rattle.std.proofs.lemmas.List.Elements.{All-set}
use Rattle.rq_algebra.specs.Systems.{at}
use Rattle.rq_peeling.specs.ColumnRows.{HasPlaced}
use Rattle.rq_peeling.proofs.ColumnPlacing.{counted_less, counted_set, placed_more, put_elsewhere, put_fits, put_here}
use Rattle.rq_peeling.proofs.column_rows.place_row.Goals as goal

pub overflow_sub-place : goal.overflow_sub-place
overflow_sub-place c =
    let t = c.loop-column.column-index in
    let in_columns : t < length c.args.columns.now = c.loop-column-test.true in
    let column = at c.args.columns.now t in
    let inside : column < length c.args.starts.now = c.requires.columns t 0 in_columns in
    omega (arith, c.loop-column.invariant.left column inside, c.requires.room column inside, counted_less c.args.columns.now t in_columns)

pub loop-column-preserved : goal.loop-column-preserved
loop-column-preserved c =
    let v = c.loop-column.invariant in
    let row = c.args.row in
    let columns = c.args.columns.now in
    let t = c.loop-column.column-index in
    let column = at columns t in
    let in_columns : t < length columns = c.loop-column-test.true in
    let inside : column < length c.args.starts.now = c.requires.columns t 0 in_columns in
    let starts = c.loop-column.starts in
    let rows = c.loop-column.rows in
    let place = at starts column - 1 in
    let some : place + 1 ≡ at starts column = omega (arith, v.left column inside, c.requires.room column inside, counted_less columns t in_columns) in
    record {
      long = length-set starts column place ∙ v.long;
      wide = length-set rows place row ∙ v.wide;
      left = λ k l. counted_set (λ n start. start + n ≡ at c.args.starts.now k) columns starts t k place in_columns (omega (arith, inside, v.long)) (λ n is. omega (arith, some, is)) (v.left k l);
      below = λ height l all. All-set (λ r. r < height) rows place row l (v.below height l all);
      placed = λ counts done has room.
          let so_far : ℕ → List ℕ = λ k. replicate (count_by (λ column. column == k) (take t columns)) row ++ done k in
          let next : ℕ → List ℕ = λ k. replicate (count_by (λ column. column == k) (take (t + 1) columns)) row ++ done k in
          let in_counts : column < length counts = omega (arith, has.long, inside) in
          placed_more counts so_far next starts rows (v.placed counts done has room) column row in_counts (put_fits columns done t row in_columns (at counts column) (room column in_counts)) (put_here columns done t row in_columns)
          (put_elsewhere columns done t row in_columns);
    }

pub returns-clause-placed : goal.returns-clause-placed
returns-clause-placed c = λ counts done has room.
    let columns = c.args.columns.now in
    let all : take c.loop-column.column-index columns ≡ columns = take_all c.loop-column.column-index columns (omega (arith, c.loop-column-test.false)) in
    subst (λ (cs : List ℕ). HasPlaced counts (λ k. replicate (count_by (λ column. column == k) cs) c.args.row ++ done k) c.loop-column.starts c.loop-column.rows) all (c.loop-column.invariant.placed counts done has room)
