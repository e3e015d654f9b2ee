-- What the check leaves to show of `degrees::lower_rows`.
use Rattle.std.proofs.Common.{◌≡◌, ◌-◌, ◌<◌, length, ◌∙◌, arith}
use Rattle.std.proofs.lemmas.List.{length-set}
use Rattle.rq_algebra.specs.Systems.{at}
use Rattle.rq_peeling.proofs.ColumnPlacing.{counted_set}
use Rattle.rq_peeling.proofs.DegreeLists.{listed_added, listed_set}
use Rattle.rq_peeling.proofs.degrees.lower_rows.Goals as goal

pub loop-row-preserved : goal.loop-row-preserved
loop-row-preserved c =
    let v = c.loop-row.invariant in
    let t = c.loop-row.row-index in
    let row = at c.args.rows.now t in
    let degrees = c.loop-row.degrees in
    let degree = c.saturating_sub-degree.result in
    let inside : row < length degrees = omega (arith, c.requires.rows t 0 c.loop-row-test.true, v.degrees_long) in
    let single = c.push_of_degree.ensures in
    let pair = c.push_of_degree-in-loop-row.ensures in
    let singles = c.push_of_degree.new.self.rows in
    let pairs = c.push_of_degree-in-loop-row.new.self.rows in
    record {
      degrees_long = length-set degrees row degree ∙ v.degrees_long;
      single_room = omega (arith, single.room, v.single_room);
      pair_room = omega (arith, pair.room, v.pair_room);
      lowered = λ r l. counted_set (λ n less. less ≡ at c.args.degrees.now r - n) c.args.rows.now degrees t r degree c.loop-row-test.true inside (λ n is. omega (arith, c.saturating_sub-degree.ensures, is)) (v.lowered r l);
      listed = listed_set degrees singles pairs row degree (listed_added degrees c.loop-row.singles.rows c.loop-row.pairs.rows singles pairs row v.listed inside single.added pair.added) (λ e. single.there e);
    }
