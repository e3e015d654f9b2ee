-- What the check leaves to show of `degrees::list_rows`.
use Rattle.std.proofs.Common.{◌≡◌, ◌<◌, length, sym, ap, ◌∙◌, subst, arith, inl, inr}
use Rattle.std.specs.List.{Contains}
use Rattle.std.proofs.lemmas.Bool.{cases_lt}
use Rattle.rq_algebra.specs.Systems.{at}
use Rattle.rq_peeling.proofs.DegreeLists.{added_below, added_contains}
use Rattle.rq_peeling.proofs.degrees.list_rows.Goals as goal

pub loop-row-preserved : goal.loop-row-preserved
loop-row-preserved c =
    let v = c.loop-row.invariant in
    let row = c.loop-row.row in
    let degrees = c.args.degrees.now in
    let singles = c.loop-row.singles.rows in
    let pairs = c.loop-row.pairs.rows in
    let new_singles = c.push_of_degree.new.self.rows in
    let new_pairs = c.push_of_degree-in-loop-row.new.self.rows in
    let inside : row < length degrees = omega (arith, c.loop-row-test.true) in
    record {
      single_room = omega (arith, c.push_of_degree.ensures.room, v.single_room);
      pair_room = omega (arith, c.push_of_degree-in-loop-row.ensures.room, v.pair_room);
      singles_below = added_below (length degrees) row singles new_singles c.push_of_degree.ensures.added inside v.singles_below;
      pairs_below = added_below (length degrees) row pairs new_pairs c.push_of_degree-in-loop-row.ensures.added inside v.pairs_below;
      single = λ r l e.
          elim (cases_lt r row) [
            | inl before ↦ added_contains row r singles new_singles c.push_of_degree.ensures.added (v.single r before e)
            | inr here ↦
                let is : r ≡ row = omega arith in
                let one : at degrees row ≡ 1 = ap (at degrees) (sym is) ∙ e in
                subst (Contains new_singles) (sym is) (c.push_of_degree.ensures.there one)
          ];
    }
