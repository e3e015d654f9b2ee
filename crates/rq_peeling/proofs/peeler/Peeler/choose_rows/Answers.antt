-- What the check leaves to show of `peeler::Peeler::choose_rows`.
use Rattle.std.proofs.Common.{◌≡◌, ℕ, ◌<◌, ◌∷◌, [], All, Bor, length, subst, ◌∙◌, arith}
use Rattle.std.proofs.lemmas.List.{length-append}
use Rattle.rq_peeling.specs.RowDegrees.{AllHaveNone, CountsActive, HasFewestLeft, HasLeastDegree}
use Rattle.rq_peeling.specs.ColumnState.{TakesRow}
use Rattle.rq_peeling.specs.RowOnes.{ones_of}
use Rattle.rq_peeling.specs.declared.system.System.{System}
use Rattle.rq_peeling.proofs.ActiveOnes.{all_done, columns_next, fewest_left, left_next, none_left, each_taken_more}
use Rattle.rq_peeling.proofs.PeelingLaws.{columns_below, peeled_next}
use Rattle.rq_peeling.proofs.peeler.Peeler.choose_rows.Goals as goal
use Rattle.rq_peeling.proofs.peeler.Peeler.choose_rows.Goals.{else-loop-turn-test, then-loop-turn-test+in_ok-row+in_default}

pub loop-turn-preserved : goal.loop-turn-preserved
loop-turn-preserved c =
    let s = c.args.self.now.system.now in
    let v = c.loop-turn.invariant in
    let cur = c.loop-turn.self in
    let new = c.take_next.new.self in
    let taken = c.loop-turn.rows.items in
    let row = c.in-Some.row in
    let all = columns_below s.width s.ones s.bits in
    let long : length cur.degrees ≡ length s.ones = subst (λ (b : Bor System). length cur.degrees ≡ length b.now.ones) v.system cur.row_count in
    let width : length cur.columns.order ≡ s.width = subst (λ (b : Bor System). length cur.columns.order ≡ b.now.width) v.system cur.column_count in
    let least : HasLeastDegree cur.degrees row = rw c.in-Some.is at c.in_ok-row.ensures.row in
    let takes : TakesRow (ones_of s.ones row) cur.columns new.columns = rw (c.in-Some.is, v.system) at c.in_ok-row.ensures.taken in
    let counted : CountsActive s.ones new.columns new.degrees = rw (c.in-Some.is, v.system) at c.in_ok-row.ensures.counted in
    let in_lists : row < length s.ones = omega (arith, least.below, long) in
    let within : All (λ row. All (λ column. column < length cur.columns.order) row) s.ones = rw width all in
    let pick = fewest_left s.ones s.lt_columns s.width taken cur.columns all v.chosen.left cur.degrees long v.chosen.counts row least in
    let were = λ (j : ℕ) (m : j < length cur.columns.order). v.chosen.left j (rw width at m) in
    let grown = length-append taken (row ∷ []) in
    rw c.in_ok-push.ensures.items (record {
      chosen = record {
        so = peeled_next s.ones taken cur.columns new.columns within v.chosen.so row in_lists takes;
        end = omega (arith, takes.ends.fewer, v.chosen.end);
        left = λ k l. left_next s.ones s.lt_columns taken row cur.columns new.columns takes were k (rw width l);
        counts = counted;
        fewest = each_taken_more (λ _ rows r. HasFewestLeft s.ones s.lt_columns rows r) taken row v.chosen.fewest pick;
        columns = columns_next s.ones s.lt_columns taken row cur.columns new.columns takes were within in_lists v.chosen.so.count v.chosen.columns;
      };
      turns = omega (arith, grown, v.turns);
      system = c.take_next.ensures.system ∙ v.system;
    })

pub returns-clause-fewest : goal.returns-clause-fewest
returns-clause-fewest c =
    let s = c.args.self.now.system.now in
    let v = c.loop-turn.invariant in
    let cur = c.loop-turn.self in
    let taken = c.loop-turn.rows.items in
    let all = columns_below s.width s.ones s.bits in
    let long : length cur.degrees ≡ length s.ones = subst (λ (b : Bor System). length cur.degrees ≡ length b.now.ones) v.system cur.row_count in
    record {
      each = v.chosen.fewest;
      last = elim c.loop-turn-test.branch [
        | else-loop-turn-test w ↦
            none_left s.ones s.lt_columns s.width taken cur.columns all v.chosen.left
            (λ k a. let from = a.from in let below = a.below in omega (arith, from, below, v.chosen.end, v.turns, v.chosen.so.count, w.loop-turn-test.false, c.loop-turn.auto.turn-end))
        | then-loop-turn-test+in_ok-row+in_default w ↦
            let none : AllHaveNone cur.degrees = rw w.in_default.is at w.in_ok-row.ensures.none in
            all_done s.ones s.lt_columns s.width taken cur.columns all v.chosen.left cur.degrees long v.chosen.counts none
      ];
    }
