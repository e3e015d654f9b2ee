-- What the check leaves to show of `ones::RowOnes::of_matrix`.
use Rattle.std.proofs.Common.{◌≡◌, ◌+◌, ◌++◌, ◌∷◌, [], ◌∙◌, ap, length, subst, arith, ℕ}
use Rattle.std.proofs.lemmas.List.{length-append}
use Rattle.rq_parts.specs.ImmutableListMap.{lists_between}
use Rattle.rq_parts.proofs.KeyedLists.{length-lists}
use Rattle.rq_peeling.specs.RowOnes.{AreOnesOfRows}
use Rattle.rq_peeling.proofs.RowLists.{between_next, counts_next, ones_next}
use Rattle.rq_peeling.proofs.ones.RowOnes.of_matrix.Goals as goal

pub loop-row-preserved : goal.loop-row-preserved
loop-row-preserved g c =
    let content = g.T.BinaryMatrix.content c.args.bits.now in
    let v = c.loop-row.invariant in
    let added = c.in_ok-push_ones.ensures.ones in
    let old = c.loop-row.columns.items in
    let new = c.push_ones.new.columns.items in
    let starts = c.loop-row.starts.items in
    let count : c.len.result ≡ length new = c.len.ensures ∙ c.push_ones.new.columns.ok.0 in
    let counts = c.loop-row.counts.items in
    let before = c.in_ok-push_ones.field-0 in
    let here : c.push-in-loop-row-2.new.self.items ≡ starts ++ length new ∷ [] = rw count at c.in_ok-push-3.ensures.items in
    let counted : c.push-in-loop-row.new.self.items ≡ counts ++ before ∷ [] = c.in_ok-push-2.ensures.items in
    rw (here, counted)
    (record {
      between = between_next old new added.kept starts v.between;
      ones = ones_next old new added.kept starts v.between content.width c.loop-row.row content.bit v.ones added.ones;
      rows = length-append counts (before ∷ []) ∙ ap (λ (n : ℕ). n + 1) v.rows;
      counted = counts_next old new added.kept starts v.between c.args.lt_columns before counts (omega (arith, v.rows, v.ones.count, length-lists starts old, v.between.rise.some)) v.counted c.in_ok-push_ones.ensures.counted;
    })

pub returns-clause-ones : goal.returns-clause-ones
returns-clause-ones g c =
    let content = g.T.BinaryMatrix.content c.args.bits.now in
    let all : c.loop-row.row ≡ content.height = omega (arith, c.loop-row-test.false, c.loop-row.auto, c.height-row-end.ensures.height) in
    subst (λ (n : ℕ). AreOnesOfRows n content.width content.bit (lists_between c.loop-row.starts.items c.loop-row.columns.items)) all c.loop-row.invariant.ones
