-- What the check leaves to show of `column_rows::column_ends`.
use Rattle.std.proofs.Common.{◌≡◌, ℕ, ◌<◌, ◌==◌, List, All, cond, count_by, length, replicate, sym, ap, ◌∙◌, subst, arith}
use Rattle.std.specs.List.{sum}
use Rattle.std.proofs.lemmas.List.{get_or-replicate}
use Rattle.std.proofs.lemmas.List.Folds.{sum_by-replicate}
use Rattle.rq_algebra.specs.Systems.{at}
use Rattle.rq_peeling.proofs.ColumnPlacing.{written_back}
use Rattle.rq_peeling.proofs.Counting.{All-concat, length-concat, sum_by-concat}
use Rattle.rq_peeling.proofs.column_rows.column_ends.Goals as goal

pub count_columns-requires-clause-columns : goal.count_columns-requires-clause-columns
count_columns-requires-clause-columns c =
    let lists = c.args.ones.now in
    let ends = c.as_mut_slice.result.now in
    let wide : c.args.width ≡ length ends = omega (arith, c.in_ok-ends.ensures.len, c.in_ok-ends.ends.ok.0, ap length c.as_mut_slice.ensures.value) in
    let columns : All (λ row. All (λ column. column < length ends) row) lists = subst (λ (n : ℕ). All (λ row. All (λ column. column < n) row) lists) wide c.requires.columns in
    subst (All (λ column. column < length ends)) (sym c.columns.ensures) (All-concat (λ column. column < length ends) lists columns)

pub returns-clause-ends : goal.returns-clause-ends
returns-clause-ends c =
    let lists = c.args.ones.now in
    let ends = c.in_ok-ends.ends in
    let counts = c.count_columns.new.counts in
    let sums = c.add_up.new.numbers in
    let zeros : c.as_mut_slice.result.now ≡ replicate c.args.width 0 = c.as_mut_slice.ensures.value ∙ c.in_ok-ends.ensures.items_if_clones_equal (λ y same. same) in
    let long : length counts ≡ length ends.items = c.count_columns.ensures.long ∙ ap length c.as_mut_slice.ensures.value in
    let first = written_back ends.len ends.items counts ends.ok.0 long in
    let handed : c.as_mut_slice-2.result.now ≡ counts = c.as_mut_slice-2.ensures.value ∙ first in
    let same : length sums ≡ length counts = c.add_up.ensures.long ∙ ap length handed in
    let second = written_back ends.len counts sums (ends.ok.0 ∙ sym long) same in
    rw (first, second) (
      counts,
      record {
        long = same;
        counted = λ k l.
            let counted = c.count_columns.ensures.counted k (rw (← c.count_columns.ensures.long) l) in
            let zero : at c.as_mut_slice.result.now k ≡ 0 = ap (λ (ns : List ℕ). at ns k) zeros ∙ get_or-replicate c.args.width k 0 0 (omega (arith, l, long, c.in_ok-ends.ensures.len, ends.ok.0)) in
            let all = ap (count_by (λ column. column == k)) c.columns.ensures ∙ sum_by-concat (λ column. cond (column == k) 1 0) lists in
            omega (arith, counted, zero, all);
        sums = λ k l. rw (← handed) (c.add_up.ensures.sums k (rw handed l));
        all =
            let none : sum c.as_mut_slice.result.now ≡ 0 = ap sum zeros ∙ sum_by-replicate (λ (n : ℕ). n) c.args.width 0 ∙ omega arith in
            omega (arith, c.count_columns.ensures.sum, none, ap length c.columns.ensures, length-concat lists);
      },
    )
