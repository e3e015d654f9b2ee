-- What the check leaves to show of `row_selection::FirstPhaseRowSelectionStats::swap_rows`.
use Rattle.std.proofs.Common.{ℕ, List, sym, ap, subst, ◌∙◌}
use Rattle.std.specs.List.{swap}
use Rattle.rq_standard.specs.BitTableSteps.{SwapsRows}
use Rattle.rq_peeling.specs.FirstPhaseRowSelectionStats.{RowCounts, KeepsCounts}
use Rattle.rq_peeling.proofs.RowCounts.{rows_swapped}
use Rattle.rq_peeling.proofs.row_selection.FirstPhaseRowSelectionStats.swap_rows.Goals as goal

pub returns-clause-counted : goal.returns-clause-counted
returns-clause-counted c =
    let s = c.self.inside in
    let swapped =
    ap (λ (ones : List ℕ). record { start_row = s.start_row; start_col = s.start_col; end_col = s.end_col; ones = ones }) c.swap.ensures.items
    ∙ ap (λ (t : RowCounts). record t { ones = swap t.ones c.args.i c.args.j }) c.self.view_is
    in
    subst (KeepsCounts (λ m n. SwapsRows m c.args.i c.args.j n) c.args.self.now) (sym swapped) (rows_swapped c.args.self.now c.args.i c.args.j c.requires.first.0 c.requires.first.1 c.requires.second.0 c.requires.second.1)
