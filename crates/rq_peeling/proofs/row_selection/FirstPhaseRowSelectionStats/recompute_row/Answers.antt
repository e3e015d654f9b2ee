-- What the check leaves to show of `row_selection::FirstPhaseRowSelectionStats::recompute_row`.
use Rattle.std.proofs.Common.{◌≡◌, set, sym, ap, subst, ◌∙◌}
use Rattle.rq_peeling.specs.FirstPhaseRowSelectionStats.{RowCounts, KeepsCounts, ChangesRow, ones_in_range}
use Rattle.rq_peeling.proofs.RowCounts.{row_counted}
use Rattle.rq_peeling.proofs.row_selection.FirstPhaseRowSelectionStats.recompute_row.Goals as goal

pub returns-clause-counted : goal.returns-clause-counted
returns-clause-counted g c =
    let old = c.args.self.now in
    let row = c.args.row in
    let count = c.count_ones.result in
    let new = g.T.BinaryMatrix.content c.args.matrix.now in
    subst (KeepsCounts (λ m n. ChangesRow row m n × (n ≡ new)) old)
    (ap (λ (t : RowCounts). record t { ones = set t.ones row count }) (sym c.self.view_is))
    (row_counted old row count new c.requires.row (c.count_ones.ensures ∙ ap (λ (t : RowCounts). ones_in_range new t row) c.self.view_is))
