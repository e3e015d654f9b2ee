-- What the check leaves to show of `ones::RowOnes::len`.
use Rattle.std.proofs.Common.{ℕ, List, length, sym, ap, ◌∙◌}
use Rattle.std.specs.List.{sum_by}
use Rattle.rq_peeling.proofs.RowLists.{ones_counted}
use Rattle.rq_peeling.proofs.ones.RowOnes.len.Goals as goal

pub returns : goal.returns
returns c =
    c.len.ensures
    ∙ c.self.inside.columns.ok.0
    ∙ sym (ones_counted c.self.inside.starts.items c.self.inside.columns.items c.self.invariant)
    ∙ ap (λ (lists : List (List ℕ)). sum_by length lists) c.self.view_is
