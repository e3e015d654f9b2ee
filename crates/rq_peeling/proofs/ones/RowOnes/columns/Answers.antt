-- What the check leaves to show of `ones::RowOnes::columns`.
use Rattle.std.proofs.Common.{sym, ap, ◌∙◌}
use Rattle.std.specs.List.{concat}
use Rattle.rq_peeling.proofs.RowLists.{lists_joined}
use Rattle.rq_peeling.proofs.ones.RowOnes.columns.Goals as goal

pub returns : goal.returns
returns c =
    c.as_slice.ensures.value
    ∙ sym (lists_joined c.self.inside.starts.items c.self.inside.columns.items c.self.invariant)
    ∙ ap concat c.self.view_is
