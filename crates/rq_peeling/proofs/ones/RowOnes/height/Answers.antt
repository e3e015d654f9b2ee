-- What the check leaves to show of `ones::RowOnes::height`.
use Rattle.std.proofs.Common.{length, sym, ap, ◌∙◌, ◌-◌, ℕ}
use Rattle.rq_parts.proofs.KeyedLists.{length-lists}
use Rattle.rq_peeling.proofs.ones.RowOnes.height.Goals as goal

pub returns : goal.returns
returns c =
    ap (λ (n : ℕ). n - 1) c.len.ensures
    ∙ ap (λ (n : ℕ). n - 1) c.self.inside.starts.ok.0
    ∙ sym (length-lists c.self.inside.starts.items c.self.inside.columns.items)
    ∙ ap length c.self.view_is
