use Rattle.std.proofs.Common.{sym, ap, subst, ◌∙◌}
use Rattle.std.specs.Prelude.{IfSome}
use Rattle.rq_cells.specs.Cells.{head_at}
use Rattle.rq_cells.specs.Scans.{IsKnown}
use Rattle.rq_cells.proofs.scanner.CellScanner.known_head.Goals as goal

pub returns-in-Some : goal.returns-in-Some
returns-in-Some c =
    let bytes = c.args.bytes.now in
    let known = subst (λ o. IfSome o (IsKnown c.self.inside.key)) c.in-Some.is c.self.invariant in
    ap (λ s. head_at s.key bytes) (sym c.self.view_is) ∙ known bytes (sym c.starts_with.ensures.value ∙ c.if-starts_with.true)
