use Rattle.std.proofs.Common.{◌≡◌, ap, subst, ◌∙◌, Some}
use Rattle.std.specs.Io.{StartsWith}
use Rattle.rq_cells.specs.Cells.{head_at}
use Rattle.rq_cells.proofs.Beginnings.{begins}
use Rattle.rq_cells.proofs.Scanning.{head_at-front}
use Rattle.rq_cells.proofs.scanner.CellScanner.remember.Goals as goal

pub invariant_of-self : goal.invariant_of-self
invariant_of-self c = λ xs test.
    let key = c.self.inside.key in
    let bytes = c.args.bytes.now in
    let read : head_at key bytes ≡ Some c.args.head.now = ap (λ s. head_at s.key bytes) c.self.view_is ∙ c.requires.head in
    head_at-front key xs bytes c.requires.long (subst (StartsWith xs) c.part.ensures (begins xs c.part.result test)) ∙ read
