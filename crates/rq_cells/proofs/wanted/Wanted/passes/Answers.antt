use Rattle.std.proofs.Common.{◌∙◌, nat_eq}
use Rattle.std.specs.List.{starts_with}
use Rattle.rq_cells.proofs.Passed.{any_in}
use Rattle.rq_cells.proofs.wanted.Wanted.passes.Goals as goal

pub returns : goal.returns
returns c = c.begins_with_one.ensures ∙ any_in (λ v. v.items) (λ begins. starts_with nat_eq c.args.stream.now begins) c.args.self.now.passed.now
