-- What the check leaves to show of `recorded::RecordedRows::multiply_row`.
use Rattle.std.proofs.Common.{refl}
use Rattle.rq_elimination.proofs.RecordedLaws.{scaling_counted, scaling_performed}
use Rattle.rq_elimination.proofs.recorded.RecordedRows.multiply_row.Goals as goal

pub returns-clause-multiplied : goal.returns-clause-multiplied
returns-clause-multiplied c = scaling_performed c.args.self.now _ _ c.in_ok-push.ensures c.args.dest c.requires.dest c.args.scalar c.requires.scalar c.requires.nonzero refl c.in_ok-multiply_row.ensures.ok

pub returns-clause-counted : goal.returns-clause-counted
returns-clause-counted c = scaling_counted c.args.self.now.operations _ _ c.in_ok-push.ensures c.args.dest c.args.scalar refl
