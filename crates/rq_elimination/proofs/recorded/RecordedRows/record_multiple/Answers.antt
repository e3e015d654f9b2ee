-- What the check leaves to show of `recorded::RecordedRows::record_multiple`.
use Rattle.std.proofs.Common.{refl, sym}
use Rattle.rq_elimination.proofs.RecordedLaws.{sum_counted, sum_recorded}
use Rattle.rq_elimination.proofs.recorded.RecordedRows.record_multiple.Goals as goal

pub returns-clause-recorded : goal.returns-clause-recorded
returns-clause-recorded c = sum_recorded c.args.self.now _ _ c.in_ok-push.ensures c.args.dest c.requires.dest c.args.scalar c.args.src (λ e. c.requires.two (sym e)) c.requires.src c.addition.ensures refl

pub returns-clause-counted : goal.returns-clause-counted
returns-clause-counted c = sum_counted c.args.self.now.operations _ _ c.in_ok-push.ensures c.args.dest c.args.src c.args.scalar c.addition.ensures
