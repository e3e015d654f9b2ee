-- What the check leaves to show of `recorded::RecordedRows::add_multiple`.
use Rattle.std.proofs.Common.{sym}
use Rattle.rq_elimination.proofs.RecordedLaws.{sum_counted, sum_performed}
use Rattle.rq_elimination.proofs.recorded.RecordedRows.add_multiple.Goals as goal

pub returns-clause-added : goal.returns-clause-added
returns-clause-added c = sum_performed c.args.self.now _ _ c.in_ok-push.ensures c.args.dest c.requires.dest c.args.scalar c.requires.scalar c.args.src (λ e. c.requires.two (sym e)) c.requires.src c.addition.ensures c.in_ok-add_multiple.ensures.ok

pub returns-clause-counted : goal.returns-clause-counted
returns-clause-counted c = sum_counted c.args.self.now.operations _ _ c.in_ok-push.ensures c.args.dest c.args.src c.args.scalar c.addition.ensures
