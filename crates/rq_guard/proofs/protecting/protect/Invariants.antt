use Rattle.std.proofs.Common.{◌≡◌, ◌-◌, ◌^◌, ◌≤◌}
use Rattle.rq_cast.specs.Output.{sink, CountsLost}
use Rattle.rq_guard.proofs.GuardSteps.{HasGuardedWhole}
use Rattle.rq_guard.proofs.protecting.protect.Given as goal

-- all that was read is guarded, in whole parts
abbrev pub invariant-parts : goal.invariant-parts
invariant-parts g l = record {
  made : HasGuardedWhole l.order l.key (g.R.Read.remaining l.fn.reader.inner) (g.R.Read.remaining l.reader.inner) (g.W.Write.contents (sink l.fn.output))
      (g.W.Write.contents (sink l.output)) l.file;
  few : l.file.names.count ≤ 2 ^ 30;
  reader : l.reader.failed ≡ l.fn.reader.failed;
  counts : CountsLost l.fn.output l.output 0 0;
}

abbrev pub decreases-parts : goal.decreases-parts
decreases-parts g l = 2 ^ 30 - l.file.names.count
