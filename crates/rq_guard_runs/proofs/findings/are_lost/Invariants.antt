use Rattle.std.proofs.Common.{◌≡◌, drop}
use Rattle.rq_guard_runs.specs.Found.{are_lost}
use Rattle.rq_guard_runs.proofs.findings.are_lost.Given as goal

-- so it is of all parts where it is of those that are left
abbrev pub invariant-loop-i : goal.invariant-loop-i
invariant-loop-i l = are_lost l.lists l.parts ≡ are_lost (drop l.i l.lists) (drop l.i l.parts)
