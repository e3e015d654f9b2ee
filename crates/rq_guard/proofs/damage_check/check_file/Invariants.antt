use Rattle.std.proofs.Common.{◌≡◌, [], take}
use Rattle.rq_guard.specs.Checking.{ArePartDamages}
use Rattle.rq_guard.proofs.damage_check.check_file.Given as goal

-- the parts so far
abbrev pub invariant-loop-i : goal.invariant-loop-i
invariant-loop-i g l = record {
  parts : ArePartDamages [] (take l.i l.lists) (g.F.Read.remaining l.fn.file.inner) (g.F.Read.remaining l.file.inner) l.parts.items;
  count : l.file.failed ≡ l.fn.file.failed;
}
