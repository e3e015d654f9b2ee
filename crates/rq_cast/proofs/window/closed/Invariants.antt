use Rattle.std.proofs.Common.{◌≡◌, None, replicate}
use Rattle.rq_cast.proofs.window.closed.Given as goal

-- the places so far
abbrev pub invariant-loop-place : goal.invariant-loop-place
invariant-loop-place l = l.parts.items ≡ replicate l._place None
