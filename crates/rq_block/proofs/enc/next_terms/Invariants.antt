use Rattle.std.proofs.Common.{◌≡◌, ◌++◌, take}
use Rattle.rq_block.proofs.enc.next_terms.Given as goal

-- the indices so far are listed
abbrev pub invariant-loop-count : goal.invariant-loop-count
invariant-loop-count l = l.fn.indices ≡ take l.count l.terms ++ l.indices
