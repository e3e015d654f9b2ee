use Rattle.std.proofs.Common.{take, map}
use Rattle.std.specs.List.{concat}
use Rattle.sha2.specs.Hashers.{Holds512}
use Rattle.rq_guard.proofs.damage.seal_behind.Given as goal

-- the names so far are hashed
abbrev pub invariant-loop-list : goal.invariant-loop-list
invariant-loop-list l = Holds512 l.hasher (concat (map (λ m. m.head.name) (take l.list-index l.fn.before)))
