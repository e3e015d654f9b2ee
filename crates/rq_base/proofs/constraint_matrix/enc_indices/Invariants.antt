use Rattle.std.proofs.Common.{length}
use Rattle.std.specs.List.{FoldsTo}
use Rattle.rq_standard.specs.Tuple.{enc_indices}
use Rattle.rq_base.specs.Calls.{CallableAlong}
use Rattle.rq_base.proofs.constraint_matrix.enc_indices.Given as goal

abbrev pub invariant-loop-index : goal.invariant-loop-index
invariant-loop-index g l =
    CallableAlong (λ p x. goal.F-pre g p x) (λ p x q. goal.F-step g p x tt q) l.f l.indices
    × ((last : _) → FoldsTo (λ p x q. goal.F-step g p x tt q) l.f l.indices last → FoldsTo (λ p x q. goal.F-step g p x tt q) l.fn.f (enc_indices l.fn.lt_symbols l.fn.pi_symbols l.fn.p1 l.fn.source_tuple) last)

abbrev pub decreases-loop-index : goal.decreases-loop-index
decreases-loop-index g l = length l.indices
