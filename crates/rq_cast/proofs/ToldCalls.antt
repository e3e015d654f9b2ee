-- Calls that are told one after another.
use Rattle.std.proofs.Common.{◌≡◌, ◌+◌, List, [], ◌∷◌, ◌++◌, Option, Some, None, sym, subst, ap, ◌∙◌, arith, append-nil, append_assoc}
use Rattle.rq_cast.specs.Calls.{Call, lost_by, lost_in, Tells}

pub tells_none : (told : Option (List Call)) → Tells told told []
tells_none None = tt
tells_none (Some told) = ap (λ calls. Some calls) (sym (append-nil told))

pub tells_same : (told told' told'' : Option (List Call)) (calls : List Call) → told' ≡ told → Tells told' told'' calls → Tells told told'' calls
tells_same told told' told'' calls same more = subst (λ before. Tells before told'' calls) same more

pub tells_then : (told told' told'' : Option (List Call)) (calls more : List Call) → Tells told told' calls → Tells told' told'' more → Tells told told'' (calls ++ more)
tells_then None told' told'' calls more first next = tt
tells_then (Some told) told' told'' calls more first next =
    let behind : told'' ≡ Some ((told ++ calls) ++ more) = subst (λ between. Tells between told'' more) first next in
    behind ∙ ap (λ all. Some all) (append_assoc told calls more)

-- the lost ones of both
pub lost_in-append : (calls more : List Call) → lost_in (calls ++ more) ≡ lost_in calls + lost_in more
lost_in-append [] more = omega arith
lost_in-append (call ∷ calls) more =
    let next = lost_in-append calls more in
    let sum : lost_by call + lost_in (calls ++ more) ≡ (lost_by call + lost_in calls) + lost_in more = omega (arith, next) in
    sum
