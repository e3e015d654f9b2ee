use Rattle.std.proofs.Common.{take, ap, sym, subst, ◌∙◌}
use Rattle.std.specs.List.{concat}
use Rattle.sha2.specs.Hashers.{Holds512}
use Rattle.rq_cast.proofs.names.Names.seal.Goals as goal

pub returns-clause-seal : goal.returns-clause-seal
returns-clause-seal c names are =
    c.first_bytes.ensures ∙ ap (take 32) (c.finalize.ensures (concat names) (subst (λ h. Holds512 h (concat names)) (sym c.in_ok-hash.ensures.cases) are.hashed))
