-- What is damaged of parts one behind another.
use Rattle.std.proofs.Common.{ℕ, List, [], ◌∷◌, ◌++◌, Option, refl, sym, subst, append-nil, append_assoc}
use Rattle.rq_guard.specs.declared.list.DigestList.{DigestList}
use Rattle.rq_guard.specs.declared.damage_check.PartDamage.{PartDamage}
use Rattle.rq_guard.specs.Lists.{listed_of}
use Rattle.rq_guard.specs.Reading.{names_listed}
use Rattle.rq_guard.specs.Checking.{IsPartDamage, ArePartDamages}

-- one more
pub damages_push : (lists : List DigestList) (l : DigestList) (names : List (List ℕ)) (before mid after : Option (List ℕ)) (ds : List PartDamage) (d : PartDamage)
    → ArePartDamages names lists before mid ds → IsPartDamage (names ++ names_listed lists) (listed_of l) mid after d
    → ArePartDamages names (lists ++ l ∷ []) before after (ds ++ d ∷ [])
damages_push [] l names before mid after ds d are is =
    subst (λ xs. ArePartDamages names (l ∷ []) before after (xs ++ d ∷ [])) (sym are.0)
    (after, subst (λ (ns : List (List ℕ)). IsPartDamage ns (listed_of l) before after d) (append-nil names) (subst (λ m. IsPartDamage (names ++ []) (listed_of l) m after d) are.1 is), (refl, refl))
damages_push (x ∷ lists) l names before mid after [] d are is = absurd are
damages_push (x ∷ lists) l names before mid after (e ∷ ds) d (m, first, rest) is = (
  m,
  first,
  damages_push lists l (names ++ (x.head.name ∷ [])) m mid after ds d rest
      (subst (λ (ns : List (List ℕ)). IsPartDamage ns (listed_of l) mid after d) (sym (append_assoc names (x.head.name ∷ []) (names_listed lists))) is),
)
