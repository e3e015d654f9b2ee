use Rattle.std.proofs.Common.{Option, subst}
use Rattle.std.specs.Prelude.{IfSome}
use Rattle.rq_guard.specs.declared.list.DigestList.{DigestList}
use Rattle.rq_guard.specs.Lists.{listed_of}
use Rattle.rq_guard.specs.Damage.{IsList}
use Rattle.rq_guard.proofs.reading_lists.list_of_part.Goals as goal

pub returns-clause-usable : goal.returns-clause-usable
returns-clause-usable c = subst (λ (o : Option DigestList). IfSome o (λ l. IsList (listed_of l))) c.in-Some.is c.in_ok-list.ensures.usable
