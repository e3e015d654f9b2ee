use Rattle.std.proofs.Common.{sym, subst}
use Rattle.rq_bytes.specs.Refusals.{IsAnswer}
use Rattle.rq_rows.proofs.AllPass.{none_refused, pass}
use Rattle.rq_rows.proofs.full_table.Goals as goal

pub with_passing_rows-requires : goal.with_passing_rows-requires
with_passing_rows-requires c = none_refused

pub returns : goal.returns
unfolding Rattle.rq_rows.specs.FullTable.full_rows
returns c = subst (IsAnswer (λ t. t) c.with_passing_rows.result) (sym pass) c.with_passing_rows.ensures
