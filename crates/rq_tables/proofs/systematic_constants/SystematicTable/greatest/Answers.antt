use Rattle.std.proofs.Common.{◌∙◌, sym, ap}
use Rattle.rq_standard.specs.TableRows.{greatest_size}
use Rattle.rq_tables.proofs.Lookups.{greatest_some, greatest_none}
use Rattle.rq_tables.proofs.systematic_constants.SystematicTable.greatest.Goals as goal

pub returns-in-Some-clause-size : goal.returns-in-Some-clause-size
returns-in-Some-clause-size c = greatest_some _ _ (sym c.in-Some.ensures.value) ∙ ap greatest_size (c.deref.ensures.value ∙ c.self.view_is)

pub returns-in-None-clause-size : goal.returns-in-None-clause-size
returns-in-None-clause-size c = greatest_none _ (sym c.in-None.ensures.value) ∙ ap greatest_size (c.deref.ensures.value ∙ c.self.view_is)
