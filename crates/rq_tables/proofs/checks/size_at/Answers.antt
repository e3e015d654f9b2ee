use Rattle.std.proofs.Common.{◌∙◌}
use Rattle.rq_standard.specs.declared.p1_table.TheConstants.{P1_TABLE}
use Rattle.rq_tables.proofs.Lookups.{copied-get}
use Rattle.rq_tables.proofs.checks.size_at.Goals as goal

pub returns : goal.returns
returns c = c.copied.ensures ∙ copied-get P1_TABLE c.args.place c.get.result c.get.ensures.lookup
