use Rattle.std.proofs.Common.{ap, ◌∙◌}
use Rattle.rq_block.proofs.CacheLaws.{held_at, held_by}
use Rattle.rq_block.proofs.encoder.cache.SourceBlockEncodingPlanCache.contains.Goals as goal

pub returns : goal.returns
returns c = c.is_some.ensures ∙ held_by c.args.self.now.counts c.args.count c.index_of.result (c.index_of.ensures ∙ ap (held_at c.args.count) c.self.view_is)
