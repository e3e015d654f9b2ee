use Rattle.std.proofs.Common.{◌∙◌, ap, arith, length}
use Rattle.rq_guard.proofs.ListedSymbols.{as_many}
use Rattle.rq_guard.specs.Lists.{listed_of}
use Rattle.rq_guard.proofs.damage.damaged_symbols.Goals as goal

pub damaged_among-requires-clause-each : goal.damaged_among-requires-clause-each
damaged_among-requires-clause-each c = ap length (c.as_slice.ensures.value ∙ c.in_ok-digests.ensures.digests) ∙ as_many (listed_of c.args.list.now) c.requires c.args.object.now

pub damaged_among-requires-clause-few : goal.damaged_among-requires-clause-few
damaged_among-requires-clause-few c =
    omega (
      arith,
      ap length (c.as_slice.ensures.value ∙ c.in_ok-digests.ensures.digests) ∙ as_many (listed_of c.args.list.now) c.requires c.args.object.now,
      c.requires.each,
      c.requires.few,
    )
