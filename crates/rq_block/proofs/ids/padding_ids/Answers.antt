use Rattle.std.proofs.Common.{◌≡◌, ◌-◌, ap, ◌∙◌, arith}
use Rattle.std.specs.List.{range_with_len}
use Rattle.rq_block.proofs.NumberRanges.{range-more}
use Rattle.rq_block.proofs.ids.padding_ids.Goals as goal

pub loop-id-preserved : goal.loop-id-preserved
loop-id-preserved c = range-more c.args.source_symbols c.loop-id.id c.loop-id.ids.items c.push.new.self.items c.loop-id.auto.id c.loop-id.invariant c.in_ok-push.ensures.items

pub returns : goal.returns
returns c =
    let count : c.loop-id.id - c.args.source_symbols ≡ c.args.row.now.numbers.extended_symbols - c.args.source_symbols = omega (arith, c.loop-id.auto.id-end c.requires) in
    c.loop-id.invariant ∙ ap (range_with_len c.args.source_symbols) count
