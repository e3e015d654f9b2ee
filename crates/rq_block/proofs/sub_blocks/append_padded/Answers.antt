use Rattle.std.proofs.Common.{◌+◌, take, replicate, ap, ◌∙◌, ◌-◌, ◌++◌}
use Rattle.rq_block.proofs.Interleaving.{padded_more, grown_ok}
use Rattle.rq_block.proofs.sub_blocks.append_padded.Goals as goal

pub returns-clause-padded : goal.returns-clause-padded
returns-clause-padded c =
    let ys = c.extend_by_pieces.new.bytes in
    let whole = c.len.result + c.args.width in
    grown_ok c.resize.result ys.items c.resize.new.self.items _ _ c.resize.ensures.items
    (ap (λ n. take whole ys.items ++ replicate (whole - n) 0) ys.ok.0
    ∙ padded_more c.args.block.now c.args.symbol.now.items ys.items c.args.place c.args.width c.min-start.result c.min-end.result whole c.min-start.ensures c.min-end.ensures c.in_ok-extend_by_pieces.ensures.all (ap (λ n. n + c.args.width) (c.len.ensures ∙ c.args.symbol.now.ok.0)))
