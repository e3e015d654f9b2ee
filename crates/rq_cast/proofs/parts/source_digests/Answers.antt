use Rattle.std.proofs.Common.{◌++◌, ap, ◌∙◌}
use Rattle.rq_cast.proofs.SymbolDigests.{block_digests, digests_of_block, digests_next}
use Rattle.rq_cast.proofs.parts.source_digests.Goals as goal

pub loop-number-preserved : goal.loop-number-preserved
loop-number-preserved c =
    let k = c.args.config.now in
    let object = c.args.object.now in
    let n = c.loop-number.number in
    c.in_ok-push_block.ensures
    ∙ ap (λ xs. c.loop-number.digests.items ++ xs)
    (digests_of_block k object n c.block_symbols.result c.bytes_of_block-block.result.now c.block_symbols.ensures c.bytes_of_block-block.ensures)
    ∙ ap (λ xs. xs ++ block_digests k object n) c.loop-number.invariant ∙ digests_next k object n
