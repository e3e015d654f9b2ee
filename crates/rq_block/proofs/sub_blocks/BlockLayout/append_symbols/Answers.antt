use Rattle.std.proofs.Common.{◌≡◌, ◌+◌, ◌*◌, ◌++◌, refl, sym, ap, ◌∙◌, get_or, map}
use Rattle.std.specs.List.{range_with_len}
use Rattle.std.proofs.lemmas.Result.{on_ok_weaker}
use Rattle.rq_standard.specs.Cutting.{symbol_of_block}
use Rattle.rq_block.proofs.Interleaving.{pieces_more, plain_block}
use Rattle.rq_block.proofs.sub_blocks.BlockLayout.append_symbols.Goals as goal

pub returns-then-sub_block_size-size : goal.returns-then-sub_block_size-size
returns-then-sub_block_size-size c =
    let layout = c.args.self.now in
    let config = layout.config in
    let block = c.args.block.now in
    let size : c.from-size.result ≡ config.symbol_size = c.from-size.ensures ∙ c.symbol_size.ensures in
    let single = sym c.sub_block_size.ensures ∙ c.if-sub_block_size-size.true ∙ size in
    on_ok_weaker c.append_padded.result
    (λ is. is ∙ ap (λ n. c.args.bytes.now.items ++ map (λ i. get_or block (0 + i) 0) (range_with_len 0 (layout.source_symbols * n))) size ∙ ap (λ xs. c.args.bytes.now.items ++ xs) (plain_block config layout.source_symbols block layout.aligned single))
    c.append_padded.ensures.padded

pub loop-e-preserved : goal.loop-e-preserved
loop-e-preserved c =
    let layout = c.args.self.now in
    pieces_more (symbol_of_block layout.config layout.source_symbols c.args.block.now) c.loop-e.e c.args.bytes.now.items c.loop-e.bytes.items c.append_source_symbol.new.bytes.items _
    c.loop-e.invariant c.in_ok-append_source_symbol.ensures.symbol refl
