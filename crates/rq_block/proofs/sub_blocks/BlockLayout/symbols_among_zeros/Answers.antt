use Rattle.std.proofs.Common.{◌≡◌, ◌-◌, ◌*◌, [], ◌++◌, length, take, replicate, ap, sym, ◌∙◌}
use Rattle.rq_bytes.specs.Ranges.{cut}
use Rattle.rq_bytes.specs.SymbolSlab.{slab_of}
use Rattle.rq_block.specs.BlockLayout.{among_zeros, bytes_by}
use Rattle.rq_block.proofs.Interleaving.{cut-bytes_by, filled_around, length-bytes_by, zeros_around}
use Rattle.rq_block.proofs.sub_blocks.BlockLayout.symbols_among_zeros.Goals as goal

pub returns : goal.returns
returns c =
    let layout = c.args.self.now in
    let start = c.args.start in
    let count = c.args.count in
    let n = layout.source_symbols in
    let size = c.from-size.result in
    let bytes = bytes_by layout c.args.block.now in
    let two = c.append_symbols.new.bytes in
    let empty = c.in_ok-bytes.ensures in
    let size_is : size ≡ layout.config.symbol_size = c.from-size.ensures ∙ c.symbol_size.ensures in
    let none : c.in_ok-bytes.bytes.len ≡ 0 = c.in_ok-bytes.bytes.ok.0 ∙ ap length empty in
    let long : length bytes ≡ n * size = length-bytes_by layout c.args.block.now ∙ ap (λ z. n * z) (sym size_is) in
    let first = c.in_ok-resize.ensures.items
    ∙ ap (λ xs. take (start * size) xs ++ replicate (start * size - c.in_ok-bytes.bytes.len) 0) empty
    ∙ ap (λ k. take (start * size) [] ++ replicate (start * size - k) 0) none in
    let filled = filled_around size start count n two.len bytes c.resize.new.self.items two.items c.resize-2.new.self.items long c.requires.fits two.ok.0 first c.in_ok-append_symbols.ensures c.in_ok-resize-2.ensures.items in
    c.from_bytes.ensures
    ∙ ap (slab_of size) (zeros_around size start count n bytes c.resize-2.new.self.items long c.requires.fits filled)
    ∙ ap (λ z. slab_of z (among_zeros z start count (cut n z bytes))) size_is
    ∙ ap (λ xs. slab_of layout.config.symbol_size (among_zeros layout.config.symbol_size start count xs)) (cut-bytes_by layout c.args.block.now)
