use Rattle.std.proofs.Common.{◌≡◌, ◌*◌, ◌++◌, length, ap, sym, ◌∙◌}
use Rattle.rq_bytes.specs.Ranges.{cut}
use Rattle.rq_bytes.specs.SymbolSlab.{slab_of}
use Rattle.rq_block.specs.BlockLayout.{bytes_by}
use Rattle.rq_block.proofs.Interleaving.{cut-bytes_by, length-bytes_by}
use Rattle.rq_block.proofs.sub_blocks.BlockLayout.symbols_of_block.Goals as goal
use Rattle.rq_block.proofs.sub_blocks.BlockLayout.symbols_of_block.Goals.{In_ok-append_symbols}

module _ (c : In_ok-append_symbols) where
  size_is : c.from-size.result ≡ c.args.self.now.config.symbol_size
  size_is = c.from-size.ensures ∙ c.symbol_size.ensures

  appended : c.append_symbols.new.bytes.items ≡ bytes_by c.args.self.now c.args.block.now
  appended = c.in_ok-append_symbols.ensures ∙ ap (λ xs. xs ++ bytes_by c.args.self.now c.args.block.now) c.in_ok-bytes.ensures.items

pub from_bytes-requires : goal.from_bytes-requires
from_bytes-requires c =
    let layout = c.args.self.now in
    ap length (appended c) ∙ length-bytes_by layout c.args.block.now ∙ ap (λ n. layout.source_symbols * n) (sym (size_is c))

pub returns-clause-symbols : goal.returns-clause-symbols
returns-clause-symbols c =
    let layout = c.args.self.now in
    let at = (goal.at.returns-clause-symbols c).In_ok-append_symbols in
    c.from_bytes.ensures
    ∙ ap (λ n. slab_of n (cut layout.source_symbols n c.append_symbols.new.bytes.items)) (size_is at)
    ∙ ap (λ xs. slab_of layout.config.symbol_size (cut layout.source_symbols layout.config.symbol_size xs)) (appended at)
    ∙ ap (slab_of layout.config.symbol_size) (cut-bytes_by layout c.args.block.now)
