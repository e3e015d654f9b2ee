-- How a source block is cut, and what slabs have of a block that is cut so.
use Rattle.std.specs.Prelude.{ℕ, ◌-◌, ◌++◌, List, Option, length, replicate}
use Rattle.std.specs.List.{flat_map, range_with_len}
use Rattle.rq_standard.specs.Cutting.{symbol_of_block}
use Rattle.rq_bytes.specs.SymbolSlab.{Slab, slab_of, symbol_in}
use Rattle.rq_standard.specs.declared.row.TableRow.{TableRow}
use Rattle.rq_standard.specs.Headline.{IsOnlyIntermediateColumn}
use Rattle.rq_standard.specs.Joining.{symbols_of_block}
use Rattle.rq_block.specs.declared.sub_blocks.BlockLayout.{BlockLayout}
use Rattle.rq_block.specs.Planned.{source_values}
use Rattle.rq_block.specs.SubBlocks.{parts_of_symbols}

-- the symbols of a block that is cut so
abbrev pub cut_by : BlockLayout → List ℕ → List (List ℕ)
cut_by layout = symbols_of_block layout.config layout.source_symbols

-- these symbols, one after another
abbrev pub bytes_by : BlockLayout → List ℕ → List ℕ
bytes_by layout block = flat_map (symbol_of_block layout.config layout.source_symbols block) (range_with_len 0 layout.source_symbols)

-- of each of its symbols the bytes of a width from one on
abbrev pub parts_by : BlockLayout → (ℕ → Option (List ℕ)) → ℕ → ℕ → List ℕ
parts_by layout symbol = parts_of_symbols symbol layout.source_symbols

-- `count` symbols: these from `start` on, and zeros in all other places
abbrev pub among_zeros : ℕ → ℕ → ℕ → List (List ℕ) → List (List ℕ)
among_zeros size start count values = replicate start (replicate size 0) ++ (values ++ replicate (count - start - length values) (replicate size 0))

-- the slab of `count` symbols that has a block's from `start` on, and zeros in all other places
abbrev pub slab_among_zeros : BlockLayout → ℕ → ℕ → List ℕ → Slab
slab_among_zeros layout start count block =
    let size = layout.config.symbol_size in
    slab_of size (among_zeros size start count (cut_by layout block))

-- the values of the equations of a block: its symbols, and zeros
abbrev pub values_by : TableRow → BlockLayout → List ℕ → Slab
values_by row layout block =
    let size = layout.config.symbol_size in
    slab_of size (source_values row size (cut_by layout block))

-- a slab has a block's only intermediate symbols
abbrev pub HasOnlyColumn : TableRow → BlockLayout → List ℕ → Slab → Type 0
HasOnlyColumn row layout block slab = IsOnlyIntermediateColumn row layout.config.symbol_size (cut_by layout block) (symbol_in slab)
