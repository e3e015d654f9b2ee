-- Where the blocks of an object begin and end.
use Rattle.std.specs.Prelude.{ℕ, ◌+◌, ◌*◌, List, map, Result, Ok, Err, if◌then◌else◌, ◌==◌, nat_lt}
use Rattle.std.specs.List.{range_with_len}
use Rattle.rq_bytes.specs.declared.error.Error.{Error}
use Rattle.rq_bytes.specs.declared.error.Error.TheVariants.{SymbolSizeZero, SourceBlocksZero, TooManySymbols}
use Rattle.rq_standard.specs.declared.systematic_indices.TheConstants.{MAX_SOURCE_SYMBOLS_PER_BLOCK}
use Rattle.rq_standard.specs.Configuration.{Configuration, largest_block}
use Rattle.rq_standard.specs.Cutting.{block_symbols, symbols_before}

-- in bytes
abbrev pub block_range : Configuration → ℕ → ℕ × ℕ
block_range c b = (symbols_before c b * c.symbol_size, (symbols_before c b + block_symbols c b) * c.symbol_size)

abbrev pub block_offsets : Configuration → List (ℕ × ℕ)
block_offsets c = map (block_range c) (range_with_len 0 c.source_blocks)

-- in the order of the tests
abbrev pub checked_offsets : Configuration → Result (List (ℕ × ℕ)) Error
checked_offsets c =
    if c.symbol_size == 0 then Err SymbolSizeZero
    else if c.source_blocks == 0 then Err SourceBlocksZero
    else if nat_lt MAX_SOURCE_SYMBOLS_PER_BLOCK (largest_block c) then Err TooManySymbols
    else Ok (block_offsets c)
