-- What is encoded of the blocks of an object.
use Rattle.std.specs.Prelude.{ℕ, List, map}
use Rattle.std.specs.List.{range_with_len}
use Rattle.rq_standard.specs.declared.row.TableRow.{TableRow}
use Rattle.rq_standard.specs.Configuration.{Configuration}
use Rattle.rq_standard.specs.Headline.{block_row, block_source}
use Rattle.rq_block.specs.SourceBlockEncoder.{BlockEncoded}

-- what is encoded of a block of this object, over this table
abbrev pub new_block_encoded : List TableRow → Configuration → List ℕ → ℕ → BlockEncoded
new_block_encoded table c object b = record { number = b; row = block_row table c b; size = c.symbol_size; source = block_source c object b }

-- what is encoded of all blocks of this object
abbrev pub blocks_encoded : List TableRow → Configuration → List ℕ → List BlockEncoded
blocks_encoded table c object = map (new_block_encoded table c object) (range_with_len 0 c.source_blocks)
