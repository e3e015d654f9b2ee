-- The header of a configuration: its numbers as C sees them, which ones are made, and whether coders take it.
use Rattle.std.specs.Prelude.{ℕ, ◌||◌, List, Result, Err, if◌then◌else◌, ◌==◌, nat_lt}
use Rattle.std.specs.Int.{div_ceil}
use Rattle.rq_bytes.specs.declared.error.Error.{Error}
use Rattle.rq_bytes.specs.declared.error.Error.TheVariants.{SymbolSizeZero, TransferLengthZero, TooManyBlocks}
use Rattle.rq_standard.specs.Configuration.{Configuration, configuration_of_bytes}
use Rattle.rq_standard.specs.TableRows.{greatest_size}
use Rattle.rq_base.specs.Defaults.{wanted_parameters}
use Rattle.rq_base.specs.RefusedInput.{checked_configuration, new_configuration}
use Rattle.raptorq_c.specs.declared.configurations.Parameters.{Parameters}
use Rattle.rq_rows.specs.FullTable.{full_rows}

abbrev pub parameters_of : Parameters → Configuration
parameters_of p = record {
  transfer_length = p.transfer_length;
  symbol_size = p.symbol_size;
  source_blocks = p.source_blocks;
  sub_blocks = p.sub_blocks;
  alignment = p.alignment;
}

-- how many blocks of at most so many symbols an object has
abbrev pub fewest_blocks : ℕ → ℕ → ℕ → ℕ
fewest_blocks object_length symbol_size most = div_ceil (div_ceil object_length symbol_size) most

-- an object cut into as few blocks as have at most so many symbols
abbrev pub cut_configuration : ℕ → ℕ → ℕ → Result Configuration Error
cut_configuration object_length symbol_size most =
    if symbol_size == 0 then Err SymbolSizeZero
    else if object_length == 0 then Err TransferLengthZero
    else if most == 0 || nat_lt 255 (fewest_blocks object_length symbol_size most) then Err TooManyBlocks
    else new_configuration (record {
      transfer_length = object_length;
      symbol_size = symbol_size;
      source_blocks = fewest_blocks object_length symbol_size most;
      sub_blocks = 1;
      alignment = 1;
    })

-- the configuration of an object of these numbers
abbrev pub derived_configuration : ℕ → ℕ → ℕ → Result Configuration Error
derived_configuration object_length packet_size decoder_memory = wanted_parameters full_rows object_length packet_size decoder_memory

-- whether coders take the configuration that twelve bytes spell
abbrev pub checked_header : List ℕ → Result (Unit {0}) Error
checked_header header = checked_configuration (greatest_size full_rows) (configuration_of_bytes header)
