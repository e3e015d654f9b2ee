-- How many bytes the blocks and the packets of an object take.
use Rattle.std.specs.Prelude.{ℕ, List, Result, Ok, Err, if◌then◌else◌, nat_lt}
use Rattle.rq_bytes.specs.declared.error.Error.{Error}
use Rattle.rq_bytes.specs.declared.error.Error.TheVariants.{UnknownBlock}
use Rattle.rq_bytes.specs.Refusals.{and_then}
use Rattle.rq_standard.specs.Configuration.{configuration_of_bytes}
use Rattle.raptorq.specs.Encoder.{packets_length, packets_refusal}
use Rattle.raptorq.specs.Offsets.{block_range, checked_offsets}
use Rattle.raptorq_c.specs.declared.sizes.Range.{Range}
use Rattle.raptorq_c.specs.Headers.{checked_header}

abbrev pub range_between : ℕ × ℕ → Range
range_between ends = record { start = ends.0; end = ends.1 }

-- where a block of an object begins and where it ends, in bytes
abbrev pub part_of_block : List ℕ → ℕ → Result (ℕ × ℕ) Error
part_of_block header b =
    let c = configuration_of_bytes header in
    and_then (checked_offsets c) (λ _. if nat_lt b c.source_blocks then Ok (block_range c b) else Err UnknownBlock)

-- how many bytes the packets of an object take
abbrev pub bytes_of_packets : List ℕ → ℕ → Result ℕ Error
bytes_of_packets header repair =
    let c = configuration_of_bytes header in
    and_then (checked_header header) (λ _. and_then (packets_refusal c repair) (λ _. Ok (packets_length c repair)))
