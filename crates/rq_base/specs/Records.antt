-- The values that records stand for.
use Rattle.rq_standard.specs.Configuration.{Configuration}
use Rattle.rq_base.specs.RefusedInput.{configuration_of}
use Rattle.rq_base.specs.declared.base.record.ObjectTransmissionInformationRecord.{ObjectTransmissionInformationRecord}

-- the configuration that a record spells, whether or not it is one that is accepted
abbrev pub spelled_configuration : ObjectTransmissionInformationRecord → Configuration
spelled_configuration r = configuration_of r.transfer_length r.symbol_size r.num_source_blocks r.num_sub_blocks r.symbol_alignment
