-- What a configuration shows.
use Rattle.rq_standard.specs.Configuration.{Configuration}
use Rattle.rq_base.specs.declared.base.information.ObjectTransmissionInformation.TheInside.{Inside}

abbrev pub information_view : Inside → Configuration
information_view i = record {
  transfer_length = i.transfer_length;
  symbol_size = i.symbol_size;
  source_blocks = i.num_source_blocks;
  sub_blocks = i.num_sub_blocks;
  alignment = i.symbol_alignment;
}

-- the fields that show a configuration
abbrev pub information_inside : Configuration → Inside
information_inside c = record {
  transfer_length = c.transfer_length;
  symbol_size = c.symbol_size;
  num_source_blocks = c.source_blocks;
  num_sub_blocks = c.sub_blocks;
  symbol_alignment = c.alignment;
}
