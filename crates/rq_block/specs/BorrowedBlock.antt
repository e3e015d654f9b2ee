-- What the packets of a block whose bytes are borrowed are made of.
use Rattle.rq_block.specs.BlockLayout.{cut_by}
use Rattle.rq_block.specs.SourceBlockEncoder.{BlockEncoded}
use Rattle.rq_block.specs.declared.encoder.borrowed.BorrowedBlock.{BorrowedBlock}

abbrev pub borrowed_of : BorrowedBlock → BlockEncoded
borrowed_of b = record { number = b.number; row = b.row.numbers; size = b.layout.config.symbol_size; source = cut_by b.layout b.block.now }
