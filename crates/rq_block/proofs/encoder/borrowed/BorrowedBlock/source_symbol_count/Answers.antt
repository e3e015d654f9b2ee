use Rattle.std.proofs.Common.{sym}
use Rattle.std.proofs.lemmas.List.FromFn.{length-map-range_with_len}
use Rattle.rq_standard.specs.Cutting.{symbol_of_block}
use Rattle.rq_block.proofs.encoder.borrowed.BorrowedBlock.source_symbol_count.Goals as goal

pub returns : goal.returns
returns c =
    let layout = c.args.self.now.layout in
    sym (length-map-range_with_len (symbol_of_block layout.config layout.source_symbols c.args.self.now.block.now) 0 layout.source_symbols)
