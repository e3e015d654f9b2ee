use Rattle.std.proofs.Common.{◌∙◌, arith}
use Rattle.rq_block.proofs.Encodes.{encodes_source}
use Rattle.rq_block.proofs.encoder.block.SourceBlockEncoder.write_symbol.Goals as goal

pub returns-then-esi-source_symbol_count : goal.returns-then-esi-source_symbol_count
returns-then-esi-source_symbol_count c =
    encodes_source c.args.self.now c.args.esi c.copy_from_slice.new.self (omega (arith, c.if-esi-source_symbol_count.true, c.source_symbol_count.ensures)) (c.copy_from_slice.ensures.after ∙ c.get.ensures.symbol)
