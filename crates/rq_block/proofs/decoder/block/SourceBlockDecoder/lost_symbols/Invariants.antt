use Rattle.rq_bytes.specs.SymbolSlab.{symbol_in}
use Rattle.rq_standard.specs.Equations.{tuple_sum}
use Rattle.rq_block.specs.Payloads.{payload_of}
use Rattle.rq_block.proofs.LostSymbols.{AreSums, AreThere}
use Rattle.rq_block.proofs.decoder.block.SourceBlockDecoder.lost_symbols.Given as goal

-- those before this one are there
abbrev pub invariant-loop-e : goal.invariant-loop-e
invariant-loop-e l = record {
  sums : AreSums (tuple_sum l.fn.self.row.numbers (symbol_in l.fn.intermediate)) (payload_of l.lost);
  there : AreThere (payload_of l.fn.self.received) (payload_of l.lost) (tuple_sum l.fn.self.row.numbers (symbol_in l.fn.intermediate)) l.e-counter;
}
