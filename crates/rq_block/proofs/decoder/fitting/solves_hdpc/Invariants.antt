use Rattle.rq_bytes.specs.SymbolSlab.{symbol_in}
use Rattle.rq_block.specs.HdpcSums.{AreHdpcSums}
use Rattle.rq_block.proofs.decoder.fitting.solves_hdpc.Given as goal

abbrev pub invariant-loop-column : goal.invariant-loop-column
invariant-loop-column l = AreHdpcSums l.row.numbers (symbol_in l.intermediate) l.intermediate.symbol_size l.column l.sums
