-- One solution in symbols.
use Rattle.rq_algebra.proofs.SymbolColumns.{symbols_unique}
use Rattle.rq_algebra.proofs.symbols.determined.Goals as goal

pub returns : goal.returns
returns c = symbols_unique
