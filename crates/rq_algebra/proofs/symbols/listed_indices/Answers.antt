-- Listed indices are their parities.
use Rattle.rq_algebra.proofs.Parity.{sum_listed_is}
use Rattle.rq_algebra.proofs.SymbolSums.{sum_symbols_is, sum_is_symbol}
use Rattle.rq_algebra.proofs.symbols.listed_indices.Goals as goal

pub returns : goal.returns
returns c = record { elements = sum_listed_is; symbols = sum_symbols_is; size = sum_is_symbol }
