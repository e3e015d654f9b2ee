-- Operations on symbols, place by place.
use Rattle.rq_algebra.specs.Operations.{plain}
use Rattle.rq_algebra.specs.Symbols.{symbols}
use Rattle.rq_algebra.proofs.Placewise.{place, place_linear, read-run_linear}
use Rattle.rq_algebra.proofs.SymbolColumns.{run_keeps_symbols}
use Rattle.rq_algebra.proofs.symbols.operations.Goals as goal

pub returns : goal.returns
returns c = record {
  placewise = λ F operations s i p. read-run_linear (symbols F) (plain F) (place p) (place_linear F p) operations s i;
  symbols = run_keeps_symbols;
}
