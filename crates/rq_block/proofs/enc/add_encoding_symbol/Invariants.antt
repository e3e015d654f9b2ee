use Rattle.std.proofs.Common.{◌≡◌, [], ◌<◌, ◌≤◌, ◌++◌, All, length, take}
use Rattle.rq_bytes.specs.SymbolSlab.{symbol_in}
use Rattle.rq_standard.specs.Equations.{row_indices}
use Rattle.rq_standard.specs.TableRows.{intermediate_symbols}
use Rattle.rq_block.proofs.Summing.{SumsSoFar}
use Rattle.rq_block.proofs.enc.add_encoding_symbol.Given as goal

-- the indices before the listed ones are summed
abbrev pub invariant-loop-count : goal.invariant-loop-count
invariant-loop-count l = record {
  room : l.count ≤ length l.terms;
  all : (l.count ≡ 0) → l.indices ≡ [];
  sums : SumsSoFar l.fn.intermediate.symbol_size (row_indices l.fn.row.numbers l.fn.internal_symbol_id) (take l.count l.terms ++ l.indices) (symbol_in l.fn.intermediate) l.symbol;
  below : All (λ p. p < intermediate_symbols l.fn.row.numbers) (take l.count l.terms ++ l.indices);
  long : length l.symbol ≡ l.fn.intermediate.symbol_size;
}

abbrev pub decreases-loop-count : goal.decreases-loop-count
decreases-loop-count l = length (take l.count l.terms ++ l.indices)
