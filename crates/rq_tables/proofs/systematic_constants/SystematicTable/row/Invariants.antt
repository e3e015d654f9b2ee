use Rattle.std.proofs.Common.{◌≡◌, ◌≤◌, ◌<◌, drop, length}
use Rattle.rq_standard.specs.TableRows.{row_of, greatest_size}
use Rattle.rq_tables.proofs.systematic_constants.SystematicTable.row.Given as goal

abbrev pub invariant-loop-row : goal.invariant-loop-row
invariant-loop-row l = record {
  same : row_of (drop l.row-index l.row-items) l.source_symbols ≡ row_of l.row-items l.source_symbols;
  enough : l.source_symbols ≤ greatest_size (drop l.row-index l.row-items);
  some : l.row-index < length l.row-items;
}
