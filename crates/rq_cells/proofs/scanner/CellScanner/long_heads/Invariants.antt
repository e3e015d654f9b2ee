use Rattle.std.proofs.Common.{◌≡◌, ◌-◌, length}
use Rattle.rq_cells.proofs.Scanning.{StandsBefore}
use Rattle.rq_cells.proofs.scanner.CellScanner.long_heads.Given as goal

-- what stands at the places so far
abbrev pub invariant-places : goal.invariant-places
invariant-places l = record {
  same : l.self ≡ l.fn.self;
  before : StandsBefore l.fn.self l.fn.bytes l.found.places l.found.heads.items l.found.others;
}

abbrev pub decreases-places : goal.decreases-places
decreases-places l = length l.fn.bytes - l.found.places
