use Rattle.std.proofs.Common.{◌≡◌, ◌+◌, ◌≤◌, drop}
use Rattle.rq_cells.specs.Found.{others_in}
use Rattle.rq_cells.proofs.scanner.CellScanner.count_others.Given as goal

-- the heads at the places so far are counted
abbrev pub invariant-loop-at : goal.invariant-loop-at
invariant-loop-at l = record {
  counted : others_in l.fn.self l.fn.bytes ≡ l.others + others_in l.fn.self (drop l.at l.fn.bytes);
  few : l.others ≤ l.at;
}
