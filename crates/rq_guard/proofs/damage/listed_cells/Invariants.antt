use Rattle.std.proofs.Common.{◌≡◌, map, All}
use Rattle.std.specs.List.{filter, range_with_len}
use Rattle.rq_cells.specs.Scans.{HasDigest}
use Rattle.rq_guard.specs.Lists.{listed_of}
use Rattle.rq_guard.specs.Damage.{is_whole, cell_of_block}
use Rattle.rq_guard.proofs.damage.listed_cells.Given as goal

-- the cells of the whole symbols so far
abbrev pub invariant-loop-e : goal.invariant-loop-e
invariant-loop-e l = record {
  cells : map (λ found. found.cell) l.cells.items
      ≡ map (cell_of_block l.list.head l.layout l.block) (filter (is_whole (listed_of l.list).digests l.digests) (range_with_len 0 l.e));
  digests : All HasDigest l.cells.items;
}
