use Rattle.std.proofs.Common.{◌≡◌, ◌<◌, ℕ, List, length, All, false, Some}
use Rattle.std.specs.Prelude.{slice_index_or}
use Rattle.rq_cells.specs.declared.cell.Cell.{Cell}
use Rattle.rq_guard.specs.declared.list.DigestList.{DigestList}
use Rattle.rq_guard.specs.Lists.{listed_of}
use Rattle.rq_guard.specs.Damage.{IsList}
use Rattle.rq_guard.specs.ListReading.{HasLists, IsListIn, is_last_of}
use Rattle.rq_guard.proofs.reading_lists.ListReceivers.lists.Given as goal

-- the lists so far, none of which is the last part's
abbrev pub invariant-loop-index : goal.invariant-loop-index
invariant-loop-index l = record {
  count : length l.lists.items ≡ l.index;
  each : (came : List Cell) → HasLists l.by.table.now came l.self → (i : ℕ) (d : DigestList) → i < length l.lists.items
      → IsListIn l.by.table.now l.by.key.now l.stream came i (Some (listed_of (slice_index_or l.lists.items i d)));
  usable : All (λ m. IsList (listed_of m)) l.lists.items;
  none_last : (i : ℕ) (d : DigestList) → i < length l.lists.items → is_last_of (slice_index_or l.lists.items i d) ≡ false;
}
