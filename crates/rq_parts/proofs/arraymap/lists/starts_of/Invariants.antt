use Rattle.std.proofs.Common.{◌≡◌, ℕ, ◌<◌, length}
use Rattle.std.specs.Prelude.{slice_index}
use Rattle.rq_parts.specs.ImmutableListMap.{IsStart}
use Rattle.rq_parts.proofs.arraymap.lists.starts_of.Given as goal

abbrev pub invariant-loop-key : goal.invariant-loop-key
invariant-loop-key l = record {
  len : length l.starts.items ≡ l.key;
  each : (key : ℕ) → key < l.key → IsStart l.entries.items key (slice_index l.starts.items key);
}
