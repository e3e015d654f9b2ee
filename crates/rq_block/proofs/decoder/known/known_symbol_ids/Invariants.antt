use Rattle.std.proofs.Common.{◌≡◌, ◌++◌, ◌-◌, map}
use Rattle.std.specs.BTreeMap.{keys}
use Rattle.std.specs.List.{range_with_len}
use Rattle.std.specs.Map.Iter.{deref}
use Rattle.rq_standard.specs.Equations.{internal_id}
use Rattle.rq_block.proofs.decoder.known.known_symbol_ids.Given as goal

-- the ids so far
abbrev pub invariant-loop-esi : goal.invariant-loop-esi
invariant-loop-esi l = record {
  whole : map deref l.yielded ++ l.esi-iterator ≡ keys l.fn.received;
  ids : l.ids.items ≡ range_with_len l.fn.source_symbols (l.fn.row.numbers.extended_symbols - l.fn.source_symbols) ++ map (internal_id l.fn.row.numbers l.fn.source_symbols) (map deref l.yielded);
}
