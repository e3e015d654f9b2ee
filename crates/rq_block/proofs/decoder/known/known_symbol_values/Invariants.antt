use Rattle.std.proofs.Common.{map}
use Rattle.std.specs.BTreeMap.{values}
use Rattle.std.specs.Map.Iter.{deref}
use Rattle.rq_block.proofs.ReceivedEntries.{AppendsSoFar}
use Rattle.rq_block.proofs.decoder.known.known_symbol_values.Given as goal

-- the payloads so far stand one after another
abbrev pub invariant-loop-payload : goal.invariant-loop-payload
invariant-loop-payload l = AppendsSoFar l.fn.zeros l.fn.size (values l.fn.received) (map deref l.yielded) l.payload-iterator l.bytes.items
