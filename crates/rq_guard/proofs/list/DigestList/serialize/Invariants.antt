use Rattle.std.proofs.Common.{◌≡◌, ◌++◌, take}
use Rattle.std.specs.List.{concat}
use Rattle.rq_cells.specs.Cells.{head_bytes}
use Rattle.rq_guard.proofs.list.DigestList.serialize.Given as goal

abbrev pub invariant-loop-digest : goal.invariant-loop-digest
invariant-loop-digest l = l.bytes.items ≡ head_bytes l.key l.self.head ++ concat (take l.digest-index l.digest-items)
