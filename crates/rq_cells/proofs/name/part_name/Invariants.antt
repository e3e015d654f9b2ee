use Rattle.std.proofs.Common.{◌++◌, take}
use Rattle.std.specs.Int.{w32, to_be_bytes}
use Rattle.std.specs.List.{concat}
use Rattle.sha2.specs.Hashers.{Holds512}
use Rattle.rq_standard.specs.Configuration.{header_bytes}
use Rattle.rq_cells.proofs.name.part_name.Given as goal

-- the digests so far are hashed
abbrev pub invariant-loop-digest : goal.invariant-loop-digest
invariant-loop-digest l = Holds512 l.hasher (to_be_bytes w32 l.fn.number ++ header_bytes l.fn.configuration ++ concat (take l.digest-index l.fn.digests))
