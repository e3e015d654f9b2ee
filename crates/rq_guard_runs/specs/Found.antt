-- What is known of a file by its guard.
use Rattle.std.specs.Prelude.{◌*◌, ◌&&◌, not, Bool, true, List, [], ◌∷◌, nat_le, vec_len}
use Rattle.rq_guard.specs.declared.list.DigestList.{DigestList}
use Rattle.rq_guard.specs.declared.damage_check.PartDamage.{PartDamage}
use Rattle.rq_guard.specs.Damage.{part_length}
use Rattle.rq_guard.specs.Checking.{is_whole_file}
use Rattle.rq_guard_runs.specs.declared.findings.Findings.{Findings}

-- a file is there, and nothing of it is damaged
abbrev pub is_whole_finding : Findings → Bool
is_whole_finding found = found.is_there && is_whole_file found.damage

-- At most a hundredth of a part is whole: the damaged symbols have room for all else that it has of the file.
abbrev pub is_lost : DigestList → PartDamage → Bool
is_lost l d = nat_le (part_length l.head * 99) (vec_len d.symbols * (l.head.configuration.symbol_size * 100))

abbrev pub are_lost : List DigestList → List PartDamage → Bool
are_lost [] parts = true
are_lost (l ∷ lists) [] = true
are_lost (l ∷ lists) (d ∷ parts) = is_lost l d && are_lost lists parts

-- a file is there, and something of it is damaged
abbrev pub is_damaged : Findings → Bool
is_damaged found = found.is_there && not (is_whole_finding found)

-- and nearly no symbol of any part is whole: it may be another one, and stays in its place
abbrev pub is_strange : Findings → Bool
is_strange found = is_damaged found && are_lost found.lists.items found.damage.parts.items
