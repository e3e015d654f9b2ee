-- What stands in a file and in its guard.
use Rattle.std.specs.Prelude.{[], ◌∷◌, option_map}
use Rattle.rq_guard_runs.specs.declared.pair.Pair.{Pair}
use Rattle.rq_devices.specs.Placed.{guard_name}
use Rattle.rq_devices.specs.Placed.{Contents, Files}

abbrev pub in_file : Pair → Files → Contents
in_file p stands = stands (p.file.now ∷ [])

abbrev pub in_guard : Pair → Files → Contents
in_guard p stands = stands (guard_name p.file.now (option_map (λ s. s.now) p.said) ∷ [])
