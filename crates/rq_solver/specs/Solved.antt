-- What equations give has one of two.
use Rattle.std.specs.Prelude.{ℕ, Option, None, Some, Vec}
use Rattle.std.specs.Global.{Global}
use Rattle.rq_solver.specs.declared.pi_solver.solved.Solved.{Solved}
use Rattle.rq_solver.specs.declared.pi_solver.solved.Solved.TheVariants.{Determined, Undetermined}

-- what finds the intermediate symbols
abbrev pub found_of : {Found : Type 0} → Solved Found → Option Found
found_of (Determined found) = Some found
found_of (Undetermined column) = None

-- the column that shows that they aren't determined, where there was memory for it
abbrev pub shown_of : {Found : Type 0} → Solved Found → Option (Vec ℕ Global)
shown_of (Determined found) = None
shown_of (Undetermined column) = column
