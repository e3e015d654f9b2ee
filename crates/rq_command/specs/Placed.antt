-- What was received is whole.
use Rattle.std.specs.Prelude.{Bool, true, false, Result, Ok}
use Rattle.rq_streams.specs.declared.run.Stop.{Stop}
use Rattle.rq_cast.specs.declared.run.Ending.{Ending}
use Rattle.rq_cast.specs.declared.run.Ending.TheVariants.{Written}

-- all is written
abbrev pub is_whole : Result Ending Stop → Bool
is_whole (Ok (Written stream)) = true
is_whole _ = false
