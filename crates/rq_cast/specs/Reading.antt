-- What reads bring.
use Rattle.std.specs.Prelude.{◌≡◌, ◌⊎◌, ℕ, ◌≤◌, List, [], length}
use Rattle.rq_bytes.specs.declared.error.Error.TheVariants.{OutOfMemory}
use Rattle.rq_streams.specs.declared.run.Stop.{Stop}
use Rattle.rq_streams.specs.declared.run.Stop.TheVariants.{Fault, Refused}

-- how many bytes a read brings at most
abbrev pub chunk_length : ℕ
chunk_length = 65536

-- What the last read brought, or nothing: where it failed, or nothing is left out.
abbrev pub IsLastRead : List ℕ → List ℕ → Type 0
IsLastRead bytes came = (bytes ≡ []) ⊎ ((bytes ≡ came) × (length came ≤ chunk_length))

-- a failed call, or want of memory
abbrev pub IsStopOfReads : Stop → Type 0
IsStopOfReads stop = (stop ≡ Fault) ⊎ (stop ≡ Refused OutOfMemory)
