-- What a reader reads of whose reads is told.
use Rattle.rq_devices.specs.declared.told.Told.{Told}

-- what it wraps
abbrev pub told : {R P : Type 0} → Told R P → R
told t = t.reader
