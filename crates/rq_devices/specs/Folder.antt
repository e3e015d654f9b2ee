-- A folder, and what is put there.
use Rattle.std.specs.Prelude.{◌≡◌, ◌≢◌, ℕ, List, Option, Some, Result, Ok}
use Rattle.rq_streams.specs.declared.run.Stop.{Stop}
use Rattle.rq_devices.specs.Placed.{Contents}

-- what it holds under names, where that is known
abbrev pub Folder : Type 0
Folder = List ℕ → Contents

-- Under all names but this stands what stood there.
abbrev pub KeepsBut : {N : Type 0} → N → (N → Contents) → (N → Contents) → Type 0
KeepsBut {N} name old new = (other : N) → other ≢ name → new other ≡ old other

-- This stands there under a name, and under all others what stood there.
pub record IsFiled {N : Type 0} (name : N) (written : Contents) (old new : N → Contents) : Type 0 where
  pub there : new name ≡ written
  pub others : KeepsBut name old new

-- What is whole is put there under its name, where it could be, and nothing else is.
abbrev pub IsKept : {D : Type 0} → Option (List ℕ) → Result D Stop → Contents → Folder → Folder → Type 0
IsKept (Some name) (Ok done) written old new = IsFiled name written old new
IsKept _ _ written old new = new ≡ old
