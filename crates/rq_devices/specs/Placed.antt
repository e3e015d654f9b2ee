-- What stands in files, and the names of those that a run writes.
use Rattle.std.specs.Prelude.{◌≡◌, ℕ, List, [], ◌++◌, codes, Option, IfSome, unwrap_or}

-- what stands somewhere, where that is known
abbrev pub Contents : Type 0
Contents = Option (List ℕ)

-- nothing was written yet
abbrev pub IsEmpty : Contents → Type 0
IsEmpty there = IfSome there (λ bytes. bytes ≡ [])

-- what stands in files, one behind another, by their names
abbrev pub Files : Type 0
Files = List (List ℕ) → Contents

-- the name of what is written beside a place, until it is put there
abbrev pub beside : List ℕ → List ℕ
beside place = place ++ codes ".rqcast"

-- the name of a file's guard: one that is said, or the file's with an ending
abbrev pub guard_name : List ℕ → Option (List ℕ) → List ℕ
guard_name file said = unwrap_or said (file ++ codes ".rqc")
