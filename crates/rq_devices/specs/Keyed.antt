-- The key that a run's cells are made by.
use Rattle.std.specs.Prelude.{◌≡◌, ◌≢◌, ℕ, List, [], ◌∷◌, Option, Some, None, option_map, IfSome}
use Rattle.rq_cells.specs.Cells.{Key}
use Rattle.rq_devices.specs.Placed.{Contents, IsEmpty}

-- what stands in the file of a key, by its name, where there is one
abbrev pub key_file : (List (List ℕ) → Contents) → Option (List ℕ) → Option Contents
key_file stands name = option_map (λ n. stands (n ∷ [])) name

-- The key is the bytes of its file, of which there are some. Where there is no file, there is no key.
abbrev pub IsKeyOf : Option Contents → Key → Type 0
IsKeyOf None key = key ≡ None
IsKeyOf (Some there) key = (bytes : List ℕ) × (key ≡ Some bytes) × (bytes ≢ []) × IfSome there (λ b. bytes ≡ b)

-- there is a file, and it has no bytes
abbrev pub IsEmptyKey : Option Contents → Type 0
IsEmptyKey None = ⊥
IsEmptyKey (Some there) = IsEmpty there

-- what is read of it: a key, or that it is empty
abbrev pub IsKeyRead : Option Contents → Option Key → Type 0
IsKeyRead file None = IsEmptyKey file
IsKeyRead file (Some key) = IsKeyOf file key

-- there is such a key
abbrev pub HasKey : Option Contents → Type 0
HasKey file = (key : Key) × IsKeyOf file key
