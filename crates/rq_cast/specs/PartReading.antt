-- What is read as a part of a stream.
use Rattle.std.specs.Prelude.{ℕ, ◌<◌, ◌≤◌, List, length, Option}
use Rattle.std.specs.Io.KnownBytes.{Consumes, IsAtEnd}

-- so many bytes, and fewer at the end alone
pub record ReadsPart (before after : Option (List ℕ)) (size : ℕ) (bytes : List ℕ) : Type 0 where
  pub taken : Consumes before after bytes
  pub few : length bytes ≤ size
  pub at_end : length bytes < size → IsAtEnd after

-- as many at most, where something stops that
pub record ReadsWithin (before after : Option (List ℕ)) (size : ℕ) : Type 0 where
  pub piece : List ℕ
  pub taken : Consumes before after piece
  pub few : length piece ≤ size
