-- The names of a stream's parts.
use Rattle.std.specs.Prelude.{◌≡◌, ◌≢◌, ℕ, List, [], length, All}
use Rattle.std.specs.List.{concat}
use Rattle.sha2.specs.Hashers.{Holds512}
use Rattle.rq_cast.specs.Parts.{stream_of_names}
use Rattle.rq_cast.specs.declared.names.Names.{Names}

-- These are the names of the first parts, of 16 bytes each.
pub record AreNames (names : List (List ℕ)) (n : Names) : Type 0 where
  pub count : n.count ≡ length names
  pub long : All (λ name. length name ≡ 16) names
  pub stream : names ≢ [] → n.stream ≡ stream_of_names names
  pub hashed : Holds512 n.hash (concat names)
