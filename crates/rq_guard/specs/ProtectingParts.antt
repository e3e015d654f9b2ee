-- What guarding one part more of a file does.
use Rattle.std.specs.Prelude.{◌≡◌, ◌⊎◌, ◌+◌, Bool, List, [], ◌∷◌, ◌++◌, ℕ, Option}
use Rattle.std.specs.Io.KnownBytes.{Keeps, Appends}
use Rattle.rq_bytes.specs.declared.error.Error.{Error}
use Rattle.rq_streams.specs.declared.run.Stop.{Stop}
use Rattle.rq_streams.specs.declared.run.Stop.TheVariants.{Refused}
use Rattle.rq_cast.specs.Names.{AreNames}
use Rattle.rq_cast.specs.Sent.{sending_of}
use Rattle.rq_guard.specs.declared.protecting.Protector.{Protector}
use Rattle.rq_guard.specs.declared.protecting.Senders.{Senders}
use Rattle.rq_guard.specs.Protecting.{Guarding, IsGuarding, RefusesGuarding, guard_cells, IsGuardOf, StopsIn}

abbrev pub guarding_of : Senders → Guarding
guarding_of s = record { list = sending_of s.list; part = sending_of s.part; spare = sending_of s.spare }

-- Bytes are guarded as the part behind parts of these names.
pub record GuardsPart (is_last : Bool) (names : List (List ℕ)) (bytes : List ℕ) (old new : Protector) (there then : Option (List ℕ)) : Type 0 where
  pub guarding : Guarding
  pub prepared : IsGuarding old.order old.key.now is_last names bytes guarding
  pub written : List ℕ
  pub sent : IsGuardOf guarding written
  pub appended : Appends there then written
  pub named : AreNames (names ++ (guarding.part.head.name ∷ [])) new.names
  pub cells : new.cells ≡ old.cells + guard_cells guarding

-- Some of what guards them is written.
pub record StopsGuarding (is_last : Bool) (names : List (List ℕ)) (bytes : List ℕ) (old : Protector) (there then : Option (List ℕ)) (stop : Stop) : Type 0 where
  pub guarding : Guarding
  pub prepared : IsGuarding old.order old.key.now is_last names bytes guarding
  pub written : List ℕ
  pub stopped : StopsIn guarding stop written
  pub appended : Appends there then written

-- They are refused, or stopped in.
abbrev pub StopsPart : Bool → List (List ℕ) → List ℕ → Protector → Option (List ℕ) → Option (List ℕ) → Stop → Type 0
StopsPart is_last names bytes old there then stop =
    ((e : Error) × (stop ≡ Refused e) × RefusesGuarding old.key.now is_last names bytes e × Keeps there then)
    ⊎ StopsGuarding is_last names bytes old there then stop
