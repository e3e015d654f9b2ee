-- What sending one part more of a stream does.
use Rattle.std.specs.Prelude.{◌≡◌, ◌⊎◌, ℕ, ◌+◌, Bool, List, [], ◌∷◌, ◌++◌, Option}
use Rattle.std.specs.Io.KnownBytes.{Keeps}
use Rattle.rq_bytes.specs.declared.error.Error.{Error}
use Rattle.rq_bytes.specs.declared.error.Error.TheVariants.{OutOfMemory}
use Rattle.rq_streams.specs.declared.run.Stop.{Stop}
use Rattle.rq_streams.specs.declared.run.Stop.TheVariants.{Refused}
use Rattle.rq_cast.specs.declared.halt.Halt.{Halt}
use Rattle.rq_cast.specs.declared.halt.Halt.TheVariants.{By, Changed}
use Rattle.rq_cast.specs.declared.stream_sending.StreamSender.{StreamSender}
use Rattle.rq_cast.specs.Calls.{Call, Tells, lost_in}
use Rattle.rq_cast.specs.Names.{AreNames}
use Rattle.rq_cast.specs.Parts.{object_of}
use Rattle.rq_cast.specs.Preparing.{IsPrepared, RefusesObject}
use Rattle.rq_cast.specs.Rounds.{IsAsKnown, KeepsNames}
use Rattle.rq_cast.specs.Sent.{Sending, cell_count, SendsFirst, StopsSending}

-- memory is refused, or the object of the part behind parts of these names
abbrev pub RefusesPart : StreamSender → Bool → List (List ℕ) → List ℕ → Error → Type 0
RefusesPart s is_last names bytes e = (e ≡ OutOfMemory) ⊎ RefusesObject s.order (object_of is_last names bytes) e

-- Bytes are sent as the part behind parts of these names.
pub record SendsPart (is_last : Bool) (names : List (List ℕ)) (bytes : List ℕ) (old new : StreamSender) (told told' : Option (List Call))
    (there then : Option (List ℕ)) : Type 0 where
  pub sending : Sending
  pub prepared : IsPrepared old.order old.key.now is_last names bytes sending
  pub same : IsAsKnown old.known old.names.count is_last sending.head.name
  pub kept : KeepsNames old.known (sending.head.name ∷ []) new.known
  pub calls : List Call
  pub sends : SendsFirst sending (cell_count sending) calls [] [] told told' there then
  pub named : AreNames (names ++ (sending.head.name ∷ [])) new.names
  pub cells : new.cells ≡ old.cells + cell_count sending
  pub lost_more : new.lost ≡ old.lost + lost_in calls

-- They are refused, or aren't what they were.
abbrev pub RefusesNext : Bool → List (List ℕ) → List ℕ → StreamSender → Halt → Type 0
RefusesNext is_last names bytes old halt =
    ((e : Error) × (halt ≡ By (Refused e)) × RefusesPart old is_last names bytes e)
    ⊎ ((halt ≡ Changed old.names.count)
    × ((sending : Sending) × IsPrepared old.order old.key.now is_last names bytes sending × (IsAsKnown old.known old.names.count is_last sending.head.name → ⊥)))

-- Some first cells of them are sent.
pub record StopsInPart (is_last : Bool) (names : List (List ℕ)) (bytes : List ℕ) (old : StreamSender) (calls : List Call) (told told' : Option (List Call))
    (there then : Option (List ℕ)) (halt : Halt) : Type 0 where
  pub stop : Stop
  pub by : halt ≡ By stop
  pub sending : Sending
  pub prepared : IsPrepared old.order old.key.now is_last names bytes sending
  pub same : IsAsKnown old.known old.names.count is_last sending.head.name
  pub stopped : StopsSending sending calls told told' there then stop

-- Nothing of them is, or some first cells.
abbrev pub StopsPart : Bool → List (List ℕ) → List ℕ → StreamSender → List Call → Option (List Call) → Option (List Call) → Option (List ℕ) → Option (List ℕ) → Halt → Type 0
StopsPart is_last names bytes old calls told told' there then halt =
    (RefusesNext is_last names bytes old halt × (calls ≡ []) × Tells told told' [] × Keeps there then)
    ⊎ StopsInPart is_last names bytes old calls told told' there then halt
