-- How a part is settled that its packets determine.
use Rattle.std.specs.Prelude.{◌≡◌, ℕ, List, take, Option, Some, None, Bool}
use Rattle.rq_standard.specs.declared.row.TableRow.{TableRow}
use Rattle.rq_standard.specs.DecoderState.{result_of}
use Rattle.raptorq.specs.Decoder.{state_of}
use Rattle.rq_cells.specs.declared.head.Head.{Head}
use Rattle.rq_cast.specs.declared.names.Names.{Names}
use Rattle.rq_cast.specs.declared.settled.SettledPart.{SettledPart}
use Rattle.rq_cast.specs.declared.settled.Settling.{Settling}
use Rattle.rq_cast.specs.declared.settled.Settling.TheVariants.{Waits, Anew, Settled}
use Rattle.rq_cast.specs.declared.part_receiver.PartReceiver.{PartReceiver}
use Rattle.rq_cast.specs.Names.{AreNames}
use Rattle.rq_cast.specs.Parts.{IsPart}
use Rattle.rq_cast.specs.PartReceiving.{GivesUp}

-- an object isn't the part behind parts of these names that a head says
abbrev pub IsNoPart : List (List ℕ) → Head → List ℕ → Type 0
IsNoPart before h object = (is_last : Bool) (bytes : List ℕ) → IsPart is_last before h object bytes → ⊥

-- whether it is the last one, and how many bytes it has, where an object is that part
abbrev pub IsPartWhere : List (List ℕ) → Head → List ℕ → Option (Bool × ℕ) → Type 0
IsPartWhere before h object (Some (is_last, n)) = IsPart is_last before h object (take n object)
IsPartWhere before h object None = IsNoPart before h object

-- What a receiver's cells determine is the part behind those of these names.
pub record SettlesAs (names : Names) (p : PartReceiver) (part : SettledPart) : Type 0 where
  pub object : List ℕ
  pub answered : result_of (state_of p.attempt.decoder) ≡ Some object
  pub name : part.name ≡ p.choice.head.name
  pub is_part : (before : List (List ℕ)) → AreNames before names → IsPart part.is_last before p.choice.head object part.bytes.items

-- It isn't.
pub record IsMisplaced (names : Names) (p : PartReceiver) : Type 0 where
  pub object : List ℕ
  pub answered : result_of (state_of p.attempt.decoder) ≡ Some object
  pub no_part : (before : List (List ℕ)) → AreNames before names → IsNoPart before p.choice.head object

-- Its cells determine no object, or what isn't that part, so that it begins anew, or that part.
abbrev pub SettlesPart : List TableRow → Names → PartReceiver → Settling → PartReceiver → Type 0
SettlesPart table names old Waits new = (new ≡ old) × (old.attempt.object ≡ None)
SettlesPart table names old Anew new = IsMisplaced names old × GivesUp table old new
SettlesPart table names old (Settled part) new = SettlesAs names old part
