-- What it means that a decoder of an object stands for a list of packets, and what it answers then.
use Rattle.std.specs.Prelude.{◌≡◌, ◌≢◌, ◌↔◌, ℕ, List, Option, IsSome, IfSome}
use Rattle.rq_standard.specs.declared.row.TableRow.{TableRow}
use Rattle.rq_standard.specs.Packet.{Packet}
use Rattle.rq_standard.specs.Headline.{IsPacketOf, IsHonestRun, IsObjectAnswer, IsOnlyObject}
use Rattle.rq_standard.specs.DecoderState.{State}
use Rattle.rq_standard.specs.Following.{Lateness, InTime, Late, FollowsButLate}

-- the decoder follows the list of an honest run, but for blocks whose answers are late
pub record StandsForButLate (late : ℕ → Lateness) (table : List TableRow) (object : List ℕ) (packets : List Packet) (s : State) : Type 0 where
  pub run : IsHonestRun table s.configuration object packets
  pub follows : FollowsButLate late table packets s

-- the decoder follows the list of an honest run
abbrev pub StandsFor : List TableRow → List ℕ → List Packet → State → Type 0
StandsFor = StandsForButLate (λ _. InTime)

-- a packet of the object for whose packets the decoder stands, blocks late or not
pub record IsHonestPacket (old : State) (p : Packet) : Type 0 where
  pub table : List TableRow
  pub object : List ℕ
  pub packets : List Packet
  pub late : ℕ → Lateness
  pub stands : StandsForButLate late table object packets old
  pub of_object : IsPacketOf table old.configuration object p

-- what a decoder that stands for a list, with no block late, answers: the object, exactly where the list determines it
abbrev pub AnswersObject : State → Option (List ℕ) → Type 0
AnswersObject s answer =
    (table : List TableRow) (object : List ℕ) (packets : List Packet) (late : ℕ → Lateness)
    → StandsForButLate late table object packets s → ((b : ℕ) → late b ≢ Late)
    → IsObjectAnswer table s.configuration object packets answer

-- where blocks may be late, too, it answers the object or nothing
abbrev pub AnswersNothingElse : State → Option (List ℕ) → Type 0
AnswersNothingElse s answer =
    (table : List TableRow) (object : List ℕ) (packets : List Packet) (late : ℕ → Lateness)
    → StandsForButLate late table object packets s
    → IfSome answer (λ bytes. bytes ≡ object)

-- No decoder can do better: where it stands for a list, with no block late, there is an answer exactly where no other object fits the list.
abbrev pub AnswersOnlyObject : State → Option (List ℕ) → Type 0
AnswersOnlyObject s answer =
    (table : List TableRow) (object : List ℕ) (packets : List Packet) (late : ℕ → Lateness)
    → StandsForButLate late table object packets s → ((b : ℕ) → late b ≢ Late)
    → IsSome answer ↔ IsOnlyObject table s.configuration packets object
