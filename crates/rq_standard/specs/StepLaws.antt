-- Laws of what a packet does to a decoder of an object: what it did says what comes of all packets, whoever sent them.
use Rattle.std.specs.Prelude.{◌≡◌, ◌≢◌, ◌↔◌, ◌⊎◌, ℕ, ◌<◌, List, [], ◌∷◌, ◌++◌, Option, None, IsNone, IsSome}
use Rattle.rq_algebra.specs.Changes.{with_at}
use Rattle.rq_standard.specs.declared.row.TableRow.{TableRow}
use Rattle.rq_standard.specs.Packet.{Packet}
use Rattle.rq_standard.specs.Configuration.{Configuration}
use Rattle.rq_standard.specs.Headline.{IsPacketOf, IsHonestRun}
use Rattle.rq_standard.specs.DecoderState.{State, result_of}
use Rattle.rq_standard.specs.DecoderSteps.{Adds, RecordsOnly, Contradicts, Stops, IsBlockContradictory, KeepsContradictions}
use Rattle.rq_standard.specs.Differences.{AreUnansweredDetermined, IsDifference, MakesOthersFit}
use Rattle.rq_standard.specs.Following.{Lateness, Late, tried, FollowsButLate, FollowsRun}
use Rattle.rq_standard.specs.Standing.{StandsForButLate, IsHonestPacket, AnswersObject, AnswersNothingElse, AnswersOnlyObject}

-- From a decoder that follows packets, one that follows them with the packet that it took,
abbrev pub TakenIsFollowed : Type 0
TakenIsFollowed =
    (table : List TableRow) (earlier : List Packet) (p : Packet) (old new : State)
    → FollowsRun table earlier old → p.id.block < old.configuration.source_blocks → Adds old p new
    → FollowsRun table (earlier ++ p ∷ []) new

-- and where blocks may be late, the packet's own block isn't any more.
abbrev pub TakenIsTried : Type 0
TakenIsTried =
    (late : ℕ → Lateness) (table : List TableRow) (earlier : List Packet) (p : Packet) (old new : State)
    → FollowsButLate late table earlier old → p.id.block < old.configuration.source_blocks → Adds old p new
    → FollowsButLate (with_at late p.id.block (tried (late p.id.block))) table (earlier ++ p ∷ []) new

-- A packet that is only recorded leaves its block late.
abbrev pub RecordedIsLate : Type 0
RecordedIsLate =
    (late : ℕ → Lateness) (table : List TableRow) (earlier : List Packet) (p : Packet) (old new : State)
    → FollowsButLate late table earlier old → p.id.block < old.configuration.source_blocks → RecordsOnly old p new
    → FollowsButLate (with_at late p.id.block Late) table (earlier ++ p ∷ []) new

-- An honest run stays one with a packet of its object,
abbrev pub HonestRunsGrow : Type 0
HonestRunsGrow =
    (table : List TableRow) (c : Configuration) (object : List ℕ) (packets : List Packet) (p : Packet)
    → IsHonestRun table c object packets → IsPacketOf table c object p → IsHonestRun table c object (packets ++ p ∷ [])

-- and such a packet contradicts nothing.
abbrev pub HonestPacketsFit : Type 0
HonestPacketsFit = (old : State) (p : Packet) (new : State) → IsHonestPacket old p → Contradicts old p new → ⊥

-- Whatever a packet did, a block that was contradictory stays so,
abbrev pub ContradictionsAreKept : Type 0
ContradictionsAreKept = (old : State) (p : Packet) (new : State) → Adds old p new ⊎ Stops old p new → KeepsContradictions old new

-- takes nothing more, and the object is never answered.
abbrev pub ContradictoryTakesNone : Type 0
ContradictoryTakesNone = (old : State) (p : Packet) (new : State) → Adds old p new → IsBlockContradictory old p.id.block → ⊥

abbrev pub ContradictoryIsNone : Type 0
ContradictoryIsNone = (s : State) (b : ℕ) → IsBlockContradictory s b → result_of s ≡ None

-- What a decoder answers: the object that it stands for, exactly where its packets determine it, and no decoder can do better.
abbrev pub ResultIsObject : Type 0
ResultIsObject = (s : State) → AnswersObject s (result_of s) × AnswersNothingElse s (result_of s) × AnswersOnlyObject s (result_of s)

-- What it calls a difference, where none of its blocks is late, is none exactly where the object is answered,
abbrev pub DifferenceTellsAnswer : Type 0
DifferenceTellsAnswer =
    (s : State) (difference : Option (List ℕ)) → (difference ≡ None) ↔ AreUnansweredDetermined s
    → (table : List TableRow) (object : List ℕ) (packets : List Packet) (late : ℕ → Lateness)
    → StandsForButLate late table object packets s → ((b : ℕ) → late b ≢ Late) → IsNone difference ↔ IsSome (result_of s)

-- and makes other objects fit.
abbrev pub DifferencesFit : Type 0
DifferencesFit = (s : State) (bytes : List ℕ) → IsDifference s bytes → MakesOthersFit s bytes
