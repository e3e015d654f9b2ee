-- What it means that a decoder of an object follows a list of packets, whoever sent them, and what is answered then.
use Rattle.std.specs.Prelude.{◌≡◌, ◌≢◌, ℕ, ◌<◌, ◌≤◌, List, length, take, Option, Some, None}
use Rattle.rq_standard.specs.declared.row.TableRow.{TableRow}
use Rattle.rq_standard.specs.TableRows.{greatest_size}
use Rattle.rq_standard.specs.Configuration.{Configuration, IsAccepted}
use Rattle.rq_standard.specs.Packet.{Packet}
use Rattle.rq_standard.specs.ReceivedBlock.{ReceivedBlock, CanAnswer, IsBlockAnswer}
use Rattle.rq_standard.specs.DecoderState.{State, IsReceivedOf, result_of}
use Rattle.rq_standard.specs.DecoderSteps.{received_after}

-- Whether memory was refused while a block was solved: never, or its answer is late, or was tried again after that.
pub data Lateness : Type 0 where
  InTime : Lateness
  Late : Lateness
  WasLate : Lateness

-- once it was tried again
abbrev pub tried : Lateness → Lateness
tried InTime = InTime
tried Late = WasLate
tried WasLate = WasLate

-- What a block answers of packets: what as many of the first ones answer as are needed, or more where memory was refused. Those behind them aren't
-- looked at.
pub record IsFirstAnswer (l : Lateness) (table : List TableRow) (c : Configuration) (b : ℕ) (packets : List Packet) (answer : Option (List ℕ)) : Type 0 where
  pub count : ℕ
  pub among : count ≤ length packets
  pub needed : l ≡ InTime → (fewer : ℕ) → fewer < count → CanAnswer (received_after table c b (take fewer packets)) → ⊥
  pub answers : IsBlockAnswer (received_after table c b (take count packets)) answer

-- What is kept of a block, and its answer: without one all packets are recorded, and unless it is late they can't answer it.
abbrev pub FollowsBlock : Lateness → List TableRow → Configuration → ℕ → List Packet → ReceivedBlock → Option (List ℕ) → Type 0
FollowsBlock l table c b packets h None = (h ≡ received_after table c b packets) × (l ≢ Late → CanAnswer h → ⊥)
FollowsBlock l table c b packets h (Some bytes) = IsFirstAnswer l table c b packets (Some bytes)

-- a decoder follows packets that were received, but for blocks whose answers are late
pub record FollowsButLate (late : ℕ → Lateness) (table : List TableRow) (earlier : List Packet) (s : State) : Type 0 where
  pub accepted : IsAccepted (greatest_size table) s.configuration
  pub shape : (b : ℕ) → b < s.configuration.source_blocks → IsReceivedOf table s.configuration b (s.received b)
  pub block : (b : ℕ) → b < s.configuration.source_blocks → FollowsBlock (late b) table s.configuration b earlier (s.received b) (s.answer b)

-- A decoder follows packets that were received.
abbrev pub FollowsRun : List TableRow → List Packet → State → Type 0
FollowsRun = FollowsButLate (λ _. InTime)

-- What is answered of packets, whoever sent them: what a decoder has answered that follows them.
pub record IsAnswerAfter (table : List TableRow) (c : Configuration) (packets : List Packet) (answer : Option (List ℕ)) : Type 0 where
  pub state : State
  pub configuration : state.configuration ≡ c
  pub follows : FollowsRun table packets state
  pub value : answer ≡ result_of state
