-- What a packet does to a decoder of an object, whoever sent it, and where memory is refused.
use Rattle.std.specs.Prelude.{◌≡◌, ℕ, ◌<◌, ◌≢◌, ◌⊎◌, List, Option, Some, None, MatchOption}
use Rattle.rq_standard.specs.declared.row.TableRow.{TableRow}
use Rattle.rq_standard.specs.Packet.{Packet}
use Rattle.rq_standard.specs.Configuration.{Configuration}
use Rattle.rq_standard.specs.Cutting.{block_symbols}
use Rattle.rq_standard.specs.Received.{first_payload}
use Rattle.rq_standard.specs.Headline.{block_row}
use Rattle.rq_standard.specs.ReceivedBlock.{ReceivedBlock, nothing_received, with_received, IsContradictory, IsBlockAnswer}
use Rattle.rq_standard.specs.DecoderState.{State}

-- nothing is kept of what was received of a block
abbrev pub emptied : ReceivedBlock → ReceivedBlock
emptied h = nothing_received h.configuration h.number h.row h.source_symbols

-- what is kept: all of it, until the block is answered
abbrev pub kept_of : ReceivedBlock → Option (List ℕ) → ReceivedBlock
kept_of h None = h
kept_of h (Some block) = emptied h

-- A packet of a block with no answer is recorded, and the block is answered where that can be.
pub record AddsOpen (old : ReceivedBlock) (p : Packet) (new : ReceivedBlock) (answer : Option (List ℕ)) : Type 0 where
  pub answers : IsBlockAnswer (with_received old p.id.esi p.payload) answer
  pub kept : new ≡ kept_of (with_received old p.id.esi p.payload) answer

-- What a packet of a block does to it: an answered block takes nothing more.
abbrev pub AddsToBlock : ReceivedBlock → Option (List ℕ) → Packet → ReceivedBlock → Option (List ℕ) → Type 0
AddsToBlock old before p new after = MatchOption before (AddsOpen old p new after) (λ _. (new ≡ old) × (after ≡ before))

-- What it does where memory is refused while its block is solved: the packet is recorded, and the block waits for its answer.
pub record RecordsInBlock (old : ReceivedBlock) (before : Option (List ℕ)) (p : Packet) (new : ReceivedBlock) (after : Option (List ℕ)) : Type 0 where
  pub unanswered : before ≡ None
  pub waits : after ≡ None
  pub received : new ≡ with_received old p.id.esi p.payload

-- what was there of the other blocks stays
pub record IsSameElsewhere (old : State) (b : ℕ) (new : State) : Type 0 where
  pub configuration : new.configuration ≡ old.configuration
  pub other : (n : ℕ) → n < old.configuration.source_blocks → n ≢ b → (new.received n ≡ old.received n) × (new.answer n ≡ old.answer n)

-- what a packet that isn't refused does, whoever sent it
pub record Adds (old : State) (p : Packet) (new : State) : Type 0 where
  pub here : AddsToBlock (old.received p.id.block) (old.answer p.id.block) p (new.received p.id.block) (new.answer p.id.block)
  pub elsewhere : IsSameElsewhere old p.id.block new

-- what it does where memory is refused while its block is solved
pub record RecordsOnly (old : State) (p : Packet) (new : State) : Type 0 where
  pub here : RecordsInBlock (old.received p.id.block) (old.answer p.id.block) p (new.received p.id.block) (new.answer p.id.block)
  pub elsewhere : IsSameElsewhere old p.id.block new

-- what a packet does that contradicts what its block holds, or comes after one that did: it is recorded, and the block has no answer
pub record Contradicts (old : State) (p : Packet) (new : State) : Type 0 where
  pub records : RecordsOnly old p new
  pub contradictory : IsContradictory (new.received p.id.block)

-- what was received of a block is contradictory, and it has no answer
pub record IsBlockContradictory (s : State) (b : ℕ) : Type 0 where
  pub below : b < s.configuration.source_blocks
  pub unanswered : s.answer b ≡ None
  pub contradictory : IsContradictory (s.received b)

-- a block that was contradictory stays so
abbrev pub KeepsContradictions : State → State → Type 0
KeepsContradictions old new = (b : ℕ) → IsBlockContradictory old b → IsBlockContradictory new b

-- what was received of a block after these packets, where it takes them all
abbrev pub received_after : List TableRow → Configuration → ℕ → List Packet → ReceivedBlock
received_after table c b packets =
    record { configuration = c; number = b; row = block_row table c b; source_symbols = block_symbols c b; received = first_payload b packets }

-- Where memory is refused for a packet: everything is as it was, or the packet is recorded and its block waits for its answer.
abbrev pub Stops : State → Packet → State → Type 0
Stops old p new = (new ≡ old) ⊎ RecordsOnly old p new
