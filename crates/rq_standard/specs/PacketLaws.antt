-- Laws of packets, blocks and answers, in the words of the headline.
use Rattle.std.specs.Prelude.{◌≡◌, ◌↔◌, ℕ, ◌*◌, ◌<◌, List, length, All, Option, IsSome}
use Rattle.rq_standard.specs.declared.row.TableRow.{TableRow}
use Rattle.rq_standard.specs.TableRows.{IsTable, greatest_size}
use Rattle.rq_standard.specs.Configuration.{Configuration, IsAccepted, IsAligned}
use Rattle.rq_standard.specs.Cutting.{block_symbols, source_symbol}
use Rattle.rq_standard.specs.Joining.{symbols_of_block, joined_block}
use Rattle.rq_standard.specs.Packet.{Packet}
use Rattle.rq_standard.specs.Received.{has_id}
use Rattle.rq_standard.specs.ReceivedBlock.{ReceivedBlock, has_received, with_received, ReceivedDetermine, IsContradictory}
use Rattle.rq_standard.specs.Following.{IsAnswerAfter}
use Rattle.rq_standard.specs.SameIds.{HasIdsOf, HaveSameIds}
use Rattle.rq_standard.specs.Headline.{IsNonsingular, DetermineBlock, IsIntermediateColumn, IsOnlyIntermediateColumn, IsPacketOf, IsHonestRun, IsAnswerable, IsOnlyObject, AnswersExactly}

-- Over a row that isn't singular, intermediate symbols of a block are the only ones.
abbrev pub IntermediateSymbolsAreOnly : Type 0
IntermediateSymbolsAreOnly =
    (row : TableRow) (size : ℕ) (source : List (List ℕ)) (column : ℕ → List ℕ)
    → IsNonsingular row → IsIntermediateColumn row size source column → IsOnlyIntermediateColumn row size source column

-- The packet of an encoding symbol id below K carries that source symbol.
abbrev pub SourcePacketsAreSymbols : Type 0
SourcePacketsAreSymbols =
    (table : List TableRow) (c : Configuration) (object : List ℕ) (p : Packet)
    → IsTable table → IsAccepted (greatest_size table) c → IsPacketOf table c object p
    → p.id.esi < block_symbols c p.id.block → p.payload ≡ source_symbol c object p.id.block p.id.esi

-- No decoder can do better: an honest run determines each block exactly where no other object fits.
abbrev pub AnswerableIsOnlyObject : Type 0
AnswerableIsOnlyObject =
    (table : List TableRow) (c : Configuration) (object : List ℕ) (packets : List Packet)
    → IsTable table → IsAccepted (greatest_size table) c → IsHonestRun table c object packets
    → IsAnswerable table c packets ↔ IsOnlyObject table c packets object

-- ---- more packets

-- A block that a list determines is determined by each list that has its ids,
abbrev pub MorePacketsDetermine : Type 0
MorePacketsDetermine =
    (row : TableRow) (k b : ℕ) (packets more : List Packet)
    → HasIdsOf more packets → DetermineBlock row k (has_id b packets) → DetermineBlock row k (has_id b more)

-- An object that a list answers is answered by each list that has its ids.
abbrev pub MorePacketsAreAnswerable : Type 0
MorePacketsAreAnswerable =
    (table : List TableRow) (c : Configuration) (packets more : List Packet)
    → HasIdsOf more packets → IsAnswerable table c packets → IsAnswerable table c more

-- Of honest runs of one object, what the first answers is what the longer one answers.
abbrev pub AnswersStay : Type 0
AnswersStay =
    (table : List TableRow) (c : Configuration) (object : List ℕ) (packets more : List Packet) (answer later : Option (List ℕ))
    → IsHonestRun table c object packets → IsHonestRun table c object more → HasIdsOf more packets
    → AnswersExactly table c packets answer → AnswersExactly table c more later
    → IsSome answer → later ≡ answer

-- ---- order and repeats

-- Of two lists with the same ids both are answerable or neither is.
abbrev pub SameIdsAreAnswerable : Type 0
SameIdsAreAnswerable =
    (table : List TableRow) (c : Configuration) (one other : List Packet)
    → HaveSameIds one other → IsAnswerable table c one ↔ IsAnswerable table c other

-- Honest runs of one object with the same ids have the same answer.
abbrev pub SameIdsAnswerTheSame : Type 0
SameIdsAnswerTheSame =
    (table : List TableRow) (c : Configuration) (object : List ℕ) (one other : List Packet) (answer again : Option (List ℕ))
    → IsHonestRun table c object one → IsHonestRun table c object other → HaveSameIds one other
    → AnswersExactly table c one answer → AnswersExactly table c other again
    → answer ≡ again

-- ---- whoever sent the packets

-- Of any packets there is one answer at most.
abbrev pub AnswerIsOne : Type 0
AnswerIsOne =
    (table : List TableRow) (c : Configuration) (packets : List Packet) (one other : Option (List ℕ))
    → IsAligned c → IsAnswerAfter table c packets one → IsAnswerAfter table c packets other → one ≡ other

-- ---- contradictions

-- Whether what was received determines its block depends on the ids alone,
abbrev pub DeterminedByIdsAlone : Type 0
DeterminedByIdsAlone =
    (one other : ReceivedBlock)
    → one.row ≡ other.row → one.source_symbols ≡ other.source_symbols → ((e : ℕ) → has_received one e ≡ has_received other e)
    → ReceivedDetermine one ↔ ReceivedDetermine other

-- and what is contradictory stays so when more is recorded.
abbrev pub ContradictionsStay : Type 0
ContradictionsStay = (h : ReceivedBlock) (esi : ℕ) (payload : List ℕ) → IsContradictory h → IsContradictory (with_received h esi payload)

-- ---- sub-blocks

-- Joining the symbols of a block gives the block, whatever its sub-blocks,
abbrev pub JoiningUndoesCutting : Type 0
JoiningUndoesCutting =
    (c : Configuration) (k : ℕ) (block : List ℕ)
    → IsAligned c → length block ≡ k * c.symbol_size → joined_block c k (symbols_of_block c k block) ≡ block

-- and cutting what k symbols are joined to gives these symbols.
abbrev pub CuttingUndoesJoining : Type 0
CuttingUndoesJoining =
    (c : Configuration) (k : ℕ) (symbols : List (List ℕ))
    → IsAligned c → length symbols ≡ k → All (λ s. length s ≡ c.symbol_size) symbols → symbols_of_block c k (joined_block c k symbols) ≡ symbols
