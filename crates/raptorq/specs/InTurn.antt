-- What the calls of an object's decoder do in turn: a packet is recorded, its block is answered, and the blocks are joined.
use Rattle.std.specs.Prelude.{◌≡◌, ◌≢◌, ◌⊎◌, ℕ, ◌<◌, ◌≤◌, List, [], Option, Some, None, MatchOption, option_map, Result, Ok, Err, MatchResult, OnErr, IfOk, IfErr, IsSome, if◌then◌else◌, ◌==◌}
use Rattle.rq_bytes.specs.declared.error.Error.{Error}
use Rattle.rq_bytes.specs.declared.error.Error.TheVariants.{OutOfMemory, Contradiction, UnknownBlock}
use Rattle.rq_bytes.specs.Refusals.{IsAnswer}
use Rattle.rq_standard.specs.Configuration.{Configuration}
use Rattle.rq_standard.specs.Packet.{Packet}
use Rattle.rq_standard.specs.declared.row.TableRow.{TableRow}
use Rattle.rq_standard.specs.ReceivedBlock.{ReceivedBlock, with_received, IsContradictory, IsBlockAnswer}
use Rattle.rq_standard.specs.DecoderState.{State, result_of}
use Rattle.rq_standard.specs.DecoderSteps.{kept_of}
use Rattle.rq_block.specs.declared.decoder.last_outcome.LastOutcome.TheVariants.{Untried, Undetermined, Contradictory}
use Rattle.rq_block.specs.SourceBlockDecoder.{Solving, received_of, solving_of, solving_after, unsolved, empty_block}
use Rattle.rq_block.specs.RefusedBlocks.{block_refusal}
use Rattle.rq_block.specs.declared.encoder.TheConstants.{SPARSE_MATRIX_THRESHOLD}
use Rattle.raptorq.specs.declared.decoder.block.ObjectBlock.{ObjectBlock}
use Rattle.raptorq.specs.declared.decoder.object.Decoder.{Decoder}
use Rattle.raptorq.specs.Decoder.{answer_of, state_of, solving_at}
use Rattle.raptorq.specs.Refused.{packet_refusal}

-- what is kept of a block: what was received of it, its answer, and how it is solved
pub record KeptBlock : Type 0 where
  pub received : ReceivedBlock
  pub answer : Option (List ℕ)
  pub solving : Solving

abbrev pub block_of : ObjectBlock → KeptBlock
block_of b = record { received = received_of b.decoder; answer = answer_of b; solving = solving_of b.decoder }

-- of the block of a number
abbrev pub block_at : Decoder → ℕ → KeptBlock
block_at d n = record { received = (state_of d).received n; answer = (state_of d).answer n; solving = solving_at d n }

-- the block of one number is changed so, and the others stay
pub record ChangesBlock (Here : KeptBlock → KeptBlock → Type 0) (old : Decoder) (n : ℕ) (new : Decoder) : Type 0 where
  pub configuration : (state_of new).configuration ≡ (state_of old).configuration
  pub here : Here (block_at old n) (block_at new n)
  pub others : (m : ℕ) → m ≢ n → block_at new m ≡ block_at old m

-- what is answered of a block of K source symbols before any packet
abbrev pub no_symbols : ℕ → Option (List ℕ)
no_symbols k = if k == 0 then Some [] else None

-- a block of K source symbols, of which nothing was received
abbrev pub new_block : List TableRow → Configuration → ℕ → ℕ → KeptBlock
new_block table c number k = record { received = empty_block table c number k; answer = no_symbols k; solving = unsolved SPARSE_MATRIX_THRESHOLD }

-- ---- recording

-- a block without an answer has the packet's payload too
abbrev pub recorded_by : Option (List ℕ) → Packet → KeptBlock → KeptBlock
recorded_by None p b = record b { received = with_received b.received p.id.esi p.payload; solving = solving_after b.received p.id.esi b.solving }
recorded_by (Some bytes) p b = b

-- an answered one takes nothing more
abbrev pub with_packet : Packet → KeptBlock → KeptBlock
with_packet p b = recorded_by b.answer p b

-- a packet that is refused, by the tests or for want of memory, changes nothing
abbrev pub RecordsHere : Packet → Result (Unit {0}) Error → KeptBlock → KeptBlock → Type 0
RecordsHere p (Ok x) old new = new ≡ with_packet p old
RecordsHere p (Err e) old new = new ≡ old

-- A packet is recorded, or refused.
pub record RecordsPacket (old : Decoder) (p : Packet) (result : Result (Unit {0}) Error) (new : Decoder) : Type 0 where
  pub tested : IsAnswer (λ _. tt) result (packet_refusal (state_of old).configuration p)
  pub block : ChangesBlock (RecordsHere p result) old p.id.block new

-- ---- answering

-- what is remembered: without an answer that what was received doesn't determine the block, and else nothing
abbrev pub found_by : Option (List ℕ) → Solving → Solving
found_by None s = record s { last_outcome = Undetermined }
found_by (Some bytes) s = unsolved s.sparse_threshold

-- a block without an answer has the one that it can have, and nothing is kept then of what was received
pub record AnswersOpen (old new : KeptBlock) : Type 0 where
  pub answers : IsBlockAnswer old.received new.answer
  pub kept : new.received ≡ kept_of old.received new.answer
  pub solving : new.solving ≡ found_by new.answer old.solving

-- Where memory is refused nothing is changed, nor solved again what was; and a contradiction is remembered.
abbrev pub RefusesAnswer : KeptBlock → Error → KeptBlock → Type 0
RefusesAnswer old e new =
    ((e ≡ OutOfMemory) × (old.solving.last_outcome ≡ Untried) × (new ≡ old))
    ⊎ ((e ≡ Contradiction) × IsContradictory old.received × (new ≡ record old { solving = record old.solving { last_outcome = Contradictory } }))

-- an answered block stays so
abbrev pub AnswersHere : Result (Unit {0}) Error → KeptBlock → KeptBlock → Type 0
AnswersHere result old new = MatchOption old.answer (MatchResult result (λ _. AnswersOpen old new) (λ e. RefusesAnswer old e new)) (λ _. (result ≡ Ok tt) × (new ≡ old))

-- The block of a number is answered, or isn't.
pub record AnswersBlock (old : Decoder) (n : ℕ) (result : Result (Unit {0}) Error) (new : Decoder) : Type 0 where
  pub known : n < (state_of old).configuration.source_blocks → ChangesBlock (AnswersHere result) old n new
  pub unknown : (state_of old).configuration.source_blocks ≤ n → (result ≡ Err UnknownBlock) × (new ≡ old)

-- ---- joining

-- The object is joined where each block is answered; memory is refused only then.
pub record JoinsObject {V : Type 0} (view : V → List ℕ) (s : State) (result : Result (Option V) Error) : Type 0 where
  pub answer : IfOk result (λ object. option_map view object ≡ result_of s)
  pub memory : IfErr result (λ e. e ≡ OutOfMemory)
  pub complete : OnErr result (IsSome (result_of s))

-- ---- in turn

-- A packet of the block is recorded, and the block is answered then, unless the packet is refused.
pub record TakesHere (old : KeptBlock) (p : Packet) (result : Result (Unit {0}) Error) (new : KeptBlock) : Type 0 where
  pub recorded : Result (Unit {0}) Error
  pub middle : KeptBlock
  pub tested : IsAnswer (λ _. tt) recorded (block_refusal old.received p)
  pub records : RecordsHere p recorded old middle
  pub answers : MatchResult recorded (λ _. AnswersHere result middle new) (λ e. (result ≡ Err e) × (new ≡ middle))

-- A packet is recorded, and its block is answered then, unless the packet is refused.
pub record TakesInTurn (old : Decoder) (p : Packet) (result : Result (Unit {0}) Error) (new : Decoder) : Type 0 where
  pub recorded : Result (Unit {0}) Error
  pub middle : Decoder
  pub records : RecordsPacket old p recorded middle
  pub answers : MatchResult recorded (λ _. AnswersBlock middle p.id.block result new) (λ e. (result ≡ Err e) × (new ≡ middle))

-- A packet is taken, and the object is joined then, unless the packet is refused or its block is.
pub record DecodesInTurn {V : Type 0} (view : V → List ℕ) (old : Decoder) (p : Packet) (result : Result (Option V) Error) (new : Decoder) : Type 0 where
  pub taken : Result (Unit {0}) Error
  pub takes : TakesInTurn old p taken new
  pub joins : MatchResult taken (λ _. JoinsObject view (state_of new) result) (λ e. result ≡ Err e)
