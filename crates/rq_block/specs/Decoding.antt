-- What a decoder of a block does with packets that are handed in one after another, and with what it has received then.
use Rattle.std.specs.Prelude.{◌≡◌, ◌⊎◌, ℕ, List, [], ◌∷◌, ◌++◌, Option, Result, Ok, Err, IfOk, IfErr, fold, option_map}
use Rattle.std.specs.List.{AllByRecursion}
use Rattle.std.specs.Iterator.{Drains, Yields}
use Rattle.rq_bytes.specs.declared.error.Error.{Error}
use Rattle.rq_bytes.specs.declared.error.Error.TheVariants.{OutOfMemory, Contradiction}
use Rattle.rq_bytes.specs.Refusals.{IsRefusal}
use Rattle.rq_standard.specs.Packet.{Packet}
use Rattle.rq_standard.specs.ReceivedBlock.{ReceivedBlock, with_received, IsContradictory, IsBlockAnswer}
use Rattle.rq_block.specs.declared.decoder.block.SourceBlockDecoder.{SourceBlockDecoder}
use Rattle.rq_block.specs.LastOutcome.{outcome_of}
use Rattle.rq_block.specs.RefusedBlocks.{block_refusal}
use Rattle.rq_block.specs.SourceBlockDecoder.{Solving, received_of, solving_of, solving_after}

-- with the payloads of packets, one after another
abbrev pub all_recorded : ReceivedBlock → List Packet → ReceivedBlock
all_recorded h packets = fold (λ g p. with_received g p.id.esi p.payload) h packets

-- what is still so then of what was found before
abbrev pub all_found : ReceivedBlock → Solving → List Packet → Solving
all_found h s [] = s
all_found h s (p ∷ packets) = all_found (with_received h p.id.esi p.payload) (solving_after h p.id.esi s) packets

-- packets of the block, each with a symbol of its size
abbrev pub AreTaken : ReceivedBlock → List Packet → Type 0
AreTaken h packets = AllByRecursion (λ p. block_refusal h p ≡ Ok tt) packets

-- packets of the block were recorded, each with a symbol of its size, one after another
pub record Recorded (old : SourceBlockDecoder) (packets : List Packet) (new : SourceBlockDecoder) : Type 0 where
  pub taken : AreTaken (received_of old) packets
  pub received : received_of new ≡ all_recorded (received_of old) packets
  pub solving : solving_of new ≡ all_found (received_of old) (solving_of old) packets

-- the packets that an iterator gave end with one that is refused; those before it are recorded
pub record StopsAtLast {T : Type 0} (steps : T → Option Packet → T → Type 0) (iterator : T)
    (old : SourceBlockDecoder) (packets : List Packet) (e : Error) (new : SourceBlockDecoder) : Type 0 where
  pub after : T
  pub gave : Yields steps iterator packets after
  pub front : List Packet
  pub last : Packet
  pub whole : packets ≡ front ++ last ∷ []
  pub recorded : Recorded old front new
  pub stopped : IsRefusal e (block_refusal (received_of old) last)

-- why what was received has no answer: there is no memory for it, or it is contradictory
abbrev pub IsUnanswered : ReceivedBlock → Error → Type 0
IsUnanswered h e = (e ≡ OutOfMemory) ⊎ ((e ≡ Contradiction) × IsContradictory h)

-- What was received is answered, or isn't, and stays. What an attempt finds is remembered; where memory is refused, all is as before.
pub record AnswersReceived {V : Type 0} (view : V → List ℕ) (old : SourceBlockDecoder) (result : Result (Option V) Error) (new : SourceBlockDecoder) : Type 0 where
  pub block : IfOk result (λ answer. IsBlockAnswer (received_of old) (option_map view answer))
  pub unanswered : IfErr result (IsUnanswered (received_of old))
  pub same : received_of new ≡ received_of old
  pub remembers : solving_of new ≡ record (solving_of old) { last_outcome = outcome_of result }
  pub kept : IfErr result (λ e. e ≡ OutOfMemory → solving_of new ≡ solving_of old)

-- all packets that an iterator gives are recorded, and then what was received is answered
pub record RecordsThenAnswers {T V : Type 0} (steps : T → Option Packet → T → Type 0) (iterator : T) (view : V → List ℕ)
    (old : SourceBlockDecoder) (packets : List Packet) (result : Result (Option V) Error) (new : SourceBlockDecoder) : Type 0 where
  pub drained : Drains steps iterator packets
  pub middle : SourceBlockDecoder
  pub recorded : Recorded old packets middle
  pub answers : AnswersReceived view middle result new

-- All packets are recorded, and what was received is answered then; or the last one that the iterator gave is refused.
abbrev pub Decodes : {T V : Type 0} → (T → Option Packet → T → Type 0) → T → (V → List ℕ) → SourceBlockDecoder → List Packet → Result (Option V) Error → SourceBlockDecoder → Type 0
Decodes steps iterator view old packets (Ok answer) new = RecordsThenAnswers steps iterator view old packets (Ok answer) new
Decodes steps iterator view old packets (Err e) new =
    RecordsThenAnswers steps iterator view old packets (Err e) new ⊎ StopsAtLast steps iterator old packets e new

-- what is said of an iterator that a source becomes, and of packets that it gives
pub record OverPackets {S T : Type 0} (becomes : S → T → Type 0) (source : S) (P : T → List Packet → Type 0) : Type 0 where
  pub iterator : T
  pub packets : List Packet
  pub made : becomes source iterator
  pub decodes : P iterator packets
