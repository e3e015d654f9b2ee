-- What decoders do with the bytes of packets.
use Rattle.std.specs.Prelude.{◌≡◌, ◌≢◌, ◌⊎◌, ℕ, ◌%◌, List, [], ◌∷◌, ◌++◌, length, IfOk, IfErr, Result, Ok}
use Rattle.rq_bytes.specs.declared.error.Error.{Error}
use Rattle.rq_bytes.specs.Error.{code_of}
use Rattle.rq_bytes.specs.Refusals.{and_then}
use Rattle.rq_standard.specs.Packet.{Packet}
use Rattle.rq_standard.specs.Streams.{frames_in}
use Rattle.rq_base.specs.RefusedInput.{read_packet}
use Rattle.rq_block.specs.RefusedBlocks.{block_refusal}
use Rattle.rq_block.specs.declared.encoder.TheConstants.{SPARSE_MATRIX_THRESHOLD}
use Rattle.raptorq.specs.Decoder.{state_of}
use Rattle.raptorq.specs.InTurn.{KeptBlock, TakesHere, TakesInTurn}
use Rattle.raptorq.specs.Refused.{packet_refusal}
use Rattle.raptorq.specs.declared.decoder.object.Decoder.{Decoder}
use Rattle.raptorq_c.specs.Numbers.{refusal_number, IsNumber}

-- ---- one

-- The number of what is refused of a packet, or 21; where nothing is, it may be 22, that of a contradiction.
abbrev pub IsTakenNumber : ℕ → Result (Unit {0}) Error → Type 0
IsTakenNumber number wanted = IsNumber number wanted ⊎ ((number ≡ 22) × (wanted ≡ Ok tt))

-- memory is refused before a decoder has the packet
abbrev pub StaysUnread : {D : Type 0} → D → ℕ → D → Type 0
StaysUnread old answer new = (answer ≡ 21) × (new ≡ old)

-- what a packet does, and the number of what the decoder answers
pub record TakesRead {D : Type 0} (Takes : D → Packet → Result (Unit {0}) Error → D → Type 0) (old : D) (packet : Packet) (answer : ℕ) (new : D) : Type 0 where
  pub result : Result (Unit {0}) Error
  pub number : answer ≡ refusal_number result
  pub takes : Takes old packet result new

-- What the bytes of a packet do to a decoder: what the packet does, and nothing where they are too short or memory is refused before it has the packet.
pub record IsAddedBy {D : Type 0} (refusal : Packet → Result (Unit {0}) Error) (Takes : D → Packet → Result (Unit {0}) Error → D → Type 0)
    (old : D) (bytes : List ℕ) (answer : ℕ) (new : D) : Type 0 where
  pub refused : IsTakenNumber answer (and_then (read_packet bytes) refusal)
  pub short : IfErr (read_packet bytes) (λ e. (answer ≡ code_of e) × (new ≡ old))
  pub takes : IfOk (read_packet bytes) (λ packet. StaysUnread old answer new ⊎ TakesRead Takes old packet answer new)

-- to the decoder of an object, and of a block
abbrev pub IsAdded : Decoder → List ℕ → ℕ → Decoder → Type 0
IsAdded old bytes answer new = IsAddedBy (packet_refusal (state_of old).configuration) TakesInTurn old bytes answer new

abbrev pub IsAddedHere : KeptBlock → List ℕ → ℕ → KeptBlock → Type 0
IsAddedHere old bytes answer new = IsAddedBy (block_refusal old.received) TakesHere old bytes answer new

-- A list of packets and their thresholds has one more behind the others, that bytes spell, unless these are too short or memory is refused.
pub record IsListed (old : List (ℕ × Packet)) (bytes : List ℕ) (answer : ℕ) (new : List (ℕ × Packet)) : Type 0 where
  pub number : IsNumber answer (read_packet bytes)
  pub listed : answer ≡ 0 → IfOk (read_packet bytes) (λ packet. new ≡ old ++ (SPARSE_MATRIX_THRESHOLD, packet) ∷ [])

-- ---- many

-- frames are added one after another, each as by itself
abbrev pub AddsEach : {D : Type 0} → (D → List ℕ → ℕ → D → Type 0) → D → List (List ℕ) → D → Type 0
AddsEach Adds old [] new = new ≡ old
AddsEach {D} Adds old (frame ∷ frames) new = (next : D) × Adds old frame 0 next × AddsEach Adds next frames new

-- some frames are added, and the next one is refused as by itself
pub record StopsAtFrame {D : Type 0} (Adds : D → List ℕ → ℕ → D → Type 0) (frames : List (List ℕ)) (answer : ℕ) (old new : D) : Type 0 where
  pub first : List (List ℕ)
  pub refused : List ℕ
  pub later : List (List ℕ)
  pub cut : frames ≡ first ++ refused ∷ later
  pub between : D
  pub added : AddsEach Adds old first between
  pub stops : Adds between refused answer new

-- what frames do to a decoder: all are added (0), or those before the first that is refused
pub record AddsFrames {D : Type 0} (Adds : D → List ℕ → ℕ → D → Type 0) (frames : List (List ℕ)) (answer : ℕ) (old new : D) : Type 0 where
  pub all : answer ≡ 0 → AddsEach Adds old frames new
  pub some : answer ≢ 0 → StopsAtFrame Adds frames answer old new

-- What bytes do to a decoder: what their frames of a size do where they are whole ones, and else nothing (13).
pub record AreAdded {D : Type 0} (Adds : D → List ℕ → ℕ → D → Type 0) (size : ℕ) (old : D) (bytes : List ℕ) (answer : ℕ) (new : D) : Type 0 where
  pub added : length bytes % size ≡ 0 → AddsFrames Adds (frames_in size bytes) answer old new
  pub broken : length bytes % size ≢ 0 → (answer ≡ 13) × (new ≡ old)
