-- Laws of refusals and of answered blocks. Those of packets, blocks and answers stand in `rq_standard`.
use Rattle.std.specs.Prelude.{◌≡◌, ◌⊎◌, ℕ, List, Result, Ok, Err}
use Rattle.rq_bytes.specs.declared.error.Error.{Error}
use Rattle.rq_bytes.specs.declared.error.Error.TheVariants.{OutOfMemory}
use Rattle.rq_standard.specs.declared.row.TableRow.{TableRow}
use Rattle.rq_standard.specs.Configuration.{Configuration}
use Rattle.rq_standard.specs.Packet.{Packet}
use Rattle.rq_standard.specs.DecoderState.{State}
use Rattle.rq_standard.specs.DecoderSteps.{Adds}
use Rattle.rq_standard.specs.Following.{FollowsRun}
use Rattle.rq_standard.specs.Standing.{IsHonestPacket}
use Rattle.raptorq.specs.declared.decoder.object.Decoder.{Decoder}
use Rattle.raptorq.specs.BlockBytes.{answered_part, PartsMakeObject, AnswersPart}
use Rattle.raptorq.specs.Decoder.{state_of}
use Rattle.raptorq.specs.InTurn.{TakesInTurn}
use Rattle.raptorq.specs.Refused.{packet_refusal}
use Rattle.raptorq.specs.Remembering.{Remembers}
use Rattle.raptorq.specs.Runs.{IsNextRefusal, IsRunRefusal}
use Rattle.raptorq.specs.TakesPacket.{StopsBy, TakesPacket}

-- Of a run over any packets no two refusals are the first.
abbrev pub FirstRefusalIsOne : Type 0
FirstRefusalIsOne =
    (table : List TableRow) (c : Configuration) (packets : List Packet) (one other : Result (Unit {0}) Error)
    → IsRunRefusal table c packets one → IsRunRefusal table c packets other → one ≡ other

-- What a decoder has of the object in its blocks, one after another, is what it answers.
abbrev pub AnsweredPartsMakeObject : Type 0
AnsweredPartsMakeObject = (decoder : Decoder) → PartsMakeObject (state_of decoder)

-- and of an object's packets each is the object's bytes in its block, exactly where they determine it.
abbrev pub PartsAreObjects : Type 0
PartsAreObjects = (s : State) (b : ℕ) → AnswersPart s b (answered_part s b)

-- ---- a packet

-- What the calls do in turn with it is one step,
abbrev pub TurnsTake : Type 0
TurnsTake = (old new : Decoder) (p : Packet) (result : Result (Unit {0}) Error) → TakesInTurn old p result new → TakesPacket (state_of old) p result (state_of new)

-- and what is remembered of its block.
abbrev pub TurnsRemember : Type 0
TurnsRemember = (old new : Decoder) (p : Packet) (result : Result (Unit {0}) Error) → TakesInTurn old p result new → Remembers old p result new

-- ---- a packet behind others that a decoder follows

-- One that is taken is to be taken,
abbrev pub TakenIsNext : Type 0
TakenIsNext =
    (table : List TableRow) (earlier : List Packet) (p : Packet) (old new : State)
    → FollowsRun table earlier old → packet_refusal old.configuration p ≡ Ok tt → Adds old p new
    → IsNextRefusal table old.configuration earlier p (Ok tt)

-- and one that is refused is to be refused so, or memory is wanting.
abbrev pub RefusedIsNext : Type 0
RefusedIsNext =
    (table : List TableRow) (earlier : List Packet) (p : Packet) (old new : State) (e : Error)
    → FollowsRun table earlier old → StopsBy old p e new
    → (e ≡ OutOfMemory) ⊎ IsNextRefusal table old.configuration earlier p (Err e)

-- An object's own are refused for want of memory alone.
abbrev pub HonestIsTaken : Type 0
HonestIsTaken = (old : State) (p : Packet) (new : State) (e : Error) → IsHonestPacket old p → StopsBy old p e new → e ≡ OutOfMemory
