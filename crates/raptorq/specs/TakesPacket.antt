-- What a packet does to a decoder, whoever sent it: one relation of what was, what is returned, and what is then.
use Rattle.std.specs.Prelude.{◌≡◌, ◌⊎◌, Result, Ok, Err}
use Rattle.rq_bytes.specs.declared.error.Error.{Error}
use Rattle.rq_bytes.specs.declared.error.Error.TheVariants.{OutOfMemory, Contradiction}
use Rattle.rq_standard.specs.Packet.{Packet}
use Rattle.rq_standard.specs.DecoderState.{State}
use Rattle.rq_standard.specs.DecoderSteps.{Adds, Stops, Contradicts}
use Rattle.raptorq.specs.Refused.{packet_refusal}

-- Why a packet isn't taken, and what it did to an object's decoder: by the tests, and nothing; or behind them for want of memory, or as it
-- contradicts what its block holds.
abbrev pub StopsBy : State → Packet → Error → State → Type 0
StopsBy old p e new =
    ((packet_refusal old.configuration p ≡ Err e) × (new ≡ old))
    ⊎ (((packet_refusal old.configuration p ≡ Ok tt) × (e ≡ OutOfMemory) × Stops old p new)
    ⊎ ((packet_refusal old.configuration p ≡ Ok tt) × (e ≡ Contradiction) × Contradicts old p new))

-- What a packet did to an object's decoder, whether it is taken or not. What comes of it over many packets are laws (`StepLaws`).
abbrev pub TakesPacket : State → Packet → Result (Unit {0}) Error → State → Type 0
TakesPacket old p (Ok x) new = (packet_refusal old.configuration p ≡ Ok tt) × Adds old p new
TakesPacket old p (Err e) new = StopsBy old p e new
