-- What the pointer owns may cross threads, as a box of what is kept may.
use Rattle.raptorq_c.proofs.Walking.{Ptr}
use mir.Raw.{raw}
use base.Shift.{Keyless}
use denote.Memory.{lone}
use denote.Struct.Struct.{exits_of}
use denote.Struct.Owning.{shape, fields, to}
use denote.Param.Send.{IsSend, AllSend, owning_send, struct_send, sendable}
use Rattle.std.specs.Prelude.{Option, Some, None}
use Rattle.std.proofs.Crossing as crossing
use Rattle.std_alloc.proofs.SendSync.{quiet, lies}
use Rattle.raptorq_c.proofs.kept.Kept.TheSendSync as kept_send
use Rattle.raptorq_c.specs.Slot.{slot_at}
use Rattle.raptorq_c.specs.declared.kept.Kept.{Kept}
use Rattle.raptorq_c.specs.contracts.kept.Kept as kept
use Rattle.raptorq_c.specs.contracts.slot.Slot.{the_row, the_type}

keyless : (p : Ptr) (value : Option Kept) → Keyless (slot_at p value)
keyless p None = tt
keyless p (Some x) = (lies kept.the_row kept_send.the_send p x, crossing.frees.frees _ (raw (lone kept.the_row.mir)) p)

pub send : IsSend the_row
send =
    let all : AllSend (fields the_type) = search sendable in
    owning_send the_type all (λ d. keyless d.at d.value) (λ k. quiet (to the_type) (exits_of k (fields the_type)) ((struct_send (shape the_type) all).leaving k))
