-- What the pointer owns may cross threads, as a box of the coder may.
use Rattle.raptorq_c.proofs.Walking.{Ptr}
use mir.Raw.{raw}
use base.Shift.{Keyless}
use denote.Memory.{lone}
use denote.Struct.Struct.{exits_of}
use denote.Struct.Owning.{shape, fields, to}
use denote.Enum.Declared.{shape as declared}
use denote.Param.Send.{IsSend, AllSend, enum_send, owning_send, recorded_send, struct_send, sendable}
use Rattle.std.specs.Prelude.{Option, Some, None}
use Rattle.std.proofs.Crossing as crossing
use Rattle.std_alloc.proofs.SendSync.{quiet, lies}
use Rattle.raptorq.proofs.encoder.Encoder.TheSendSync as encoder
use Rattle.raptorq.proofs.decoder.object.Decoder.TheSendSync as decoder
use Rattle.raptorq.proofs.decoder.block.ObjectBlock.TheSendSync as object_block
use Rattle.rq_block.proofs.encoder.plan.SourceBlockEncodingPlan.TheSendSync as plan
use Rattle.rq_block.proofs.encoder.block.SourceBlockEncoder.TheSendSync as block
use Rattle.raptorq_c.specs.Kept.{kept_at}
use Rattle.raptorq_c.specs.declared.kept.Coder.{Coder}
use Rattle.raptorq_c.specs.contracts.kept.Coder as coder
use Rattle.raptorq_c.specs.contracts.kept.Kept.{the_row, the_type}

-- each variant's, by those of what it holds
coder_send : IsSend coder.the_row
coder_send = recorded_send (coder.the_field).row _ _ (coder.the_type).to_one (enum_send (declared coder.the_type)
    (search (sendable, crossing.crosses, encoder.the_send, encoder.the_sync, decoder.the_field_send, object_block.the_field_send, plan.the_send, plan.the_sync, block.the_send, block.the_sync)))

keyless : (p : Ptr) (value : Option Coder) → Keyless (kept_at p value)
keyless p None = tt
keyless p (Some x) = (lies coder.the_row coder_send p x, crossing.frees.frees _ (raw (lone coder.the_row.mir)) p)

pub send : IsSend the_row
send =
    let all : AllSend (fields the_type) = search sendable in
    owning_send the_type all (λ d. keyless d.at d.value) (λ k. quiet (to the_type) (exits_of k (fields the_type)) ((struct_send (shape the_type) all).leaving k))
