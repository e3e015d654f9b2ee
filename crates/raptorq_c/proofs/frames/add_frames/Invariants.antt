use Rattle.raptorq_c.proofs.Names.{◌≡◌, chunks_rest, chunks_size, frames_in}
use Rattle.raptorq_c.proofs.FrameSteps.{TakenBefore}
use Rattle.raptorq_c.proofs.frames.add_frames.Given as goal

-- the frames so far are taken
abbrev pub invariant-loop-frame : goal.invariant-loop-frame
invariant-loop-frame g l = record {
  size : chunks_size l.frame-iterator ≡ l.fn.size;
  taken : TakenBefore g.R.Receiver.takes l.fn.receiver (frames_in l.fn.size l.fn.packets) (frames_in l.fn.size (chunks_rest l.frame-iterator)) l.receiver;
}
