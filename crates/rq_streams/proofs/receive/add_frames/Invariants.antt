use Rattle.std.proofs.Common.{◌≡◌}
use Rattle.std.specs.Slice.Iter.{chunks_size, chunks_rest}
use Rattle.raptorq.specs.Decoder.{state_of}
use Rattle.rq_standard.specs.Streams.{frame_size}
use Rattle.rq_streams.proofs.TakenFrames.{AreFramesTaken}
use Rattle.rq_streams.proofs.receive.add_frames.Given as goal

-- the frames so far were taken or skipped
abbrev pub invariant-loop-frame : goal.invariant-loop-frame
invariant-loop-frame l = let c = l.fn.config in record {
  wide : l.size ≡ frame_size c;
  size : chunks_size l.frame-iterator ≡ frame_size c;
  configuration : (state_of l.decoder).configuration ≡ c;
  taken : AreFramesTaken c l.fn.frames (chunks_rest l.frame-iterator) l.skipped (state_of l.fn.decoder) (state_of l.decoder);
}
