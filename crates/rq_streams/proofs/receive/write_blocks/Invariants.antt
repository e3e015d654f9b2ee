use Rattle.std.proofs.Common.{◌≡◌}
use Rattle.std.specs.Io.KnownBytes.{Appends}
use Rattle.raptorq.specs.Decoder.{state_of}
use Rattle.rq_streams.proofs.WrittenBlocks.{written_parts}
use Rattle.rq_streams.proofs.receive.write_blocks.Given as goal

-- the blocks so far are written
abbrev pub invariant-loop-number : goal.invariant-loop-number
invariant-loop-number g l = let s = state_of l.fn.decoder in record {
  bytes : Appends (g.W.Write.contents l.fn.writer.inner) (g.W.Write.contents l.writer.inner) (written_parts s l.number);
  count : l.writer.failed ≡ l.fn.writer.failed;
}
