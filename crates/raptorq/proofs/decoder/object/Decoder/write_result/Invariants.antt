use Rattle.std.proofs.Common.{◌≡◌, length}
use Rattle.raptorq.specs.Decoder.{state_of}
use Rattle.raptorq.proofs.WrittenParts.{WrittenParts}
use Rattle.raptorq.proofs.decoder.object.Decoder.write_result.Given as goal

-- the blocks so far are written
abbrev pub invariant-loop-number : goal.invariant-loop-number
invariant-loop-number l = record {
  long : length l.object ≡ l.fn.self.config.transfer_length;
  parts : WrittenParts (state_of l.fn.self) l.number l.end l.object;
}
