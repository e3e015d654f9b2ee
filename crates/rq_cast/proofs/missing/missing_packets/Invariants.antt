use Rattle.std.proofs.Common.{◌≡◌, ℕ, ◌*◌, ◌^◌, ◌<◌, ◌≤◌}
use Rattle.std.specs.Prelude.{IfSome}
use Rattle.raptorq.specs.Decoder.{state_of, missing_of}
use Rattle.raptorq.specs.Unanswered.{TellsMissingOf}
use Rattle.rq_block.specs.MissingPackets.{NeedsMore}
use Rattle.rq_cast.specs.Missing.{sum_below, told_of}
use Rattle.rq_cast.proofs.missing.missing_packets.Given as goal

-- what the blocks so far need
abbrev pub invariant-loop-number : goal.invariant-loop-number
invariant-loop-number l = record {
  sum : l.missing ≡ sum_below (told_of l.decoder) l.number;
  few : l.missing ≤ l.number * 2 ^ 32;
  told : (b : ℕ) → b < l.number → TellsMissingOf ((state_of l.decoder).received b) ((state_of l.decoder).answer b) (missing_of l.decoder b);
  needed : (b : ℕ) → b < l.number → IfSome (missing_of l.decoder b) (NeedsMore ((state_of l.decoder).received b));
}
