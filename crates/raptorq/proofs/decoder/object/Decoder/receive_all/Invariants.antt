use Rattle.std.proofs.Common.{◌≡◌, [], ◌++◌, Ok}
use Rattle.std.specs.Vec.Iter.{into_iter_items}
use Rattle.raptorq.specs.Decoder.{state_of}
use Rattle.rq_standard.specs.Following.{FollowsRun}
use Rattle.raptorq.specs.Runs.{packets_of, IsRefusalBehind}
use Rattle.raptorq.proofs.decoder.object.Decoder.receive_all.Given as goal

-- nothing is refused of the packets so far, and the decoder follows them
abbrev pub invariant-loop-step : goal.invariant-loop-step
invariant-loop-step l = record {
  configuration : (state_of l.decoder).configuration ≡ l.fn.config;
  whole : l.fn.steps.items ≡ l.yielded ++ into_iter_items l.step-iterator;
  passed : IsRefusalBehind l.fn.table l.fn.config [] (packets_of l.yielded) (Ok tt);
  follows : FollowsRun l.fn.table (packets_of l.yielded) (state_of l.decoder);
}
