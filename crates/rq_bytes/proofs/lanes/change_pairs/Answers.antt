-- What the check leaves to show of `lanes::change_pairs`.
use Rattle.std.proofs.Common.{◌+◌, ◌*◌, refl, arith}
use Rattle.std.proofs.lemmas.Simd.{length-chunk}
use Rattle.rq_bytes.proofs.LaneFacts.{two_made}
use Rattle.rq_bytes.proofs.lanes.change_pairs.Goals as goal

pub lanes-made-requires-clause-long : goal.lanes-made-requires-clause-long
lanes-made-requires-clause-long g c = length-chunk (64 * c.loop-pair.pair) 32 c.loop-pair.octets (omega (arith, c.loop-pair.auto.octets))

pub lanes-made_second-requires-clause-long : goal.lanes-made_second-requires-clause-long
lanes-made_second-requires-clause-long g c = length-chunk (64 * c.loop-pair.pair + 32) 32 c.loop-pair.octets (omega (arith, c.loop-pair.auto.octets))

pub loop-pair-preserved : goal.loop-pair-preserved
loop-pair-preserved g c = two_made (g.O.LaneOperation.made c.args.operation.now) c.loop-pair.octets c.args.octets.now _ 32 _ (64 * (c.loop-pair.pair + 1)) _ _ c.loop-pair.invariant c.lanes-made.ensures refl c.lanes-made_second.ensures (omega arith) (omega arith)
