use Rattle.rq_standard.proofs.FollowingSteps.{taken_is_followed, taken_is_tried, recorded_is_late}
use Rattle.raptorq.proofs.FollowedRuns.{taken_is_next, refused_is_next}
use Rattle.raptorq.proofs.laws.followed_packets.Goals as goal

pub returns : goal.returns
returns c = record { followed = taken_is_followed; tried = taken_is_tried; late = recorded_is_late; taken = taken_is_next; refused = refused_is_next }
