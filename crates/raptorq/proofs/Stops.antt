-- What a decoder of an object did with a packet that it refused.
use Rattle.std.proofs.Common.{subst, inl, inr}
use Rattle.rq_standard.specs.TableRows.{IsChecked}
use Rattle.rq_standard.proofs.Contradictions.{honest_packets_fit}
use Rattle.raptorq.specs.Laws.{HonestIsTaken}
use Rattle.raptorq.proofs.Lists.{packet_refusal-packet}

-- a packet of the object finds no memory, at the worst
pub honest_is_taken : HonestIsTaken
honest_is_taken old p new e honest (inl refused) =
    let shape = honest.stands.follows.shape p.id.block honest.of_object.block in
    absurd (cc (refused.0, packet_refusal-packet honest.table old.configuration honest.object p (subst IsChecked shape.row shape.checked) honest.of_object))
honest_is_taken old p new e honest (inr (inl memory)) = memory.1
honest_is_taken old p new e honest (inr (inr found)) = absurd (honest_packets_fit old p new honest found.2)
