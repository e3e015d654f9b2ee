use Rattle.rq_standard.proofs.Contradictions.{contradicts_more, determined_by_ids, contradictions_are_kept, no_more}
use Rattle.rq_standard.proofs.ObjectAnswers.{contradictory_is_none}
use Rattle.raptorq.proofs.laws.contradictions.Goals as goal

pub returns : goal.returns
returns c = record { ids = determined_by_ids; stay = contradicts_more; kept = contradictions_are_kept; none_taken = no_more; no_object = contradictory_is_none }
