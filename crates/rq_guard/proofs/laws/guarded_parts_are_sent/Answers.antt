use Rattle.rq_cast.proofs.SentReceived.{have_bytes}
use Rattle.rq_guard.proofs.laws.guarded_parts_are_sent.Goals as goal

pub returns : goal.returns
returns c = λ order key input of each. (λ i below. (each i below).part.sends, have_bytes order.part input)
