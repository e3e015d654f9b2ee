use Rattle.std.proofs.Common.{refl}
use Rattle.rq_streams.proofs.program.run_words.Goals as goal

pub returns-clause-unasked : goal.returns-clause-unasked
returns-clause-unasked g c = (λ none. absurd (cc none), λ no. absurd (no c.in_ok-asked.asked ((c.in_ok-asked.ensures c.in_ok-asked.asked).0 refl)))
