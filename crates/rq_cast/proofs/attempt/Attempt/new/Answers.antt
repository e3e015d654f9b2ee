use Rattle.raptorq.specs.Decoder.{state_of}
use Rattle.rq_cast.proofs.Attempts.{not_named_yet, knows_none}
use Rattle.rq_cast.proofs.attempt.Attempt.new.Goals as goal

pub returns-clause-attempt : goal.returns-clause-attempt
returns-clause-attempt c =
    let new = c.in_ok-decoder.ensures.state in
    let state = state_of c.in_ok-decoder.decoder in
    let table = c.args.table.now in
    let k = c.args.head.now.configuration in
    record {
      few = c.in_ok-check.ensures.few;
      configuration = new.configuration;
      knows = knows_none table k state new c.new-known.result c.new-known.ensures;
      object = not_named_yet table k state new c.args.head.now;
    }
