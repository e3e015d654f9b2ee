use Rattle.std.proofs.Common.{sym, ◌∙◌}
use Rattle.rq_standard.specs.DecoderState.{result_of}
use Rattle.rq_standard.proofs.OptionValues.{none_is}
use Rattle.raptorq.specs.Decoder.{state_of}
use Rattle.raptorq.proofs.decoder.object.Decoder.get_result.Goals as goal

pub returns-then-not-is_complete : goal.returns-then-not-is_complete
returns-then-not-is_complete c = record {
  answer = sym (none_is (result_of (state_of c.args.self.now)) (sym c.is_complete.ensures ∙ c.if-not-is_complete.true));
  memory = tt;
  complete = tt;
}
