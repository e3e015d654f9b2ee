use Rattle.std.proofs.Common.{sym, ◌∙◌}
use Rattle.std.proofs.lemmas.Result.{err_from_is_err_and}
use Rattle.rq_standard.specs.DecoderState.{result_of}
use Rattle.raptorq.specs.Decoder.{state_of}
use Rattle.rq_streams.specs.Counted.{inner}
use Rattle.rq_streams.proofs.WrittenBlocks.{flushed, not_flushed}
use Rattle.rq_streams.proofs.receive.write_object.Goals as goal

pub returns-in_err-flush-clause-ends : goal.returns-in_err-flush-clause-ends
returns-in_err-flush-clause-ends g c =
    let p = err_from_is_err_and c.from_residual-in_err-flush.result c.from_residual-in_err-flush.ensures.1 in
    rw (p.1, p.2) (not_flushed (result_of (state_of c.args.decoder.now)) (g.W.Write.contents (inner c.args.writer.now)) (g.W.Write.contents (inner c.write_blocks.new.writer)) (g.W.Write.contents (inner c.flush.new.writer))
    (sym c.is_complete.ensures ∙ c.if-not-is_complete.false) c.in_ok-write_blocks.ensures.bytes c.in_err-flush.ensures.bytes c.in_err-flush.field-0.0 c.in_err-flush.ensures.err)

pub returns-clause-ends : goal.returns-clause-ends
returns-clause-ends g c =
    flushed (result_of (state_of c.args.decoder.now)) (g.W.Write.contents (inner c.args.writer.now)) (g.W.Write.contents (inner c.write_blocks.new.writer)) (g.W.Write.contents (inner c.flush.new.writer))
    (sym c.is_complete.ensures ∙ c.if-not-is_complete.false) c.in_ok-write_blocks.ensures.bytes c.in_ok-flush.ensures.bytes
