use Rattle.std.proofs.Common.{Ok, Err}
use Rattle.std.proofs.lemmas.Result.{err_from_is_err_and}
use Rattle.rq_standard.specs.DecoderState.{result_of}
use Rattle.raptorq.specs.Decoder.{state_of}
use Rattle.rq_streams.specs.Counted.{inner}
use Rattle.rq_streams.proofs.Streaming.{receives_stopped, receives_answer, receives_refusal}
use Rattle.rq_streams.proofs.receive.run_receive.Goals as goal

pub returns-in_err-bytes-clause-receives : goal.returns-in_err-bytes-clause-receives
returns-in_err-bytes-clause-receives g c =
    let p = err_from_is_err_and c.from_residual.result c.from_residual.ensures.1 in
    rw (p.1, p.2) (receives_stopped c.args.table.now c.in_err-bytes.field-0.0 (g.R.Read.remaining (inner c.args.reader.now)) (g.W.Write.contents (inner c.args.writer.now)) c.in_err-bytes.ensures.err)

pub returns-in_err-decoder-clause-receives : goal.returns-in_err-decoder-clause-receives
returns-in_err-decoder-clause-receives g c =
    let p = err_from_is_err_and c.from_residual-in_err-decoder.result c.from_residual-in_err-decoder.ensures.1 in
    rw (p.1, p.2) (receives_refusal c.args.table.now (g.R.Read.remaining (inner c.args.reader.now)) c.in_ok-bytes.bytes.items c.in_ok-bytes.ensures.bytes
    c.in_err-decoder.field-0.0 (g.W.Write.contents (inner c.args.writer.now)) c.in_err-decoder.ensures.refused c.in_err-decoder.ensures.memory)

pub returns-in_err-write_object-clause-receives : goal.returns-in_err-write_object-clause-receives
returns-in_err-write_object-clause-receives g c =
    let d = c.in_ok-decoder.ensures in
    let p = err_from_is_err_and c.from_residual-in_err-write_object.result c.from_residual-in_err-write_object.ensures.1 in
    rw (p.1, p.2) (receives_answer c.args.table.now (g.R.Read.remaining (inner c.args.reader.now)) c.in_ok-bytes.bytes.items c.in_ok-bytes.ensures.bytes
    (Err c.in_err-write_object.field-0.0) (g.W.Write.contents (inner c.args.writer.now)) (g.W.Write.contents (inner c.write_object.new.writer)) (result_of (state_of c.in_ok-decoder.decoder))
    d.refused d.follows d.answer tt c.in_err-write_object.ensures.ends)

pub returns-clause-receives : goal.returns-clause-receives
returns-clause-receives g c =
    let d = c.in_ok-decoder.ensures in
    receives_answer c.args.table.now (g.R.Read.remaining (inner c.args.reader.now)) c.in_ok-bytes.bytes.items c.in_ok-bytes.ensures.bytes
    (Ok (c.in_ok-write_object.field-0, c.in_ok-decoder.skipped)) _ _ (result_of (state_of c.in_ok-decoder.decoder))
    d.refused d.follows d.answer d.skipped c.in_ok-write_object.ensures.ends
