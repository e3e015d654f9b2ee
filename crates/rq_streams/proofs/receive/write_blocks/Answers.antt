use Rattle.std.proofs.Common.{◌≡◌, ◌+◌, ◌<◌, take, ap, ◌∙◌, subst, sym, arith}
use Rattle.std.proofs.lemmas.Result.{err_from_is_err_and}
use Rattle.std.specs.Io.KnownBytes.{Appends}
use Rattle.rq_standard.proofs.OptionValues.{none_otherwise}
use Rattle.raptorq.specs.Decoder.{state_of}
use Rattle.rq_streams.specs.Counted.{inner}
use Rattle.rq_streams.proofs.WrittenBlocks.{written_parts, written_object, written_next, written_not, written_beginning}
use Rattle.rq_streams.proofs.receive.write_blocks.Goals as goal
use Rattle.rq_streams.proofs.receive.write_blocks.Goals.{in-Some+in_ok-write_bytes, in_default}

pub returns-in_err-write_bytes-clause-beginning : goal.returns-in_err-write_bytes-clause-beginning
returns-in_err-write_bytes-clause-beginning g c =
    let s = state_of c.args.decoder.now in
    let old = g.W.Write.contents (inner c.args.writer.now) in
    let mid = g.W.Write.contents (inner c.loop-number.writer) in
    let new = g.W.Write.contents (inner c.write_bytes.new.writer) in
    let below : c.loop-number.number < s.configuration.source_blocks = omega (arith, c.loop-number-test.true, c.source_blocks-number-end.ensures, ap (λ k. k.source_blocks) c.get_config.ensures) in
    let stopped = c.in_err-write_bytes.ensures.beginning in
    let begun = written_beginning s c.loop-number.number stopped.0 s.configuration.source_blocks c.in-Some.bytes.now old mid new below c.in-Some.ensures.bytes c.loop-number.invariant.bytes stopped.1 in
    let p = err_from_is_err_and c.from_residual.result c.from_residual.ensures.1 in
    rw p.1 (begun.0, subst (λ xs. Appends old new (take begun.0 xs)) (written_object c.args.decoder.now c.requires.whole) begun.1)

pub loop-number-preserved : goal.loop-number-preserved
loop-number-preserved g c =
    let s = state_of c.args.decoder.now in
    let n = c.loop-number.number in
    let old = g.W.Write.contents (inner c.args.writer.now) in
    let mid = g.W.Write.contents (inner c.loop-number.writer) in
    let done = c.loop-number.invariant in
    elim c.match-block_bytes.branch [
      | in-Some+in_ok-write_bytes w ↦ record {
        bytes = subst (λ x. Appends old (g.W.Write.contents (inner x)) (written_parts s (n + 1))) (sym w.writer-is)
            (written_next s n w.in-Some.bytes.now old mid (g.W.Write.contents (inner w.write_bytes.new.writer)) w.in-Some.ensures.bytes done.bytes w.in_ok-write_bytes.ensures.bytes);
        count = omega (arith, ap (λ x. x.failed) w.writer-is, w.in_ok-write_bytes.ensures.counts, done.count);
      }
      | in_default w ↦ record {
        bytes = subst (λ x. Appends old (g.W.Write.contents (inner x)) (written_parts s (n + 1))) (sym w.writer-is)
            (written_not s n old mid (sym (none_otherwise (λ x. x.now) c.block_bytes.result (λ v is. w.in_default.not-Some v is)) ∙ c.block_bytes.ensures.bytes) done.bytes);
        count = ap (λ x. x.failed) w.writer-is ∙ done.count;
      }
    ]

pub returns-clause-bytes : goal.returns-clause-bytes
returns-clause-bytes g c =
    let s = state_of c.args.decoder.now in
    let old = g.W.Write.contents (inner c.args.writer.now) in
    let new = g.W.Write.contents (inner c.loop-number.writer) in
    let all : c.loop-number.number ≡ s.configuration.source_blocks = omega (arith, c.loop-number-test.false, c.loop-number.auto.number-end, c.source_blocks-number-end.ensures, ap (λ k. k.source_blocks) c.get_config.ensures) in
    subst (Appends old new) (ap (written_parts s) all ∙ written_object c.args.decoder.now c.requires.whole) c.loop-number.invariant.bytes
