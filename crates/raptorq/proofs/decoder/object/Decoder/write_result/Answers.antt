use Rattle.std.proofs.Common.{◌≡◌, ◌<◌, ◌∙◌, sym, subst, arith}
use Rattle.rq_standard.proofs.OptionValues.{none_otherwise}
use Rattle.raptorq.specs.Decoder.{state_of}
use Rattle.raptorq.proofs.WrittenParts.{WrittenParts, part_there, part_within, written_all, written_next}
use Rattle.raptorq.proofs.decoder.object.Decoder.write_result.Goals.{in-Some, in_default}
use Rattle.raptorq.proofs.decoder.object.Decoder.write_result.Goals as goal

pub write_range-requires : goal.write_range-requires
write_range-requires c =
    let so = c.loop-number.invariant in
    let below : c.loop-number.number < c.args.self.now.config.source_blocks = omega (arith, c.loop-number-test.true, c.source_blocks-number-end.ensures) in
    part_within c.args.self.now c.loop-number.number c.loop-number.end c.loop-number.object c.in-Some.bytes.now so.long so.parts below c.in-Some.ensures.bytes

pub loop-number-preserved : goal.loop-number-preserved
loop-number-preserved c =
    let d = c.args.self.now in
    let n = c.loop-number.number in
    let so = c.loop-number.invariant in
    let below : n < d.config.source_blocks = omega (arith, c.loop-number-test.true, c.source_blocks-number-end.ensures) in
    elim c.match-block_bytes.branch [
      | in-Some w ↦ record {
        long = c.match-block_bytes.auto.object ∙ so.long;
        parts = rw w.end-is (written_next d n c.loop-number.end c.loop-number.object w.in-Some.bytes.now so.long so.parts below w.in-Some.ensures.bytes c.match-block_bytes.object (w.object-is ∙ w.write_range.ensures));
      }
      | in_default w ↦ absurd (part_there d n below c.requires.complete (sym c.block_bytes.ensures.bytes ∙ none_otherwise (λ b. b.now) c.block_bytes.result (λ v e. w.in_default.not-Some v e)))
    ]

pub returns : goal.returns
returns c =
    let d = c.args.self.now in
    let so = c.loop-number.invariant in
    let all : c.loop-number.number ≡ d.config.source_blocks = omega (arith, c.loop-number-test.false, c.loop-number.auto.number-end, c.source_blocks-number-end.ensures) in
    written_all d c.loop-number.end c.loop-number.object so.long c.requires.complete (subst (λ n. WrittenParts (state_of d) n c.loop-number.end c.loop-number.object) all so.parts)
