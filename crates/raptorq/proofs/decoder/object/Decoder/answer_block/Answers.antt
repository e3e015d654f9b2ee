use Rattle.std.proofs.Common.{◌<◌, length, refl, arith}
use Rattle.rq_block.proofs.Numbered.{length-numbered}
use Rattle.raptorq.specs.InTurn.{AnswersHere}
use Rattle.raptorq.proofs.InTurn.{answers_number}
use Rattle.raptorq.proofs.ObjectBlocks.{block_number, blocks_same, changes_block}
use Rattle.raptorq.proofs.decoder.object.Decoder.answer_block.Goals as goal
use Rattle.raptorq.proofs.decoder.object.Decoder.answer_block.Goals.{Else-number-len}

module _ (c : Else-number-len) where
  below : c.from-number.result < length c.args.self.now.blocks.items
  below = omega (arith, c.if-number-len.false, c.len.ensures, c.args.self.now.blocks.ok.0)

pub invariant_of-self : goal.invariant_of-self
invariant_of-self c =
    let s = c.args.self.now in
    let made = c.find_answer.ensures in
    let within = below (goal.at.invariant_of-self c).Else-number-len in
    let blocks = blocks_same s c.from-number.result c.index_mut.result.now c.find_answer.new.self within c.index_mut.ensures.value made.number made.configuration made.symbols in
    record { positive = s.positive; aligned = s.aligned; some = s.some; numbered = blocks.numbered; same = blocks.same; cut = blocks.cut }

pub returns-then-number-len : goal.returns-then-number-len
returns-then-number-len c =
    let s = c.args.self.now in
    let count = length-numbered block_number s.config.source_blocks s.blocks.items s.numbered in
    record {
      known = λ known. absurd (omega (arith, known, count, s.blocks.ok.0, c.if-number-len.true, c.len.ensures, c.from-number.ensures));
      unknown = λ unknown. (refl, refl);
    }

pub returns : goal.returns
returns c =
    let s = c.args.self.now in
    let count = length-numbered block_number s.config.source_blocks s.blocks.items s.numbered in
    let within = below (goal.at.returns c).Else-number-len in
    let r = c.find_answer.result in
    answers_number s _ c.args.source_block_number c.from-number.result r c.from-number.ensures (omega (arith, within, count))
    (changes_block s _ c.from-number.result c.index_mut.result.now c.find_answer.new.self within c.index_mut.ensures.value refl refl (AnswersHere r) c.find_answer.ensures.answers)
