-- Of a packet's block in an object's decoder, and of answers.
use Rattle.raptorq_c.proofs.Names.{◌≡◌, ◌<◌, ℕ, Result, Ok, Err, refl, sym, ap, ◌∙◌, subst, arith, length, get_or, eq-eqb, lt-ltb, MatchResult, IsAnswer, Error, Configuration, Packet, length-numbered, numbered_at, some_at, block_refusal, size_refusal, state_of, AnswersHere, block_at, AnswersBlock, packet_refusal, Decoder, BlockTakesIt}
use Rattle.rq_standard.specs.ReceivedBlock.{ReceivedBlock}
use Rattle.rq_block.specs.SourceBlockDecoder.{received_of}
use Rattle.raptorq.proofs.ObjectBlocks.{block_number, received_here}
use Rattle.raptorq.specs.declared.decoder.block.ObjectBlock.{ObjectBlock}

-- ---- a packet of a block that the object has

module _ (old : Decoder) (p : Packet) (known : p.id.block < (state_of old).configuration.source_blocks) where
  abbrev number : ℕ
  number = p.id.block

  abbrev received : ReceivedBlock
  received = (block_at old number).received

  below : number < length old.blocks.items
  below = omega (arith, known, length-numbered block_number old.config.source_blocks old.blocks.items old.numbered)

  there : (x : ObjectBlock) × (x ≡ get_or old.blocks.items number x)
  there = some_at old.blocks.items number below

  is_there : received ≡ received_of there.0.decoder
  is_there = received_here old.config old.blocks.items number there.0 below there.1

  own_number : received.number ≡ number
  own_number = ap (λ (h : ReceivedBlock). h.number) is_there ∙ numbered_at block_number old.config.source_blocks old.blocks.items old.numbered number there.0 known there.1

  own_configuration : received.configuration ≡ old.config
  own_configuration = ap (λ (h : ReceivedBlock). h.configuration) is_there ∙ ap (λ (x : ObjectBlock). (received_of x.decoder).configuration) there.1 ∙ old.same number there.0 below

  -- both refuse the same packets
  same_refusal : packet_refusal old.config p ≡ block_refusal received p
  same_refusal =
      let by_object : packet_refusal old.config p ≡ size_refusal old.config p = rw (lt-ltb number old.config.source_blocks known) refl in
      let by_block : block_refusal received p ≡ size_refusal old.config p = rw (eq-eqb number received.number (sym own_number)) (ap (λ (c : Configuration). size_refusal c p) own_configuration) in
      by_object ∙ sym by_block

  answers_at : (middle new : Decoder) (recorded r : Result (Unit {0}) Error) → (state_of middle).configuration ≡ old.config
      → MatchResult recorded (λ _. AnswersBlock middle number r new) (λ e. (r ≡ Err e) × (new ≡ middle))
      → MatchResult recorded (λ _. AnswersHere r (block_at middle number) (block_at new number)) (λ e. (r ≡ Err e) × (block_at new number ≡ block_at middle number))
  answers_at middle new (Ok x) r same answers = (answers.known (subst (λ c. number < c.source_blocks) (sym same) known)).here
  answers_at middle new (Err e) r same stays = (stays.0, ap (λ d. block_at d number) stays.1)

pub block_takes_it : BlockTakesIt
block_takes_it old new p r known t = record {
  recorded = t.recorded;
  middle = block_at t.middle p.id.block;
  tested = subst (IsAnswer (λ _. tt) t.recorded) (same_refusal old p known) t.records.tested;
  records = t.records.block.here;
  answers = answers_at old p known t.middle new t.recorded r t.records.block.configuration t.answers;
}
