use Rattle.std.proofs.Common.{ap, ◌∙◌, map}
use Rattle.std.proofs.lemmas.List.{length-map}
use Rattle.rq_block.specs.SourceBlockEncoder.{block_encoded_of}
use Rattle.raptorq.specs.Encoder.{no_block}
use Rattle.raptorq.proofs.EncodedBlocks.{encoder_number, by_places}
use Rattle.rq_block.proofs.Numbered.{length-numbered}
use Rattle.raptorq.proofs.encoder.Encoder.get_block_encoders.Goals as goal

pub returns : goal.returns
returns c =
    let s = c.args.self.now in
    let items = s.blocks.items in
    ap (map block_encoded_of) c.as_slice.ensures.value
    ∙ by_places (map block_encoded_of items) (λ b. no_block b s.config.symbol_size) s.config.source_blocks (length-map items block_encoded_of ∙ length-numbered encoder_number s.config.source_blocks items s.numbered)
