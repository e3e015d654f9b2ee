-- What a decoder keeps of a block is of its configuration.
use Rattle.std.proofs.Common.{◌≡◌, ℕ, ◌<◌, List, [], ◌∷◌, length, get_or, ap, ◌∙◌, arith}
use Rattle.std.proofs.lemmas.List.{get_or_default}
use Rattle.rq_standard.specs.Configuration.{Configuration}
use Rattle.rq_standard.specs.Cutting.{block_symbols}
use Rattle.rq_standard.specs.ReceivedBlock.{ReceivedBlock}
use Rattle.rq_block.proofs.Numbered.{length-numbered, numbered_at}
use Rattle.raptorq.specs.declared.decoder.block.ObjectBlock.{ObjectBlock}
use Rattle.raptorq.specs.declared.decoder.object.Decoder.{Decoder}
use Rattle.raptorq.specs.Decoder.{state_of}
use Rattle.raptorq.proofs.ObjectBlocks.{block_number, received_here}

some_block : (items : List ObjectBlock) (n : ℕ) → n < length items → ObjectBlock
some_block [] n below = absurd (omega arith)
some_block (x ∷ items) n below = x

abbrev IsShaped : Configuration → ℕ → ReceivedBlock → Type 0
IsShaped c b h = (h.configuration ≡ c) × (h.source_symbols ≡ block_symbols c b)

pub shaped : (d : Decoder) (b : ℕ) → b < (state_of d).configuration.source_blocks → IsShaped (state_of d).configuration b ((state_of d).received b)
shaped d b below =
    let items = d.blocks.items in
    let within : b < length items = omega (arith, below, length-numbered block_number d.config.source_blocks items d.numbered) in
    let first = some_block items b within in
    let x = get_or items b first in
    let is : x ≡ get_or items b x = get_or_default items b first x within in
    let here = received_here d.config items b x within is in (
      ap (λ (h : ReceivedBlock). h.configuration) here ∙ d.same b first within,
      ap (λ (h : ReceivedBlock). h.source_symbols) here ∙ d.cut b first within
          ∙ ap (block_symbols d.config) (numbered_at block_number d.config.source_blocks items d.numbered b x below is),
    )
