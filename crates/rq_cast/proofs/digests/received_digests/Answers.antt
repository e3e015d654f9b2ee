use Rattle.std.proofs.Common.{◌≡◌, ◌<◌, ◌++◌, map, ap, ◌∙◌, arith}
use Rattle.rq_standard.specs.Configuration.{Configuration}
use Rattle.rq_standard.specs.Cutting.{block_symbols}
use Rattle.rq_standard.proofs.BlockCuts.{block_symbols_few}
use Rattle.raptorq.specs.BlockBytes.{bytes_of_block}
use Rattle.raptorq.specs.Decoder.{state_of}
use Rattle.raptorq.proofs.AnsweredParts.{long_answers}
use Rattle.std.specs.List.{range_with_len}
use Rattle.rq_cast.proofs.SymbolDigests.{digest, block_digests, digests_of_block, digests_next}
use Rattle.rq_cast.proofs.KnownSymbols.{known_symbols}
use Rattle.rq_cast.proofs.digests.received_digests.Goals as goal
use Rattle.rq_cast.proofs.digests.received_digests.Goals.{After-bytes_of_block-block}

module _ (c : After-bytes_of_block-block) where
  abbrev conf : Configuration
  conf = (state_of c.args.decoder.now).configuration

  below : c.loop-number.number < conf.source_blocks
  below = omega (arith, c.loop-number-test.true, c.source_blocks-number-end.ensures, ap (λ (k : Configuration). k.source_blocks) c.get_config-config.ensures)

  counted : c.block_symbols.result ≡ block_symbols conf c.loop-number.number
  counted = c.block_symbols.ensures ∙ ap (λ k. block_symbols k c.loop-number.number) c.get_config-config.ensures

  cut : c.bytes_of_block-block.result.now ≡ bytes_of_block conf c.args.object.now c.loop-number.number
  cut = c.bytes_of_block-block.ensures ∙ ap (λ k. bytes_of_block k c.args.object.now c.loop-number.number) c.get_config-config.ensures

pub push_received-requires-clause-few : goal.push_received-requires-clause-few
push_received-requires-clause-few c =
    let moved = (goal.at.push_received-requires-clause-few c).After-bytes_of_block-block in
    omega (arith, counted moved, block_symbols_few (conf moved) c.loop-number.number (below moved), c.requires.few)

pub push_received-requires-clause-known : goal.push_received-requires-clause-known
push_received-requires-clause-known c =
    let moved = (goal.at.push_received-requires-clause-known c).After-bytes_of_block-block in
    let d = c.args.decoder.now in
    known_symbols (state_of d) (long_answers d) c.args.object.now c.requires.answered c.args.known.now c.requires.known c.loop-number.number (below moved)
    c.get_config-config.result c.block_symbols.result c.bytes_of_block-block.result.now c.get_config-config.ensures (counted moved) (cut moved)

pub loop-number-preserved : goal.loop-number-preserved
loop-number-preserved c =
    let moved = (goal.at.loop-number-preserved c).After-bytes_of_block-block in
    let k = conf moved in
    let object = c.args.object.now in
    let n = c.loop-number.number in
    c.in_ok-push_received.ensures
    ∙ ap (λ xs. c.loop-number.digests.items ++ xs)
    (ap (λ x. map (digest x c.block_symbols.result c.bytes_of_block-block.result.now) (range_with_len 0 c.block_symbols.result)) c.get_config-config.ensures
    ∙ digests_of_block k object n c.block_symbols.result c.bytes_of_block-block.result.now (counted moved) (cut moved))
    ∙ ap (λ xs. xs ++ block_digests k object n) c.loop-number.invariant ∙ digests_next k object n
