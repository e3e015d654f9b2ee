use Rattle.std.proofs.Common.{◌≡◌, ◌+◌, ◌*◌, ◌∷◌, [], ◌++◌, map, sym, ap, ◌∙◌, arith}
use Rattle.std.specs.List.{range_with_len}
use Rattle.std.proofs.lemmas.List.FromFn.{map-range_with_len_more}
use Rattle.rq_standard.specs.Cutting.{block_symbols, symbols_before}
use Rattle.rq_standard.proofs.BlockCuts.{symbols_before-first, symbols_before-next, block_symbols_few}
use Rattle.raptorq.specs.Offsets.{block_range}
use Rattle.raptorq.proofs.BlockParts.{product_small}
use Rattle.raptorq.proofs.blocks.block_offsets.Goals as goal

pub loop-number-init : goal.loop-number-init
loop-number-init c = record {
  start = sym (ap (λ n. n * c.args.config.now.symbol_size) (symbols_before-first c.args.config.now) ∙ omega arith);
  offsets = c.in_ok-offsets.ensures.items;
  small = omega arith;
}

pub loop-number-preserved : goal.loop-number-preserved
loop-number-preserved c =
    let k = c.args.config.now in
    let b = c.loop-number.number in
    let kept = c.loop-number.invariant in
    let size : c.from-size.result ≡ k.symbol_size = c.from-size.ensures ∙ c.symbol_size.ensures in
    let count : c.from-in-loop-number.result ≡ block_symbols k b = c.from-in-loop-number.ensures ∙ c.block_symbols.ensures in
    let end : c.loop-number.start + c.from-in-loop-number.result * c.from-size.result ≡ (symbols_before k b + block_symbols k b) * k.symbol_size =
    ap (λ s. s + c.from-in-loop-number.result * c.from-size.result) kept.start ∙ ap (λ n. symbols_before k b * k.symbol_size + n * c.from-size.result) count ∙ ap (λ t. symbols_before k b * k.symbol_size + block_symbols k b * t) size ∙ omega arith in
    record {
      start = end ∙ ap (λ n. n * k.symbol_size) (sym (symbols_before-next k b (omega (arith, c.loop-number-test.true, c.source_blocks-number-end.ensures))));
      offsets = c.in_ok-push.ensures.items ∙ ap (λ xs. xs ++ (c.loop-number.start, c.loop-number.start + c.from-in-loop-number.result * c.from-size.result) ∷ []) kept.offsets
          ∙ ap (λ r. map (block_range k) (range_with_len 0 b) ++ r ∷ []) (λ i. (kept.start i, end i)) ∙ sym (map-range_with_len_more (block_range k) 0 b b (omega arith));
      small = omega (arith, kept.small, product_small c.from-in-loop-number.result c.from-size.result (omega (arith, count, block_symbols_few k b (omega (arith, c.loop-number-test.true, c.source_blocks-number-end.ensures)), c.requires.few)) (omega (arith, size)));
    }
