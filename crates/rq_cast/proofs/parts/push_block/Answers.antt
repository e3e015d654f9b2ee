use Rattle.std.proofs.Common.{◌≡◌, ◌+◌, ◌-◌, ◌*◌, ◌++◌, length, map, take, drop, sym, ap, ◌∙◌, arith, append_assoc}
use Rattle.std.specs.List.{flat_map, range_with_len}
use Rattle.sha2.specs.Sha512.{sha512}
use Rattle.rq_cast.proofs.SymbolDigests.{symbol, digest, sized, length-joined, digests_of_parts, digests_more}
use Rattle.rq_cast.proofs.parts.push_block.Goals as goal
use Rattle.rq_cast.proofs.parts.push_block.Goals.{After-from}

module _ (c : After-from) where
  size : c.from.result ≡ c.args.layout.now.config.symbol_size
  size = c.from.ensures ∙ c.symbol_size.ensures

  -- the symbols that are hashed
  cut : c.as_slice.result.now ≡ flat_map (symbol c.args.layout.now.config c.args.layout.now.source_symbols c.args.block.now) (range_with_len c.loop-first.first c.min-count.result)
  cut =
      let count : c.loop-first.first + c.min-count.result - c.loop-first.first ≡ c.min-count.result = omega arith in
      c.as_slice.ensures.value ∙ c.in_ok-cut_symbols.ensures
      ∙ ap (λ n. flat_map (symbol c.args.layout.now.config c.args.layout.now.source_symbols c.args.block.now) (range_with_len c.loop-first.first n)) count

pub hashes_of-hashes-requires-clause-long : goal.hashes_of-hashes-requires-clause-long
hashes_of-hashes-requires-clause-long c =
    let moved = (goal.at.hashes_of-hashes-requires-clause-long c).After-from in
    let layout = c.args.layout.now in
    ap length (cut moved)
    ∙ length-joined (symbol layout.config layout.source_symbols c.args.block.now) layout.config.symbol_size (sized layout.config layout.source_symbols c.args.block.now) c.loop-first.first c.min-count.result
    ∙ ap (λ n. c.min-count.result * n) (sym (size moved))

pub loop-first-preserved : goal.loop-first-preserved
loop-first-preserved c =
    let moved = (goal.at.loop-first-preserved c).After-from in
    let layout = c.args.layout.now in
    let block = c.args.block.now in
    let first = c.loop-first.first in
    let count = c.min-count.result in
    let bytes = c.as_slice.result.now in
    let kept = c.loop-first.invariant in
    let hashed = c.hashes_of-hashes.ensures ∙ ap (λ t. map (λ i. sha512 (take t (drop (i * t) bytes))) (range_with_len 0 count)) (size moved) in
    record {
      few = omega (arith, c.min-count.ensures, kept.few, c.loop-first-test.true);
      digests = c.in_ok-push_digests.ensures
          ∙ ap (λ xs. c.loop-first.digests.items ++ xs) (digests_of_parts layout.config layout.source_symbols block first count bytes _ (cut moved) hashed)
          ∙ ap (λ xs. xs ++ map (digest layout.config layout.source_symbols block) (range_with_len first count)) kept.digests
          ∙ append_assoc c.args.digests.now.items (map (digest layout.config layout.source_symbols block) (range_with_len 0 first))
          (map (digest layout.config layout.source_symbols block) (range_with_len first count))
          ∙ ap (λ xs. c.args.digests.now.items ++ xs) (digests_more layout.config layout.source_symbols block first count);
    }
