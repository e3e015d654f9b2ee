-- What the calls on lengths answer.
use Rattle.raptorq_c.proofs.Names.{◌≡◌, ◌<◌, ℕ, List, Ok, Err, refl, sym, ap, ◌∙◌, subst, cond, eqb, ltb, length, lt-ltb, length-map-range_with_len, and_then, SymbolSizeZero, TooManySymbols, SourceBlocksZero, UnknownBlock, configuration_of_bytes, Configuration, largest_block, MAX_SOURCE_SYMBOLS_PER_BLOCK, ok_of, passed, same_ok}
use Rattle.raptorq_c.proofs.Names.{block_range, block_offsets, checked_offsets, part_of_block}

-- what isn't refused are the places of all blocks
pub offsets_of : (c : Configuration) (xs : List (ℕ × ℕ)) → checked_offsets c ≡ Ok xs → xs ≡ block_offsets c
offsets_of c xs h =
    let size = passed (eqb c.symbol_size 0) SymbolSizeZero _ xs h in
    let blocks = passed (eqb c.source_blocks 0) SourceBlocksZero _ xs size.1 in
    sym (same_ok (block_offsets c) xs (passed (ltb MAX_SOURCE_SYMBOLS_PER_BLOCK (largest_block c)) TooManySymbols _ xs blocks.1).1)

pub offset_count : (c : Configuration) (xs : List (ℕ × ℕ)) → checked_offsets c ≡ Ok xs → length xs ≡ c.source_blocks
offset_count c xs h = ap length (offsets_of c xs h) ∙ length-map-range_with_len (block_range c) 0 c.source_blocks

-- of a block that the object has
pub range_of_block : (header : List ℕ) (b : ℕ) (d : Configuration) (xs : List (ℕ × ℕ)) → d ≡ configuration_of_bytes header → checked_offsets d ≡ Ok xs → b < d.source_blocks → part_of_block header b ≡ ok_of (block_range d b)
range_of_block header b d xs same is below =
    subst (λ k. and_then (checked_offsets k) (λ _. cond (ltb b k.source_blocks) (Ok (block_range k b)) (Err UnknownBlock)) ≡ Ok (block_range d b)) same (rw (is, lt-ltb b d.source_blocks below) refl)
