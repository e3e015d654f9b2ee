-- Packets of a block in a buffer, and what calls for them answer.
use Rattle.raptorq_c.proofs.Names.{◌≡◌, ◌<◌, ℕ, List, Err, refl, sym, ap, ◌∙◌, subst, arith, ◌≤◌, map, length, get_or, ◌-◌, le-ltb, lt-ltb, range_with_len, UnknownBlock, ok_of, length-mapped, mapped_at, BlockEncoded, block_encoded_of, SourceBlockEncoder, Encoded, block_in}

-- ---- a block of an object

module _ (e : Encoded) (blocks : List SourceBlockEncoder) (i : ℕ) (are : map block_encoded_of blocks ≡ map e.block (range_with_len 0 e.configuration.source_blocks)) where
  counted : length blocks ≡ e.configuration.source_blocks
  counted = length-mapped block_encoded_of e.block e.configuration.source_blocks blocks are

  pub block_found : (x : SourceBlockEncoder) → i < length blocks → x ≡ get_or blocks i x → block_in e i ≡ ok_of (block_encoded_of x)
  block_found x within is =
      let below : i < e.configuration.source_blocks = omega (arith, within, counted) in
      let known : block_in e i ≡ ok_of (e.block i) = rw (lt-ltb i e.configuration.source_blocks below) refl in
      known ∙ ap (λ (b : BlockEncoded). ok_of b) (sym (mapped_at block_encoded_of e.block e.configuration.source_blocks blocks are i x below is))

  pub block_missing : length blocks ≤ i → block_in e i ≡ Err UnknownBlock
  block_missing past = rw (le-ltb i e.configuration.source_blocks (subst (λ n. n ≤ i) counted past)) refl
