-- What both sides know of an object: the object transmission information (RFC 6330, 3.3.2 and 3.3.3).
use Rattle.std.specs.Prelude.{◌≡◌, ℕ, ◌%◌, ◌^◌, ◌<◌, ◌≤◌, List, [], ◌∷◌, ◌++◌, take, drop, slice_index}
use Rattle.std.specs.Int.{w16, w64, to_be_bytes, from_be_bytes, div_ceil}

pub record Configuration : Type 0 where
  -- F, in bytes
  pub transfer_length : ℕ
  -- T, in bytes
  pub symbol_size : ℕ
  -- Z
  pub source_blocks : ℕ
  -- N, where 0 means 1
  pub sub_blocks : ℕ
  -- Al, in bytes
  pub alignment : ℕ

-- Kt, the number of source symbols of the object
abbrev pub total_symbols : Configuration → ℕ
total_symbols c = div_ceil c.transfer_length c.symbol_size

-- how many source symbols the largest source block has
abbrev pub largest_block : Configuration → ℕ
largest_block c = div_ceil (total_symbols c) c.source_blocks

-- a configuration that coders take, over a table whose greatest row has this many symbols
pub record IsAccepted (greatest : ℕ) (c : Configuration) : Type 0 where
  pub size_positive : 0 < c.symbol_size
  pub alignment_positive : 0 < c.alignment
  pub aligned : c.symbol_size % c.alignment ≡ 0
  pub blocks_positive : 0 < c.source_blocks
  pub in_table : largest_block c ≤ greatest

-- a configuration whose symbols are cut in whole units of the alignment
pub record IsAligned (c : Configuration) : Type 0 where
  pub alignment_positive : 0 < c.alignment
  pub aligned : c.symbol_size % c.alignment ≡ 0

-- numbers that fit the header's bytes
pub record IsConfiguration (c : Configuration) : Type 0 where
  pub length_fits : c.transfer_length < 2 ^ 40
  pub size_fits : c.symbol_size < 2 ^ 16
  pub blocks_fit : c.source_blocks < 2 ^ 8
  pub sub_blocks_fit : c.sub_blocks < 2 ^ 16
  pub alignment_fits : c.alignment < 2 ^ 8

-- The header of 12 bytes: F in five, a reserved zero, T in two, Z in one, N in two, Al in one.
unfoldable pub header_bytes : Configuration → List ℕ
header_bytes c =
    drop 3 (to_be_bytes w64 c.transfer_length)
    ++ 0 ∷ to_be_bytes w16 c.symbol_size ++ c.source_blocks ∷ to_be_bytes w16 c.sub_blocks ++ c.alignment ∷ []

-- the configuration that 12 bytes spell, whatever the reserved byte is
unfoldable pub configuration_of_bytes : List ℕ → Configuration
configuration_of_bytes b = record {
  transfer_length = from_be_bytes w64 (0 ∷ 0 ∷ 0 ∷ take 5 b);
  symbol_size = from_be_bytes w16 (take 2 (drop 6 b));
  source_blocks = slice_index b 8;
  sub_blocks = from_be_bytes w16 (take 2 (drop 9 b));
  alignment = slice_index b 11;
}
