-- How the symbols of a block are joined again (RFC 6330, 4.4.1.2), by formulas of places: the inverse of the cut.
use Rattle.std.specs.Prelude.{ℕ, ◌+◌, ◌-◌, ◌*◌, ◌/◌, ◌%◌, List, [], map, slice_index, slice_index_or}
use Rattle.std.specs.List.{range_with_len}
use Rattle.rq_standard.specs.Configuration.{Configuration}
use Rattle.rq_standard.specs.Cutting.{sub_block_size, sub_block_start, symbol_of_block}

-- In a block of k symbols a sub-block takes k times the bytes that it has in each symbol: place i is in the sub-block of byte i/k of a symbol.

-- which symbol of a block of k symbols has a byte at place i
unfoldable pub symbol_of_place : Configuration → ℕ → ℕ → ℕ
symbol_of_place c k i =
    let t = i / k in
    (i - sub_block_start c t * k) / sub_block_size c t

-- which of its bytes that is
unfoldable pub byte_of_place : Configuration → ℕ → ℕ → ℕ
byte_of_place c k i =
    let t = i / k in
    sub_block_start c t + (i - sub_block_start c t * k) % sub_block_size c t

-- the k symbols of a block
abbrev pub symbols_of_block : Configuration → ℕ → List ℕ → List (List ℕ)
symbols_of_block c k block = map (symbol_of_block c k block) (range_with_len 0 k)

-- the block of k symbols
unfoldable pub joined_block : Configuration → ℕ → List (List ℕ) → List ℕ
joined_block c k symbols =
    map (λ i. slice_index (slice_index_or symbols (symbol_of_place c k i) []) (byte_of_place c k i)) (range_with_len 0 (k * c.symbol_size))
