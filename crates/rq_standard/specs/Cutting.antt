-- How an object is cut into source blocks, sub-blocks and symbols (RFC 6330, 4.4.1), by formulas of places.
use Rattle.std.specs.Prelude.{ℕ, zero, suc, ◌+◌, ◌-◌, ◌*◌, ◌/◌, min, List, map, slice_index, if◌then◌else◌, nat_lt}
use Rattle.std.specs.List.{range_with_len}
use Rattle.rq_standard.specs.Partition.{Parts, parts_of}
use Rattle.rq_standard.specs.Configuration.{Configuration, total_symbols}

-- ZL, KL, ZS and KS: the larger source blocks come first
abbrev pub block_parts : Configuration → Parts
block_parts c = parts_of (total_symbols c) c.source_blocks

-- K, the number of source symbols of a block
unfoldable pub block_symbols : Configuration → ℕ → ℕ
block_symbols c b =
    let p = block_parts c in
    if nat_lt b p.larger_count then p.larger
    else if nat_lt b c.source_blocks then p.smaller
    else 0

-- how many source symbols the blocks before it have
unfoldable pub symbols_before : Configuration → ℕ → ℕ
symbols_before c b =
    let p = block_parts c in
    min b p.larger_count * p.larger + (b - p.larger_count) * p.smaller

-- N, at least 1
unfoldable pub sub_block_count : ℕ → ℕ
sub_block_count zero = 1
sub_block_count (suc n) = suc n

-- NL, TL, NS and TS, in units of the alignment: the larger sub-blocks come first
abbrev pub sub_block_parts : Configuration → Parts
sub_block_parts c = parts_of (c.symbol_size / c.alignment) (sub_block_count c.sub_blocks)

-- where the smaller sub-blocks begin in a symbol, in bytes
abbrev pub larger_bytes : Configuration → ℕ
larger_bytes c =
    let p = sub_block_parts c in
    p.larger_count * (p.larger * c.alignment)

-- the size of the sub-block that has byte t of a symbol, in bytes
unfoldable pub sub_block_size : Configuration → ℕ → ℕ
sub_block_size c t =
    let p = sub_block_parts c in
    if nat_lt t (larger_bytes c) then p.larger * c.alignment else p.smaller * c.alignment

-- where that sub-block begins in a symbol, in bytes
unfoldable pub sub_block_start : Configuration → ℕ → ℕ
sub_block_start c t =
    let z = sub_block_size c t in
    if nat_lt t (larger_bytes c) then t / z * z else larger_bytes c + (t - larger_bytes c) / z * z

-- Where byte t of symbol e stands in a block of k symbols: each symbol's part of the first sub-block comes first, in the symbols' order, and so on.
unfoldable pub place_in_block : Configuration → ℕ → ℕ → ℕ → ℕ
place_in_block c k e t =
    let o = sub_block_start c t in
    o * k + sub_block_size c t * e + (t - o)

-- the bytes of a block; past the object's end they are zeros
unfoldable pub block_bytes : Configuration → List ℕ → ℕ → List ℕ
block_bytes c object b = map (λ i. slice_index object (symbols_before c b * c.symbol_size + i)) (range_with_len 0 (block_symbols c b * c.symbol_size))

-- symbol e of a block of k symbols
unfoldable pub symbol_of_block : Configuration → ℕ → List ℕ → ℕ → List ℕ
symbol_of_block c k block e = map (λ t. slice_index block (place_in_block c k e t)) (range_with_len 0 c.symbol_size)

-- source symbol e of block b of an object
abbrev pub source_symbol : Configuration → List ℕ → ℕ → ℕ → List ℕ
source_symbol c object b e = symbol_of_block c (block_symbols c b) (block_bytes c object b) e
