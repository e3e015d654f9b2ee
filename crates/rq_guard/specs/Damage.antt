-- Which symbols of a part are damaged where a file has them, and the cells of those that are whole.
use Rattle.std.specs.Prelude.{◌≡◌, ℕ, ◌-◌, ◌<◌, ◌^◌, List, [], ◌++◌, length, take, map, filter, replicate, slice_index_or, Bool, not, nat_eq, nat_le, if◌then◌else◌}
use Rattle.std.specs.List.{range_with_len}
use Rattle.std.specs.Cmp.Lexicographic.{pointwise}
use Rattle.rq_standard.specs.Configuration.{IsAligned, total_symbols}
use Rattle.rq_standard.specs.Cutting.{symbol_of_block, source_symbol}
use Rattle.rq_block.specs.declared.sub_blocks.BlockLayout.{BlockLayout}
use Rattle.rq_cells.specs.declared.head.Head.{Head}
use Rattle.rq_cells.specs.declared.cell.Cell.{Cell}
use Rattle.rq_cells.specs.Cells.{digest_of}
use Rattle.rq_cast.specs.Parts.{source_digests, object_of}
use Rattle.rq_guard.specs.Lists.{Listed, listed_length}

-- The list is of a part that is one block, and which coders take: it has as many digests as that has symbols.
pub record IsList (l : Listed) : Type 0 where
  pub positive : 0 < l.head.configuration.symbol_size
  pub aligned : IsAligned l.head.configuration
  pub one_block : l.head.configuration.source_blocks ≡ 1
  pub few : total_symbols l.head.configuration < 65536
  pub each : length l.digests ≡ total_symbols l.head.configuration

-- ---- a part, as a file has it

-- it is the last one
abbrev pub is_last_part : Head → Bool
is_last_part h = nat_le (2 ^ 31) h.number

-- how many bytes of the file it has: all of its object, but for the 32 of the seal that ends the last one
abbrev pub part_length : Head → ℕ
part_length h = h.configuration.transfer_length - (if is_last_part h then 32 else 0)

-- so many bytes, with zeros where these end before
abbrev pub filled_up : ℕ → List ℕ → List ℕ
filled_up n bytes = take n bytes ++ replicate (n - length bytes) 0

-- its object by the bytes that stand in its place in a file, behind parts of these names
abbrev pub object_there : Head → List (List ℕ) → List ℕ → List ℕ
object_there h names bytes = object_of (is_last_part h) names (filled_up (part_length h) bytes)

-- ---- its symbols

-- the listed digest of a number is that of a symbol
abbrev pub is_whole : List (List ℕ) → List (List ℕ) → ℕ → Bool
is_whole listed digests e = pointwise nat_eq (slice_index_or listed e []) (take listed_length (slice_index_or digests e []))

-- the numbers of the symbols of an object that are so, and those of the others
abbrev pub whole_among : List (List ℕ) → List (List ℕ) → List ℕ
whole_among listed digests = filter (is_whole listed digests) (range_with_len 0 (length listed))

abbrev pub damaged_among : List (List ℕ) → List (List ℕ) → List ℕ
damaged_among listed digests = filter (λ e. not (is_whole listed digests e)) (range_with_len 0 (length listed))

-- the damaged symbols of an object
abbrev pub damaged_symbols : Listed → List ℕ → List ℕ
damaged_symbols l object = damaged_among l.digests (source_digests l.head.configuration object)

-- the cell of a symbol of an object that is one block
abbrev pub source_cell : Head → List ℕ → ℕ → Cell
source_cell h object e = record { head = h; packet = record { id = record { block = 0; esi = e }; payload = source_symbol h.configuration object 0 e } }

-- those of its whole symbols
abbrev pub whole_cells : Listed → List ℕ → List Cell
whole_cells l object = map (source_cell l.head object) (whole_among l.digests (source_digests l.head.configuration object))

-- ---- so by a block's bytes

-- the cell of a symbol of a block
abbrev pub cell_of_block : Head → BlockLayout → List ℕ → ℕ → Cell
cell_of_block h layout block e =
    record { head = h; packet = record { id = record { block = 0; esi = e }; payload = symbol_of_block layout.config layout.source_symbols block e } }

-- each of these is the digest of a symbol
abbrev pub AreDigests : BlockLayout → List ℕ → List (List ℕ) → Type 0
AreDigests layout block digests =
    (e : ℕ) → e < length digests → slice_index_or digests e [] ≡ digest_of (symbol_of_block layout.config layout.source_symbols block e)
