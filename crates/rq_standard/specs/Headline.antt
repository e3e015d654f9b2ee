-- The headline and all that it says, down to the equations of RFC 6330, sections 5.3 and 5.4. Read it from the end: the last definitions are what
-- `decode_all` promises, each in words of those above it.
use Rattle.std.specs.Prelude.{◌≡◌, ◌↔◌, ℕ, ◌+◌, ◌-◌, ◌<◌, ◌^◌, Bool, true, if◌then◌else◌, nat_lt, List, length, map, Option, Some, IsSome}
use Rattle.std.specs.List.{range_with_len, AllByRecursion}
use Rattle.rq_algebra.specs.Systems.{dot, Solves, IsColumn}
use Rattle.rq_algebra.specs.Symbols.{IsSymbolColumn, SolvesSymbols}
use Rattle.rq_standard.specs.declared.row.TableRow.{TableRow}
use Rattle.rq_standard.specs.OctetField.{octets}
use Rattle.rq_standard.specs.TableRows.{intermediate_symbols, row_of}
use Rattle.rq_standard.specs.Configuration.{Configuration}
use Rattle.rq_standard.specs.Cutting.{block_symbols, source_symbol}
use Rattle.rq_standard.specs.Packet.{Packet}
use Rattle.rq_standard.specs.Received.{has_id}
use Rattle.rq_standard.specs.Equations.{precode_equations, symbol_coefficient, equations, equation_count, equation_values, extended_ids, tuple_sum, internal_id}

-- ---- which symbols determine a block

-- a column of octets solves the LDPC and HDPC equations, and those of the known internal symbol ids, with all values zero
pub record SolvesZeros (row : TableRow) (known : ℕ → Bool) (column : ℕ → ℕ) : Type 0 where
  pub precode : Solves octets (row.ldpc_symbols + row.hdpc_symbols) (intermediate_symbols row) (precode_equations row) column (λ _. 0)
  pub each : (x : ℕ) → known x ≡ true → dot octets (intermediate_symbols row) (symbol_coefficient row x) column ≡ 0

-- The known internal symbol ids determine the intermediate symbols: only a column of zeros solves these equations with all values zero.
abbrev pub AreDetermined : TableRow → (ℕ → Bool) → Type 0
AreDetermined row known =
    (column : ℕ → ℕ) → IsColumn octets (intermediate_symbols row) column
    → SolvesZeros row known column → (k : ℕ) → k < intermediate_symbols row → column k ≡ 0

-- a row is nonsingular where the ids below K', those of source and padding symbols, determine
abbrev pub IsNonsingular : TableRow → Type 0
IsNonsingular row = AreDetermined row (λ x. nat_lt x row.extended_symbols)

abbrev pub IsSingular : TableRow → Type 0
IsSingular row = ¬ (IsNonsingular row)

-- which internal symbol ids are known in a block of k source symbols: those of the encoding symbol ids that were received, and the padding
abbrev pub known_ids : TableRow → ℕ → (ℕ → Bool) → ℕ → Bool
known_ids row k has x =
    if nat_lt x k then has x
    else if nat_lt x row.extended_symbols then true
    else has (x + k - row.extended_symbols)

-- the encoding symbol ids that were received determine the block
abbrev pub DetermineBlock : TableRow → ℕ → (ℕ → Bool) → Type 0
DetermineBlock row k has = AreDetermined row (known_ids row k has)

-- ---- the packets of an object

-- the row of a block
abbrev pub block_row : List TableRow → Configuration → ℕ → TableRow
block_row table c b = row_of table (block_symbols c b)

-- the source symbols of a block
abbrev pub block_source : Configuration → List ℕ → ℕ → List (List ℕ)
block_source c object b = map (source_symbol c object b) (range_with_len 0 (block_symbols c b))

-- intermediate symbols of a block: they solve its LDPC and HDPC equations and those of its source and padding symbols
pub record IsIntermediateColumn (row : TableRow) (size : ℕ) (source : List (List ℕ)) (column : ℕ → List ℕ) : Type 0 where
  pub symbols : IsSymbolColumn octets size (intermediate_symbols row) column
  pub solves :
      SolvesSymbols octets (equation_count row (extended_ids row)) (intermediate_symbols row)
      (equations row (extended_ids row)) column (equation_values row size source)

-- a column is one of intermediate symbols, and there is no other
pub record IsOnlyIntermediateColumn (row : TableRow) (size : ℕ) (source : List (List ℕ)) (column : ℕ → List ℕ) : Type 0 where
  pub is : IsIntermediateColumn row size source column
  pub only : (other : ℕ → List ℕ) → IsIntermediateColumn row size source other → (k : ℕ) → k < intermediate_symbols row → other k ≡ column k

-- the payload of an encoding symbol id, source or repair: the sum, at the indices of its tuple, of the block's only intermediate symbols
pub record IsEncodingSymbol (row : TableRow) (size : ℕ) (source : List (List ℕ)) (esi : ℕ) (payload : List ℕ) : Type 0 where
  pub column : ℕ → List ℕ
  pub is_only : IsOnlyIntermediateColumn row size source column
  pub is_sum : payload ≡ tuple_sum row column (internal_id row (length source) esi)

-- a packet of the object
pub record IsPacketOf (table : List TableRow) (c : Configuration) (object : List ℕ) (p : Packet) : Type 0 where
  pub block : p.id.block < c.source_blocks
  pub esi : p.id.esi < 2 ^ 24
  pub symbol : IsEncodingSymbol (block_row table c p.id.block) c.symbol_size (block_source c object p.id.block) p.id.esi p.payload

-- ---- what comes of them

-- no block's row is singular
abbrev pub HasNonsingularRows : List TableRow → Configuration → Type 0
HasNonsingularRows table c = (b : ℕ) → b < c.source_blocks → IsNonsingular (block_row table c b)

-- An honest run: an object of the configuration's length, blocks whose rows aren't singular, and a list of the object's packets, in any order and
-- any number of times. We say that the object fits the list.
pub record IsHonestRun (table : List TableRow) (c : Configuration) (object : List ℕ) (packets : List Packet) : Type 0 where
  pub long : length object ≡ c.transfer_length
  pub nonsingular : HasNonsingularRows table c
  pub honest : AllByRecursion (IsPacketOf table c object) packets

-- no other object fits the list
abbrev pub IsOnlyObject : List TableRow → Configuration → List Packet → List ℕ → Type 0
IsOnlyObject table c packets object = (other : List ℕ) → IsHonestRun table c other packets → other ≡ object

-- in each block the ids that were received determine it
abbrev pub IsAnswerable : List TableRow → Configuration → List Packet → Type 0
IsAnswerable table c packets = (b : ℕ) → b < c.source_blocks → DetermineBlock (block_row table c b) (block_symbols c b) (has_id b packets)

-- the object, exactly where the list determines each of its blocks
pub record IsObjectAnswer (table : List TableRow) (c : Configuration) (object : List ℕ) (packets : List Packet) (answer : Option (List ℕ)) : Type 0 where
  pub whole : IsAnswerable table c packets → answer ≡ Some object
  pub only : IsSome answer → IsAnswerable table c packets

-- **The headline**: after an honest run the answer is the object, exactly where the packets determine each block.
abbrev pub AnswersExactly : List TableRow → Configuration → List Packet → Option (List ℕ) → Type 0
AnswersExactly table c packets answer = (object : List ℕ) → IsHonestRun table c object packets → IsObjectAnswer table c object packets answer

-- **No decoder can do better**: after an honest run there is an answer exactly where no other object fits.
abbrev pub AnswersWhereAnyCan : List TableRow → Configuration → List Packet → Option (List ℕ) → Type 0
AnswersWhereAnyCan table c packets answer = (object : List ℕ) → IsHonestRun table c object packets → IsSome answer ↔ IsOnlyObject table c packets object
