-- What a decoder has received of a block, and what it answers.
use Rattle.std.specs.Prelude.{◌≡◌, ℕ, ◌+◌, ◌*◌, ◌<◌, ◌≤◌, Bool, List, length, Option, Some, None, IfSome, IsSome, MatchOption, is_some, if◌then◌else◌, ◌==◌, ◌⊎◌}
use Rattle.rq_algebra.specs.Systems.{IsColumn, at}
use Rattle.rq_algebra.specs.Symbols.{IsSymbolColumn, SolvesSymbols}
use Rattle.rq_standard.specs.declared.row.TableRow.{TableRow}
use Rattle.rq_standard.specs.OctetField.{octets}
use Rattle.rq_standard.specs.TableRows.{intermediate_symbols}
use Rattle.rq_standard.specs.Configuration.{Configuration}
use Rattle.rq_standard.specs.Cutting.{symbol_of_block}
use Rattle.rq_standard.specs.Equations.{precode_equations, tuple_sum, zero_symbol, internal_id}
use Rattle.rq_standard.specs.Received.{or_later, HasSourceSymbols}
use Rattle.rq_standard.specs.Headline.{SolvesZeros, DetermineBlock, known_ids}

-- of a block with this number and this many source symbols, over a row of the table, the payload that counts for each encoding symbol id
pub record ReceivedBlock : Type 0 where
  pub configuration : Configuration
  pub number : ℕ
  pub row : TableRow
  pub source_symbols : ℕ
  pub received : ℕ → Option (List ℕ)

-- nothing was received yet
abbrev pub nothing_received : Configuration → ℕ → TableRow → ℕ → ReceivedBlock
nothing_received c number row source_symbols = record { configuration = c; number = number; row = row; source_symbols = source_symbols; received = λ _. None }

-- which ids were received
abbrev pub has_received : ReceivedBlock → ℕ → Bool
has_received h e = is_some (h.received e)

-- with a payload more, which counts where none of its id was received
abbrev pub with_received : ReceivedBlock → ℕ → List ℕ → ReceivedBlock
with_received h esi payload = record h { received = λ e. or_later (h.received e) (if esi == e then Some payload else None) }

-- a column of symbols of this size solves the LDPC and HDPC equations of a row
abbrev pub SolvesPrecode : TableRow → ℕ → (ℕ → List ℕ) → Type 0
SolvesPrecode row size column =
    SolvesSymbols octets (row.ldpc_symbols + row.hdpc_symbols) (intermediate_symbols row) (precode_equations row) column (λ _. zero_symbol size)

-- a column of symbols that solves all that was received of a block: its LDPC and HDPC equations, its padding and what was received
pub record SolvesReceived (h : ReceivedBlock) (column : ℕ → List ℕ) : Type 0 where
  pub symbols : IsSymbolColumn octets h.configuration.symbol_size (intermediate_symbols h.row) column
  pub precode : SolvesPrecode h.row h.configuration.symbol_size column
  pub padding : (x : ℕ) → h.source_symbols ≤ x → x < h.row.extended_symbols → tuple_sum h.row column x ≡ zero_symbol h.configuration.symbol_size
  pub received : (e : ℕ) → IfSome (h.received e) (λ payload. payload ≡ tuple_sum h.row column (internal_id h.row h.source_symbols e))

-- there is one
pub record HasReceivedSolution (h : ReceivedBlock) : Type 0 where
  pub column : ℕ → List ℕ
  pub solves : SolvesReceived h column

-- the ids that were received determine the block
abbrev pub ReceivedDetermine : ReceivedBlock → Type 0
ReceivedDetermine h = DetermineBlock h.row h.source_symbols (has_received h)

-- what was received is contradictory: its ids determine the block, and no column solves all of it
pub record IsContradictory (h : ReceivedBlock) : Type 0 where
  pub determined : ReceivedDetermine h
  pub unsolved : HasReceivedSolution h → ⊥

-- a plain column that shows that known ids don't determine the block: it solves their equations with all values zero, and isn't all zeros
pub record IsHomogeneous (row : TableRow) (known : ℕ → Bool) (column : List ℕ) : Type 0 where
  pub count : length column ≡ intermediate_symbols row
  pub elements : IsColumn octets (intermediate_symbols row) (at column)
  pub solves : SolvesZeros row known (at column)
  pub nonzero : ((k : ℕ) → k < intermediate_symbols row → at column k ≡ 0) → ⊥

-- such a column of what was received, and none where the ids that were received determine the block
abbrev pub ShowsUndetermined : ReceivedBlock → Option (List ℕ) → Type 0
ShowsUndetermined h answer = MatchOption answer (ReceivedDetermine h) (IsHomogeneous h.row (known_ids h.row h.source_symbols (has_received h)))

-- what a decoder needs for its answer: all source symbols, or ids that determine the block
abbrev pub CanAnswer : ReceivedBlock → Type 0
CanAnswer h = HasSourceSymbols h.source_symbols (has_received h) ⊎ ReceivedDetermine h

-- the source symbols of a block are those that a column makes
abbrev pub MakesBlock : ReceivedBlock → (ℕ → List ℕ) → List ℕ → Type 0
MakesBlock h column block = (e : ℕ) → e < h.source_symbols → symbol_of_block h.configuration h.source_symbols block e ≡ tuple_sum h.row column e

-- a block of as many symbols as what was received is of
pub record IsBlockWith (h : ReceivedBlock) (block : List ℕ) : Type 0 where
  pub long : length block ≡ h.source_symbols * h.configuration.symbol_size
  -- the source symbols that were received are those of the block
  pub each : (e : ℕ) → e < h.source_symbols → IfSome (h.received e) (λ payload. payload ≡ symbol_of_block h.configuration h.source_symbols block e)
  -- where the ids determine it and a column solves all that was received, it is that column's block
  pub solved : ReceivedDetermine h → (column : ℕ → List ℕ) → SolvesReceived h column → MakesBlock h column block

-- what is answered, where what was received isn't contradictory
pub record IsBlockAnswer (h : ReceivedBlock) (answer : Option (List ℕ)) : Type 0 where
  pub some : IsSome answer → CanAnswer h
  pub none : CanAnswer h → IsSome answer
  pub block : IfSome answer (IsBlockWith h)
  -- a determined block is that of a column that solves all that was received
  pub solved : IsSome answer → ReceivedDetermine h → HasReceivedSolution h
