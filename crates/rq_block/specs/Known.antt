-- The equations that the decoder of a block knows, as a list of internal symbol ids with a value for each equation.
use Rattle.std.specs.Prelude.{◌≡◌, ℕ, ◌-◌, ◌<◌, ◌≤◌, Bool, List, ◌++◌, length, map, replicate, Option, Some, MatchOption, unwrap_or}
use Rattle.std.specs.List.{range_with_len}
use Rattle.std.specs.declared.vec.Vec.{Vec}
use Rattle.std.specs.declared.alloc.Global.{Global}
use Rattle.rq_algebra.specs.Symbols.{IsSymbolColumn}
use Rattle.rq_algebra.specs.Systems.{at, dot}
use Rattle.rq_bytes.specs.SymbolSlab.{Slab, symbol_in, symbols_in}
use Rattle.rq_standard.specs.declared.row.TableRow.{TableRow}
use Rattle.rq_standard.specs.OctetField.{octets}
use Rattle.rq_standard.specs.TableRows.{intermediate_symbols}
use Rattle.rq_standard.specs.Equations.{zero_symbol, internal_id, symbol_coefficient, tuple_sum}
use Rattle.rq_standard.specs.Headline.{known_ids}
use Rattle.rq_standard.specs.Received.{or_later}
use Rattle.rq_standard.specs.ReceivedBlock.{ReceivedBlock, IsHomogeneous, SolvesReceived, ReceivedDetermine}
use Rattle.rq_block.specs.BlockSolutions.{FindsFrom}
use Rattle.rq_block.specs.Payloads.{Payloads, payload_of}
use Rattle.rq_block.specs.declared.solving.BlockOperations.{BlockOperations}

-- padding comes first, then what was received in the order of its encoding symbol ids
abbrev pub known_list : TableRow → ℕ → List (ℕ × Vec ℕ Global) → List ℕ
known_list row k entries = range_with_len k (row.extended_symbols - k) ++ map (λ e. internal_id row k e.0) entries

-- zeros, and behind them the payloads
abbrev pub values_after : ℕ → ℕ → List (ℕ × Vec ℕ Global) → List (List ℕ)
values_after zeros size entries = replicate zeros (zero_symbol size) ++ map (λ e. e.1.items) entries

-- the operations make the intermediate symbols from the values of what was received
abbrev pub FindsFromKnown : ReceivedBlock → Payloads → BlockOperations → Type 0
FindsFromKnown h received solution = FindsFrom h.row (known_list h.row h.source_symbols received.entries) solution

-- such operations, exactly where the ids determine them
abbrev pub FindsKnown : ReceivedBlock → Payloads → Option BlockOperations → Type 0
FindsKnown h received answer = MatchOption answer (ReceivedDetermine h → ⊥) (FindsFromKnown h received)

-- a column of octets solves the equation of an encoding symbol id with zero as its value
abbrev pub SolvesEsi : TableRow → ℕ → ℕ → List ℕ → Type 0
SolvesEsi row k esi column = dot octets (intermediate_symbols row) (symbol_coefficient row (internal_id row k esi)) (at column) ≡ 0

-- a column of octets shows that the encoding symbol ids that were received of a block of k source symbols don't determine it
abbrev pub IsHomogeneousOf : TableRow → ℕ → (ℕ → Bool) → Vec ℕ Global → Type 0
IsHomogeneousOf row k has column = IsHomogeneous row (known_ids row k has) column.items

-- the intermediate symbols of what was received: they solve it, and no others do
pub record IsReceivedSolution (h : ReceivedBlock) (slab : Slab) : Type 0 where
  pub determined : ReceivedDetermine h
  pub enough : intermediate_symbols h.row ≤ length (symbols_in slab)
  pub size_is : slab.symbol_size ≡ h.configuration.symbol_size
  pub symbols : IsSymbolColumn octets h.configuration.symbol_size (intermediate_symbols h.row) (symbol_in slab)
  pub solves : SolvesReceived h (symbol_in slab)
  pub only : (column : ℕ → List ℕ) → SolvesReceived h column → (k : ℕ) → k < intermediate_symbols h.row → column k ≡ symbol_in slab k

-- a block's symbols are found exactly where the ids of what was received determine them
abbrev pub SolvesBlock : ReceivedBlock → Option Slab → Type 0
SolvesBlock h answer = MatchOption answer (ReceivedDetermine h → ⊥) (IsReceivedSolution h)

-- a source symbol, from what was received or from the intermediate symbols
abbrev pub rebuilt_symbol : ReceivedBlock → Slab → ℕ → List ℕ
rebuilt_symbol h slab e = unwrap_or (h.received e) (tuple_sum h.row (symbol_in slab) e)

-- with these symbols besides those that were received each source symbol is there
pub record HasLostSymbols (h : ReceivedBlock) (slab : Slab) (lost : Payloads) : Type 0 where
  pub each : (e : ℕ) → e < h.source_symbols → or_later (h.received e) (payload_of lost e) ≡ Some (rebuilt_symbol h slab e)
