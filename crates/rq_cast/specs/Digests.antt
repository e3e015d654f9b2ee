-- Which digests of a part's source symbols are known, and what a decoder's packets do to them.
use Rattle.std.specs.Prelude.{◌≡◌, ℕ, ◌*◌, ◌^◌, ◌<◌, List, length, Bool, Option, Some, None, option_map, IfSome, if◌then◌else◌, ◌==◌, ◌&&◌, is_none, nat_lt}
use Rattle.std.specs.Ordering.{nat_cmp}
use Rattle.std.specs.BTreeMap.{get}
use Rattle.rq_standard.specs.Configuration.{Configuration}
use Rattle.rq_standard.specs.Cutting.{block_symbols, sub_block_parts, place_in_block, symbol_of_block}
use Rattle.rq_standard.specs.Packet.{SymbolId, id_number}
use Rattle.rq_standard.specs.Received.{or_later}
use Rattle.rq_standard.specs.ReceivedBlock.{ReceivedBlock}
use Rattle.rq_standard.specs.DecoderState.{State}
use Rattle.rq_cells.specs.Cells.{digest_of}
use Rattle.rq_cast.specs.declared.digests.KnownDigests.{KnownDigests}

-- the digest that is known of a block's symbol
abbrev pub known : KnownDigests → ℕ → ℕ → Option (List ℕ)
known k b e = get nat_cmp k.of (id_number (record { block = b; esi = e }))

abbrev pub KnowsNone : KnownDigests → Type 0
KnowsNone k = (b e : ℕ) → known k b e ≡ None

-- What is known of source symbol e of block b, of which this was received and answered: of a block without an answer the digest of what was received
-- for that id, and none where nothing was; of another one the digest of its symbol, or none.
abbrev pub KnowsSymbol : Configuration → ℕ → ℕ → ReceivedBlock → Option (List ℕ) → Option (List ℕ) → Type 0
KnowsSymbol c b e h None digest = digest ≡ option_map digest_of (h.received e)
KnowsSymbol c b e h (Some block) digest = IfSome digest (λ d. d ≡ digest_of (symbol_of_block c (block_symbols c b) block e))

-- so it is of all source symbols
abbrev pub KnowsAll : Configuration → State → KnownDigests → Type 0
KnowsAll c s k =
    (b e : ℕ) → b < c.source_blocks → e < block_symbols c b → KnowsSymbol c b e (s.received b) (s.answer b) (known k b e)

abbrev pub KnowsDigests : State → KnownDigests → Type 0
KnowsDigests s k = KnowsAll s.configuration s k

-- one digest more, where none of its id is known
abbrev pub NotesFirst : ℕ → ℕ → List ℕ → KnownDigests → KnownDigests → Type 0
NotesFirst block esi digest old new =
    (b e : ℕ) → e < 2 ^ 24 → known new b e ≡ or_later (known old b e) (if block == b && esi == e then Some digest else None)

-- that of a source symbol whose block has no answer
abbrev pub is_noted : State → SymbolId → Bool
is_noted s id = is_none (s.answer id.block) && nat_lt id.esi (block_symbols s.configuration id.block)

abbrev pub Notes : State → SymbolId → List ℕ → KnownDigests → KnownDigests → Type 0
Notes s id digest old new =
    (b e : ℕ) → e < 2 ^ 24
    → known new b e ≡ or_later (known old b e) (if is_noted s id && (id.block == b && id.esi == e) then Some digest else None)

-- ---- which symbols of a block no zeros fill up

-- how many bytes of a symbol its last sub-block has
abbrev pub last_width : Configuration → ℕ
last_width c = (sub_block_parts c).smaller * c.alignment

-- The first symbols of a block stand in its first bytes.
abbrev pub AreWhole : Configuration → ℕ → ℕ → ℕ → Type 0
AreWhole c k n whole = (e t : ℕ) → e < whole → t < c.symbol_size → place_in_block c k e t < n

-- The known digests of a block's symbols are theirs, where no zeros fill them up.
abbrev pub KnowsSymbols : Configuration → ℕ → List ℕ → ℕ → KnownDigests → Type 0
KnowsSymbols c count block b k =
    (e whole : ℕ) → e < count → e < whole → AreWhole c count (length block) whole
    → IfSome (known k b e) (λ d. d ≡ digest_of (symbol_of_block c count block e))
