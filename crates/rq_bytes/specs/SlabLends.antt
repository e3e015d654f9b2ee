-- What a caller's writes through a lent symbol do to the slab.
use Rattle.std.specs.Prelude.{ℕ, List, length, slice_set, ◌≡◌, ◌*◌}
use Rattle.std.specs.Borrow.{Lends, MutBor, Array, Fml, u8 as byte}
use Rattle.rq_algebra.specs.Operations.{meant_at}
use Rattle.rq_bytes.specs.Ranges.{with_range, cut, joined_pieces}
use Rattle.rq_bytes.specs.SymbolSlab.{Slab}
use Rattle.rq_bytes.specs.contracts.symbol_slab.SymbolSlab.{the_row}

-- the slab with these octets written from symbol p on
abbrev pub with_octets_from : Slab → ℕ → List ℕ → Slab
with_octets_from slab p octets =
    record slab { values = cut (length slab.values) slab.symbol_size (with_range (joined_pieces slab.values) (p * slab.symbol_size) octets) }

-- and from the symbol on that a place means
abbrev pub with_octets : Slab → ℕ → List ℕ → Slab
with_octets slab i octets = with_octets_from slab (meant_at slab.order i) octets

-- as many octets as a symbol has are the symbol that the place then means, and no other symbol changes
abbrev pub IsSymbolWrite : Slab → ℕ → Type 0
IsSymbolWrite slab i =
    (octets : List ℕ) → length octets ≡ slab.symbol_size
    → with_octets slab i octets ≡ record slab { values = slice_set slab.values (meant_at slab.order i) octets }

-- the slab ends with the last octets behind r written at place i
abbrev pub LendsSymbol : MutBor Slab → ℕ → MutBor (List ℕ) → Fml
LendsSymbol slab i r = Lends the_row (Array byte 0) slab r (with_octets slab.now i)
