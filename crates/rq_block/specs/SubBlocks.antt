-- How the sub-blocks of a block are made of its symbols (RFC 6330, 4.4.1.2).
use Rattle.std.specs.Prelude.{◌≡◌, [], ℕ, ◌+◌, ◌<◌, List, length, Option, Some, unwrap_or, slice_range, IsSomeAnd}
use Rattle.std.specs.List.{flat_map, range_with_len}
use Rattle.rq_standard.specs.Configuration.{Configuration}
use Rattle.rq_standard.specs.Cutting.{symbol_of_block}

-- the symbols of a block of k are there
abbrev pub AreSymbols : Configuration → ℕ → (ℕ → Option (List ℕ)) → Type 0
AreSymbols c k symbol = (e : ℕ) → e < k → IsSomeAnd (symbol e) (λ bytes. length bytes ≡ c.symbol_size)

-- of each of k symbols the bytes of a width from one on
abbrev pub parts_of_symbols : (ℕ → Option (List ℕ)) → ℕ → ℕ → ℕ → List ℕ
parts_of_symbols symbol k start width = flat_map (λ e. slice_range (unwrap_or (symbol e) []) start (start + width)) (range_with_len 0 k)

-- the symbols of a block of k are these
abbrev pub IsCutInto : Configuration → ℕ → List ℕ → (ℕ → Option (List ℕ)) → Type 0
IsCutInto c k block symbol = (e : ℕ) → e < k → symbol e ≡ Some (symbol_of_block c k block e)
