-- What bytes say of their places, whatever comes behind them.
use Rattle.std.specs.Prelude.{◌≡◌, ◌⊎◌, ℕ, zero, suc, ◌+◌, ◌-◌, ◌<◌, ◌≤◌, List, [], ◌++◌, length, drop, map, All, Option, Some, None, option_map, Bool, true, false, not, ◌||◌, ◌&&◌, nat_lt, nat_eq, is_some}
use Rattle.std.specs.List.{cons_option, starts_with}
use Rattle.rq_cells.specs.declared.head.Head.{Head}
use Rattle.rq_cells.specs.declared.cell.FoundCell.{FoundCell}
use Rattle.rq_cells.specs.declared.long_heads.Place.{Place}
use Rattle.rq_cells.specs.declared.long_heads.Place.TheVariants as P
use Rattle.rq_cells.specs.declared.long_heads.LongHead.{LongHead}
use Rattle.rq_cells.specs.declared.long_heads.LongHeads.{LongHeads}
use Rattle.rq_cells.specs.declared.scanner.KnownHead.{KnownHead}
use Rattle.rq_cells.specs.declared.scanner.Scan.{Scan}
use Rattle.rq_cells.specs.Cells.{Key, head_size, head_at, cell_size, digest_of}
use Rattle.rq_cells.specs.Found.{Source, head_of, is_long, long_head_of, is_other, cells_in, damaged_in, others_in}

-- bytes that begin with these begin with this head
abbrev pub IsKnown : Key → KnownHead → Type 0
IsKnown key known = (bytes : List ℕ) → starts_with nat_eq bytes known.bytes ≡ true → head_at key bytes ≡ Some known.head

-- What comes behind the bytes may make more of them: a head, or a cell.
abbrev pub is_open : Source → List ℕ → Bool
is_open s bytes = nat_lt (length bytes) head_size || (is_some (head_of s bytes) && not (is_long s bytes))

-- Bytes that aren't open begin with a head behind which a cell's bytes stand, with another's head, or with none of these.
pub record Begins (s : Source) (bytes : List ℕ) (h : Option Head) (o : Bool) : Type 0 where
  pub settled : is_open s bytes ≡ false
  pub head : long_head_of s bytes ≡ h
  pub other : is_other s bytes ≡ o

-- what stands where bytes begin
abbrev pub IsPlace : Source → List ℕ → Place → Type 0
IsPlace s bytes P.Open = is_open s bytes ≡ true
IsPlace s bytes P.Nothing = Begins s bytes None false
IsPlace s bytes (P.Headed h) = Begins s bytes (Some h) false
IsPlace s bytes P.Other = Begins s bytes None true

-- None are left, or what comes behind them may make more of them where they begin.
abbrev pub IsUnsettled : Source → List ℕ → Type 0
IsUnsettled s bytes = (bytes ≡ []) ⊎ (is_open s bytes ≡ true)

-- the heads at the first n places behind which a cell's bytes stand
abbrev pub long_heads_before : Source → List ℕ → ℕ → List LongHead
long_heads_before s bytes zero = []
long_heads_before s bytes (suc n) =
    long_heads_before s bytes n ++ cons_option (option_map (λ h. record { at = n; head = h }) (long_head_of s (drop n bytes))) []

-- What stands at the first places, whatever comes behind the bytes: up to the first of which these don't say it yet.
pub record AreLongHeads (s : Source) (bytes : List ℕ) (found : LongHeads) : Type 0 where
  pub within : found.places ≤ length bytes
  pub settled : (i : ℕ) → i < found.places → is_open s (drop i bytes) ≡ false
  pub stopped : IsUnsettled s (drop found.places bytes)
  pub heads : found.heads.items ≡ long_heads_before s bytes found.places
  pub others : (rest : List ℕ) → others_in s (bytes ++ rest) ≡ found.others + others_in s (drop found.places bytes ++ rest)

-- it carries its symbol's digest
abbrev pub HasDigest : FoundCell → Type 0
HasDigest found = found.digest ≡ digest_of found.cell.packet.payload

-- What stands at the first places of some bytes, whatever comes behind the bytes: up to the first of which these don't say it yet. In what is left no
-- cell is whole.
pub record Settles (s : Source) (bytes : List ℕ) (scan : Scan) : Type 0 where
  pub within : scan.places ≤ length bytes
  pub few : length bytes - scan.places < cell_size s.symbol_size
  pub stopped : IsUnsettled s (drop scan.places bytes)
  pub none : cells_in s (drop scan.places bytes) ≡ []
  pub no_damaged : damaged_in s (drop scan.places bytes) ≡ 0
  pub cells : (rest : List ℕ) → cells_in s (bytes ++ rest) ≡ map (λ found. found.cell) scan.cells.items ++ cells_in s (drop scan.places bytes ++ rest)
  pub digests : All HasDigest scan.cells.items
  pub damaged : (rest : List ℕ) → damaged_in s (bytes ++ rest) ≡ scan.damaged + damaged_in s (drop scan.places bytes ++ rest)
  pub others : (rest : List ℕ) → others_in s (bytes ++ rest) ≡ scan.others + others_in s (drop scan.places bytes ++ rest)
