-- Into which shard cells go.
use Rattle.std.specs.Prelude.{◌≡◌, ℕ, ◌-◌, ◌%◌, ◌<◌, Bool, false, List, [], ◌∷◌, ◌++◌, length, take, Option, Some, None, if◌then◌else◌, nat_eq, slice_index_or, slice_set}
use Rattle.std.specs.Io.KnownBytes.{Appends, Keeps}
use Rattle.std.specs.List.{AllByRecursion}
use Rattle.rq_cells.specs.declared.cell.Cell.{Cell}
use Rattle.rq_cells.specs.Cells.{Key, cell_at}
use Rattle.rq_shards.specs.declared.dealing.Dealer.{Dealer}

-- A cell that these bytes begin with goes to this one of so many shards, whatever key it is made by.
abbrev pub IsShare : ℕ → List ℕ → ℕ → Type 0
IsShare all bytes share = (key : Key) (c : Cell) → cell_at key bytes ≡ Some c → share ≡ c.packet.id.esi % all

-- ---- a call

-- Bytes go to a shard, and so many are left of their cell with them: where none is begun, they begin one.
pub record IsNext {W : Type 0} (d : Dealer W) (bytes : List ℕ) (shard whole : ℕ) : Type 0 where
  pub begins : d.rest ≡ 0 → IsShare (length d.shards.items) bytes shard
  pub begun : d.rest ≡ 0 → whole ≡ length bytes
  pub goes_on : 0 < d.rest → shard ≡ d.current
  pub left : 0 < d.rest → whole ≡ d.rest

-- So many of these bytes are written behind what their shard holds. All other shards stay.
pub record Deals {W : Type 0} (contents : W → Option (List ℕ)) (old new : Dealer W) (bytes : List ℕ) (taken : ℕ) : Type 0 where
  pub whole : ℕ
  pub next : IsNext old bytes new.current whole
  pub rest : new.rest ≡ whole - taken
  pub within : new.current < length old.shards.items
  pub before : W
  pub after : W
  pub was : before ≡ slice_index_or old.shards.items new.current before
  pub is : new.shards.items ≡ slice_set old.shards.items new.current after
  pub grows : Appends (contents before) (contents after) (take taken bytes)

-- Nothing is written into any shard.
abbrev pub KeepTheirs : {W : Type 0} → (W → Option (List ℕ)) → Dealer W → Dealer W → Type 0
KeepTheirs {W} contents old new =
    (shard : ℕ) (d : W) → Keeps (contents (slice_index_or old.shards.items shard d)) (contents (slice_index_or new.shards.items shard d))

-- ---- all cells

-- a cell, made by this key
abbrev pub IsCellBy : Key → List ℕ → Type 0
IsCellBy key bytes = (c : Cell) × (cell_at key bytes ≡ Some c)

-- Cells are dealt one behind another, each by a call that takes all of it.
abbrev pub DealsAll : {W : Type 0} → (W → Option (List ℕ)) → Dealer W → List (List ℕ) → Dealer W → Type 0
DealsAll contents old [] new = new ≡ old
DealsAll {W} contents old (cell ∷ cells) new = (mid : Dealer W) × Deals contents old mid cell (length cell) × DealsAll contents mid cells new

-- whether one is dealt to this one of so many shards
abbrev pub is_dealt : ℕ → ℕ → Option Cell → Bool
is_dealt all shard None = false
is_dealt all shard (Some c) = nat_eq (c.packet.id.esi % all) shard

-- the bytes of those that are
abbrev pub dealt_to : Key → ℕ → ℕ → List (List ℕ) → List ℕ
dealt_to key all shard [] = []
dealt_to key all shard (cell ∷ cells) = (if is_dealt all shard (cell_at key cell) then cell else []) ++ dealt_to key all shard cells

-- Each shard gets the cells that are dealt to it, in their order, and nothing else.
abbrev pub ShardsHoldTheirs : {W : Type 0} → (W → Option (List ℕ)) → Type 0
ShardsHoldTheirs {W} contents =
    (key : Key) (cells : List (List ℕ)) (old new : Dealer W) → old.rest ≡ 0 → AllByRecursion (IsCellBy key) cells → DealsAll contents old cells new
    → (shard : ℕ) (d : W) → shard < length old.shards.items
    → Appends (contents (slice_index_or old.shards.items shard d)) (contents (slice_index_or new.shards.items shard d))
    (dealt_to key (length old.shards.items) shard cells)
