-- The first cell that a receiver takes says what it receives.
use Rattle.std.specs.Prelude.{◌≡◌, ℕ, ◌-◌, ◌<◌, ◌≤◌, List, ◌++◌, length, map, take, drop, Option, Some, None, option_and_then, option_map, unwrap_or, is_ok, is_none, if◌then◌else◌, Bool, true, false, not, ◌&&◌, ◌||◌, nat_le, nat_lt, nat_eq, count_by}
use Rattle.std.specs.List.{list_any, starts_with}
use Rattle.rq_standard.specs.TableRows.{greatest_size}
use Rattle.rq_base.specs.RefusedInput.{checked_configuration}
use Rattle.rq_cells.specs.declared.head.Head.{Head}
use Rattle.rq_cells.specs.declared.wanted.Note.{Note}
use Rattle.rq_cells.specs.declared.wanted.Note.TheVariants as N
use Rattle.rq_cells.specs.declared.wanted.Sight.{Sight}
use Rattle.rq_cells.specs.declared.wanted.Sight.TheVariants as V
use Rattle.rq_cells.specs.declared.wanted.Wanted.{Wanted}
use Rattle.rq_cells.specs.declared.wanted.Heads.{Heads}
use Rattle.rq_cells.specs.declared.wanted.Search.{Search}
use Rattle.rq_cells.specs.declared.wanted.Search.TheVariants as S
use Rattle.rq_cells.specs.Cells.{Key, head_size, cell_size, greatest_cell_size, head_at, cell_at}
use Rattle.rq_cells.specs.Found.{places}

-- Which cells are wanted: their checks are made by a key, coders take their configuration over a table whose greatest row has so many symbols, and their
-- stream begins with these bytes, and with none of those that are passed over.
pub record Wish : Type 0 where
  pub key : Key
  pub greatest : ℕ
  pub name : List ℕ
  pub passed : List (List ℕ)

-- what is wanted by the program
abbrev pub wish_of : Wanted → Wish
wish_of wanted = record {
  key = wanted.key.now;
  greatest = greatest_size wanted.table.now;
  name = wanted.name.now;
  passed = map (λ v. v.items) wanted.passed.now;
}

-- a stream begins with one of these
abbrev pub is_passed : List (List ℕ) → List ℕ → Bool
is_passed passed stream = list_any (λ begins. starts_with nat_eq stream begins) passed

abbrev pub is_named : Wish → Head → Bool
is_named w h = starts_with nat_eq h.stream w.name && not (is_passed w.passed h.stream)

abbrev pub is_wanted : Wish → Head → Bool
is_wanted w h = is_ok (checked_configuration w.greatest h.configuration) && is_named w h

-- the head of the wanted cell that bytes begin with
abbrev pub wanted_at : Wish → List ℕ → Option Head
wanted_at w bytes = option_and_then (λ c. if is_wanted w c.head then Some c.head else None) (cell_at w.key bytes)

-- a wanted head, behind which fewer bytes stand than a cell has
abbrev pub is_begun : Wish → List ℕ → Head → Bool
is_begun w bytes h = is_wanted w h && nat_lt (length bytes) (cell_size h.configuration.symbol_size)

-- What comes behind the bytes may make more of them: a head, or a wanted cell.
abbrev pub is_undecided : Wish → List ℕ → Bool
is_undecided w bytes = nat_lt (length bytes) head_size || unwrap_or (option_map (is_begun w bytes) (head_at w.key bytes)) false

-- a wanted head, behind which as many bytes stand as a cell has
abbrev pub is_long_enough : Wish → List ℕ → Head → Bool
is_long_enough w bytes h = is_wanted w h && nat_le (cell_size h.configuration.symbol_size) (length bytes)

-- a wanted head, and as many bytes as its cell has, which are none
abbrev pub is_wanted_damaged : Wish → List ℕ → Bool
is_wanted_damaged w bytes = unwrap_or (option_map (is_long_enough w bytes) (head_at w.key bytes)) false && is_none (cell_at w.key bytes)

-- a head that isn't wanted, whatever stands behind it
abbrev pub is_unwanted : Wish → List ℕ → Bool
is_unwanted w bytes = unwrap_or (option_map (λ h. not (is_wanted w h)) (head_at w.key bytes)) false

-- Where bytes begin no wanted cell is whole, and a damaged one, a head that isn't wanted or none of these begins.
pub record HasNone (w : Wish) (bytes : List ℕ) (undecided d o : Bool) : Type 0 where
  pub undecided_is : is_undecided w bytes ≡ undecided
  pub none : wanted_at w bytes ≡ None
  pub damaged : is_wanted_damaged w bytes ≡ d
  pub other : is_unwanted w bytes ≡ o

-- what is known of a head, by the bytes that begin with it
abbrev pub note_of : Wish → List ℕ → Head → Note
note_of w bytes h = if is_wanted w h then (if nat_lt (length bytes) (cell_size h.configuration.symbol_size) then N.Begun h else N.Damaged) else N.Other

-- and of the head that bytes begin with
abbrev pub note_at : Wish → List ℕ → Option Note
note_at w bytes = option_map (note_of w bytes) (head_at w.key bytes)

-- no wanted cell is whole where bytes begin with a head of which this is known
abbrev pub FitsNote : Wish → List ℕ → Note → Type 0
FitsNote w bytes (N.Begun h) = HasNone w bytes true false false × (length bytes < greatest_cell_size)
FitsNote w bytes N.Damaged = HasNone w bytes false true false
FitsNote w bytes N.Other = HasNone w bytes false false true

-- bytes begin with a head of which this is known
pub record IsNoted (w : Wish) (bytes : List ℕ) (note : Note) : Type 0 where
  pub long : head_size ≤ length bytes
  pub noted : note_at w bytes ≡ Some note
  pub fits : FitsNote w bytes note

-- This was known of the head when the bytes were fewer.
abbrev pub WasNoted : Wish → List ℕ → Note → Type 0
WasNoted w bytes (N.Begun h) = (head_at w.key bytes ≡ Some h) × (is_wanted w h ≡ true)
WasNoted w bytes N.Damaged = IsNoted w bytes N.Damaged
WasNoted w bytes N.Other = IsNoted w bytes N.Other

-- what stands where bytes begin with a head
abbrev pub IsSight : Wish → List ℕ → Sight → Type 0
IsSight w bytes (V.Noted note) = IsNoted w bytes note
IsSight w bytes (V.Found h) = wanted_at w bytes ≡ Some h

-- at how many of the first n places of some bytes this is so
abbrev pub count_before : (List ℕ → Bool) → List ℕ → ℕ → ℕ
count_before is bytes n = count_by is (take n (places bytes))

-- how many wanted cells are damaged behind their head at these places, and how many heads aren't wanted
abbrev pub damaged_before : Wish → List ℕ → ℕ → ℕ
damaged_before w bytes n = count_before (is_wanted_damaged w) bytes n

abbrev pub unwanted_before : Wish → List ℕ → ℕ → ℕ
unwanted_before w bytes n = count_before (is_unwanted w) bytes n

-- these are the heads at the first n places
pub record AreHeads (w : Wish) (bytes : List ℕ) (n : ℕ) (heads : Heads) : Type 0 where
  pub damaged : heads.damaged ≡ damaged_before w bytes n
  pub others : heads.others ≡ unwanted_before w bytes n

-- no wanted cell is whole at the first n places
abbrev pub NoneBefore : Wish → List ℕ → ℕ → Type 0
NoneBefore w bytes n = (i : ℕ) → i < n → wanted_at w (drop i bytes) ≡ None

-- At this place the first wanted cell begins.
pub record IsFirstWanted (w : Wish) (bytes : List ℕ) (at : ℕ) (h : Head) : Type 0 where
  pub within : at < length bytes
  pub found : wanted_at w (drop at bytes) ≡ Some h
  pub first : NoneBefore w bytes at

-- No wanted cell is whole at any place, and none begins at the places before this one, whatever comes behind the bytes: it is the first of which they
-- don't say yet what stands there, or the end. The heads are counted.
pub record HasNoWanted (w : Wish) (bytes : List ℕ) (from : ℕ) (heads every : Heads) : Type 0 where
  pub within : from ≤ length bytes
  pub few : length bytes - from < greatest_cell_size
  pub settled : (i : ℕ) → i < from → is_undecided w (drop i bytes) ≡ false
  pub stopped : is_undecided w (drop from bytes) ≡ true
  pub none : NoneBefore w bytes (length bytes)
  pub never : (rest : List ℕ) (i : ℕ) → i < from → wanted_at w (drop i bytes ++ rest) ≡ None
  pub before : (rest : List ℕ) → AreHeads w (bytes ++ rest) from heads
  pub all : AreHeads w bytes (length bytes) every

-- what a search finds in bytes behind which others may come
abbrev pub IsSearch : Wish → List ℕ → Search → Type 0
IsSearch w bytes (S.Found at h before) = IsFirstWanted w bytes at h × AreHeads w bytes at before
IsSearch w bytes (S.NotYet from before all) = HasNoWanted w bytes from before all
