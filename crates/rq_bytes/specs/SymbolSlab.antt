-- What callers see of a slab.
use Rattle.std.specs.Prelude.{◌≡◌, ℕ, ◌<◌, Bool, true, false, List, Contains, fold, length, replicate, slice_index_or, Option, None, ◌==◌}
use Rattle.std.specs.Cmp.Lexicographic.{pointwise}
use Rattle.std.specs.Option.{option_eq, ForSome}
use Rattle.std.specs.Ordering.{eq_of_both, on}
use Rattle.rq_algebra.specs.Operations.{Operation, Store, step, run, read, values_in, IsPlace, IsAllowed, IsUnread}
use Rattle.rq_algebra.specs.Systems.{at}
use Rattle.rq_algebra.specs.Symbols.{symbols, symbol_at}
use Rattle.rq_standard.specs.OctetField.{octets}
use Rattle.rq_standard.specs.Rows.{row_sum}
use Rattle.rq_bytes.specs.Ranges.{joined_pieces}

-- its symbols, the size of each, and the order in which places are read, where one is set
pub record Slab : Type 0 where
  pub values : List (List ℕ)
  pub symbol_size : ℕ
  pub order : Option (List ℕ)

abbrev pub store_of : Slab → Store (List ℕ)
store_of slab = record { values = slab.values; order = slab.order }

-- with no order set
abbrev pub slab_of : ℕ → List (List ℕ) → Slab
slab_of size values = record { values = values; symbol_size = size; order = None }

-- a slab after an operation
abbrev pub after : Operation → Slab → Slab
after operation slab = let s = step (symbols octets) (store_of slab) operation in record slab { values = s.values; order = s.order }

-- a slab after operations, first to last
abbrev pub after_all : List Operation → Slab → Slab
after_all operations slab = let s = run (symbols octets) operations (store_of slab) in record slab { values = s.values; order = s.order }

-- whether a place is defined
abbrev pub HasPlace : Slab → ℕ → Type 0
HasPlace slab i = IsPlace (length slab.values) slab.order i

-- what an operation asks of a slab
abbrev pub Allows : Slab → Operation → Type 0
Allows slab operation = IsAllowed (length slab.values) slab.order operation

-- the symbol that a place means
abbrev pub symbol_in : Slab → ℕ → List ℕ
symbol_in slab i = read (symbols octets) (store_of slab) i

-- a row, and the symbols that these places mean, added to it
abbrev pub with_symbols_added : Slab → List ℕ → List ℕ → List ℕ
with_symbols_added slab row places = fold (λ sum place. row_sum sum (symbol_in slab place)) row places

-- the symbols at the defined places, as they are read
abbrev pub symbols_in : Slab → List (List ℕ)
symbols_in slab = values_in (symbols octets) slab.values slab.order

-- each symbol that the order doesn't read is zeros
abbrev pub IsZeroUnread : Slab → Type 0
IsZeroUnread slab = ForSome slab.order (λ order. (i : ℕ) → IsUnread (length slab.values) order i → symbol_at slab.values i ≡ replicate slab.symbol_size 0)

-- each symbol without a mark is zeros
abbrev pub IsZeroUnmarked : Slab → List Bool → Type 0
IsZeroUnmarked slab marks = (i : ℕ) → i < length slab.values → slice_index_or marks i false ≡ false → symbol_at slab.values i ≡ replicate slab.symbol_size 0

-- of `count` values those have a mark that the order reads
pub record MarksRead (count : ℕ) (order : List ℕ) (marks : List Bool) : Type 0 where
  pub count_is : length marks ≡ count
  pub marked : (k : ℕ) → k < length order → slice_index_or marks (at order k) false ≡ true
  pub only : (i : ℕ) → slice_index_or marks i false ≡ true → Contains order i

-- whether two slabs have as many symbols of one size, one order, and the same octets
abbrev pub same_slab : Slab → Slab → Bool
same_slab =
    eq_of_both (on (λ s. s.symbol_size) ◌==◌)
    (eq_of_both (on (λ s. length s.values) ◌==◌)
    (eq_of_both (on (λ s. s.order) (option_eq (pointwise ◌==◌))) (on (λ s. joined_pieces s.values) (pointwise ◌==◌))))
