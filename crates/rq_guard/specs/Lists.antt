-- The list of a part's digests, by which a guard shows which symbols of a file are damaged.
use Rattle.std.specs.Prelude.{◌≡◌, ℕ, ◌+◌, ◌*◌, ◌^◌, List, ◌++◌, length, take, drop, map, Option, Some, None, Ok, option_and_then, if◌then◌else◌, is_ok, ◌==◌, ◌&&◌, Bool}
use Rattle.std.specs.List.{All, concat, range_with_len}
use Rattle.sha2.specs.Sha512.{sha512}
use Rattle.rq_standard.specs.Configuration.{total_symbols}
use Rattle.rq_base.specs.RefusedInput.{checked_configuration}
use Rattle.rq_cells.specs.declared.head.Head.{Head}
use Rattle.rq_cells.specs.Cells.{Key, head_bytes, head_size, head_at, IsHead}
use Rattle.rq_guard.specs.declared.list.DigestList.{DigestList}

-- how many bytes of a digest are listed
abbrev pub listed_length : ℕ
listed_length = 16

-- how many bytes a symbol of a list has at most
abbrev pub list_symbol_size : ℕ
list_symbol_size = 1024

-- the number of the list of the part of a number: with a bit more
abbrev pub list_number : ℕ → ℕ
list_number number = number + 2 ^ 30

-- what the list has of a symbol: the first bytes of its SHA-512
abbrev pub listed_digest : List ℕ → List ℕ
listed_digest symbol = take listed_length (sha512 symbol)

-- a part's head, and what is listed of its source symbols, in their order
pub record Listed : Type 0 where
  pub head : Head
  pub digests : List (List ℕ)

abbrev pub listed_of : DigestList → Listed
listed_of l = record { head = l.head; digests = l.digests.items }

-- how a list is spelled
abbrev pub list_bytes : Key → Listed → List ℕ
list_bytes key l = head_bytes key l.head ++ concat l.digests

-- Bytes have the length of the list of a part with this head, which is one block, and which coders take over a table whose greatest row has so many symbols.
abbrev pub is_listable : ℕ → Head → ℕ → Bool
is_listable greatest h n =
    is_ok (checked_configuration greatest h.configuration) && (h.configuration.source_blocks == 1)
    && (n == head_size + listed_length * total_symbols h.configuration)

-- the list that bytes with this head spell
abbrev pub list_spelled : Head → List ℕ → Listed
list_spelled h bytes = record {
  head = h;
  digests = map (λ i. take listed_length (drop (head_size + i * listed_length) bytes)) (range_with_len 0 (total_symbols h.configuration));
}

-- the list whose bytes these are
abbrev pub list_at : Key → ℕ → List ℕ → Option Listed
list_at key greatest bytes =
    option_and_then (λ h. if is_listable greatest h (length bytes) then Some (list_spelled h bytes) else None) (head_at key bytes)

-- a list that is read as it was written: its head is whole, its configuration is taken and makes one block, and of each source symbol a digest is listed
pub record IsListable (greatest : ℕ) (l : Listed) : Type 0 where
  pub head : IsHead l.head
  pub accepted : checked_configuration greatest l.head.configuration ≡ Ok tt
  pub one_block : l.head.configuration.source_blocks ≡ 1
  pub many : length l.digests ≡ total_symbols l.head.configuration
  pub digests : All (λ d. length d ≡ listed_length) l.digests

abbrev pub ListsAreRead : Type 0
ListsAreRead = (key : Key) (greatest : ℕ) (l : Listed) → IsListable greatest l → list_at key greatest (list_bytes key l) ≡ Some l
