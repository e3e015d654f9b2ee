-- The id of a cell that bytes begin with.
use Rattle.std.proofs.Common.{◌≡◌, ℕ, ◌+◌, Bool, true, false, List, take, drop, Option, Some, None, ap, ◌∙◌, nat_eq, arith}
use Rattle.std.specs.Prelude.{if◌then◌else◌, option_and_then}
use Rattle.std.proofs.lemmas.List.{take-take}
use Rattle.std.specs.List.{starts_with}
use Rattle.rq_standard.specs.Packet.{id_of_bytes, packet_of_bytes}
use Rattle.rq_cells.specs.declared.head.Head.{Head}
use Rattle.rq_cells.specs.declared.cell.Cell.{Cell}
use Rattle.rq_cells.specs.Cells.{Key, cell_at, cell_behind, cell_bytes, cell_spelled, head_at}

-- the four bytes behind the head
id_spelled : (h : Head) (bytes : List ℕ) → (cell_spelled h bytes).packet.id ≡ id_of_bytes (take 4 (drop 52 bytes))
unfolding packet_of_bytes
id_spelled h bytes = ap id_of_bytes (take-take 4 (4 + h.configuration.symbol_size) (drop 52 bytes) (omega arith))

spelled : (key : Key) (h : Head) (bytes : List ℕ) (c : Cell) → cell_behind key h bytes ≡ Some c → c ≡ cell_spelled h bytes
spelled key h bytes c = by (starts_with nat_eq bytes (cell_bytes key (cell_spelled h bytes)))
  where
    by : (b : Bool) → (if b then Some (cell_spelled h bytes) else None) ≡ Some c → c ≡ cell_spelled h bytes
    by true is = let same : c ≡ cell_spelled h bytes = cc is in same
    by false is = absurd (cc is)

-- say the cell's id
pub id_at : (key : Key) (bytes : List ℕ) (c : Cell) → cell_at key bytes ≡ Some c → c.packet.id ≡ id_of_bytes (take 4 (drop 52 bytes))
id_at key bytes c = by (head_at key bytes)
  where
    by : (head : Option Head) → option_and_then (λ h. cell_behind key h bytes) head ≡ Some c → c.packet.id ≡ id_of_bytes (take 4 (drop 52 bytes))
    by None is = absurd (cc is)
    by (Some h) is = ap (λ (k : Cell). k.packet.id) (spelled key h bytes c is) ∙ id_spelled h bytes
