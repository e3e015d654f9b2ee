-- Cells side by side that are written one by one.
use Rattle.std.proofs.Common.{◌≡◌, inl, inr, ℕ, ◌+◌, ◌-◌, ◌<◌, ◌≤◌, Vec, Global, map, List, [], ◌++◌, length, take, drop, set, get_or, sym, ap, subst, ◌∙◌, arith, length-append}
use Rattle.std.specs.Prelude.{All, vec_items}
use Rattle.std.specs.Vec.{with_items}
use Rattle.std.proofs.lemmas.Bool.{cases_lt}
use Rattle.std.proofs.lemmas.List.{length-take-le, take-append-drop, take_at, drop_at, take-append-le, take-take, drop-drop, drop-take, get_or-set_same, get_or-set_other, get_or-map, length-map, map-set, with_items_is}
use Rattle.rq_cells.specs.declared.head.Head.{Head}
use Rattle.rq_cells.specs.Cells.{Key}
use Rattle.rq_cast.specs.declared.sending.rows.Row.{Row}
use Rattle.rq_cast.specs.Rows.{HoldsCells}
use Rattle.rq_cast.specs.Sent.{Sending, IsSentCell}
use Rattle.rq_cast.specs.Writing.{IsRoom}

-- what holds of the first cells holds of one more that is written
pub set_below : (P : ℕ → List ℕ → Type 0) (cells : List (List ℕ)) (n : ℕ) (x : List ℕ) → n < length cells
    → ((j : ℕ) → j < n → P j (get_or cells j [])) → P n x → (j : ℕ) → j < n + 1 → P j (get_or (set cells n x) j [])
set_below P cells n x below before here j few = elim (cases_lt j n) [
  | inl less ↦ subst (P j) (sym (get_or-set_other cells n j x [] (λ same. omega (arith, less, same)))) (before j less)
  | inr past ↦
      let same : n ≡ j = omega (arith, few, past) in
      subst (λ k. P k (get_or (set cells n x) k [])) same (subst (P n) (sym (get_or-set_same cells n x [] below)) here)
]

-- a vector is written over
pub items_after : (items : List (Vec ℕ Global)) (n : ℕ) (v : Vec ℕ Global) (ws : List ℕ) → length ws ≡ v.len
    → map vec_items (set items n (with_items v ws)) ≡ set (map vec_items items) n ws
items_after items n v ws long = map-set vec_items items n (with_items v ws) ∙ ap (set (map vec_items items) n) (with_items_is v ws long)

-- what holds of all cells holds of one
pub at_cell : (P : List ℕ → Type 0) (items : List (Vec ℕ Global)) (n : ℕ) (v : Vec ℕ Global) → n < length items → All P (map vec_items items) → P (get_or items n v).items
at_cell P items n v below all =
    subst P (get_or-map vec_items items n v [] below) (all n [] (omega (arith, length-map items (vec_items {X = ℕ} {Z = Global}), below)))

-- what holds of all lists that are made holds of what they are made from
pub All-made : {X : Type 0} (P : List ℕ → Type 0) (f : X → List ℕ) (xs : List X) → All P (map f xs) → All (λ x. P (f x)) xs
All-made P f xs all = λ k d below. subst P (get_or-map f xs k d (f d) below) (all k (f d) (omega (arith, length-map xs f, below)))

module _ (key : Key) (h : Head) (old : List ℕ) (room : IsRoom key h old) where
  headed : length (take 52 old) ≡ 52
  headed = length-take-le 52 old (omega (arith, room.long))

  -- a packet is written behind the head
  module _ (packet rest : List ℕ) (long : 52 + length packet + length rest ≡ length old) where
    pub room_behind_packet : IsRoom key h (take 52 old ++ (packet ++ rest))
    room_behind_packet = record {
      long = omega (arith, length-append (take 52 old) (packet ++ rest), length-append packet rest, headed, long, room.long);
      headed = take_at (take 52 old) (packet ++ rest) 52 headed ∙ room.headed;
    }

    pub packet_there : (n : ℕ) → length packet ≡ n → take n (drop 52 (take 52 old ++ (packet ++ rest))) ≡ packet
    packet_there n is = ap (take n) (drop_at (take 52 old) (packet ++ rest) 52 headed) ∙ take_at packet rest n is

  -- a check is written over the end
  pub room_behind_check : (check : List ℕ) → length check ≡ 8 → IsRoom key h (take (length old - 8) old ++ check)
  room_behind_check check eight =
      let front : length (take (length old - 8) old) ≡ length old - 8 = length-take-le (length old - 8) old (omega arith) in
      record {
        long = omega (arith, length-append (take (length old - 8) old) check, front, eight, room.long);
        headed = take-append-le 52 (take (length old - 8) old) check (omega (arith, front, room.long))
            ∙ take-take 52 (length old - 8) old (omega (arith, room.long)) ∙ room.headed;
      }

  -- the cell by its parts
  pub parted : (frame : ℕ) → old ≡ take 52 old ++ (take frame (drop 52 old) ++ drop frame (drop 52 old))
  parted frame = sym (ap (λ xs. take 52 old ++ xs) (take-append-drop frame (drop 52 old)) ∙ take-append-drop 52 old)

-- the symbol of a packet
pub symbol_there : (size : ℕ) (cell : List ℕ) → drop 4 (take (4 + size) (drop 52 cell)) ≡ take size (drop 56 cell)
symbol_there size cell = drop-take 4 size (drop 52 cell) ∙ ap (take size) (drop-drop 4 52 cell)

-- the cell of a number that stands in a row
pub cell_there : (s : Sending) (row : Row) → HoldsCells s row → (n : ℕ) → row.from ≤ n → n < row.end → (v : Vec ℕ Global) → v ≡ get_or row.cells.items (n - row.from) v
    → IsSentCell s n v.items
cell_there s row holds n from below v is =
    let items = row.cells.items in
    let j = n - row.from in
    subst (IsSentCell s n) (get_or-map vec_items items j v [] (omega (arith, from, below, holds.few, holds.count)) ∙ ap (vec_items {X = ℕ} {Z = Global}) (sym is))
    (holds.there n from below)
