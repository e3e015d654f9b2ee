-- The cell that bytes begin with.
use Rattle.std.proofs.Common.{◌≡◌, ℕ, ◌+◌, ◌-◌, ◌<◌, ◌≤◌, min, List, ◌++◌, length, take, drop, refl, sym, ap, subst, ◌∙◌, arith, append_assoc, drop-drop, Option, Some, None, Bool, true, false, if◌then◌else◌, length-append, length-take}
use Rattle.std.specs.List.{starts_with}
use Rattle.std.specs.Prelude.{nat_eq, option_and_then}
use Rattle.std.specs.Io.{StartsWith}
use Rattle.std.proofs.Transfers.{starts_with_length, starts_with_of_append}
use Rattle.std.proofs.lemmas.List.{length-drop, length-take-le, take-append-drop, drop-take}
use Rattle.std.proofs.lemmas.Option.{none-some, same_Some}
use Rattle.rq_standard.specs.Packet.{Packet, packet_bytes, packet_of_bytes, id_bytes}
use Rattle.rq_standard.specs.Streams.{frame_size}
use Rattle.rq_standard.proofs.PacketBytes.{packet_of_bytes-packet_bytes, id_of_bytes-id_bytes, id_bytes-id_of_bytes}
use Rattle.rq_cells.specs.declared.head.Head.{Head}
use Rattle.rq_cells.specs.declared.cell.Cell.{Cell}
use Rattle.rq_cells.specs.Cells.{Key, check_of, digest_of, head_bytes, cell_fields, cell_bytes, head_size, cell_size, head_at, cell_spelled, cell_behind, cell_at, IsCell}
use Rattle.rq_cells.proofs.Beginnings.{test_true, test_false, begins, begins_first, begins_second, begins_both, AreBytes, part_fits}
use Rattle.rq_cells.proofs.HeadBytes.{length-check_of, length-head_bytes, head_at-begins}

-- what stands before a cell's check
abbrev pub cell_front : Key → Cell → List ℕ
cell_front key c = head_bytes key c.head ++ packet_bytes c.packet

pub length-packet_bytes : (p : Packet) → length (packet_bytes p) ≡ 4 + length p.payload
length-packet_bytes p = length-append (id_bytes p.id) p.payload

length-cell_front : (key : Key) (c : Cell) → length (cell_front key c) ≡ 32 + length c.head.stream + length c.head.name + length c.packet.payload
length-cell_front key c =
    omega (arith, length-append (head_bytes key c.head) (packet_bytes c.packet), length-head_bytes key c.head, length-packet_bytes c.packet)

pub length-cell_bytes : (key : Key) (c : Cell) → length (cell_bytes key c) ≡ 40 + length c.head.stream + length c.head.name + length c.packet.payload
length-cell_bytes key c =
    omega (arith, length-append (cell_front key c) (check_of key (cell_fields key c)), length-cell_front key c, length-check_of key (cell_fields key c))

-- the answer by the test
pub cell_behind-true : (key : Key) (h : Head) (bytes : List ℕ) → StartsWith bytes (cell_bytes key (cell_spelled h bytes)) → cell_behind key h bytes ≡ Some (cell_spelled h bytes)
cell_behind-true key h bytes starts = ap (λ b. if b then Some (cell_spelled h bytes) else None) (test_true bytes (cell_bytes key (cell_spelled h bytes)) starts)

pub cell_behind-false : (key : Key) (h : Head) (bytes : List ℕ) → (StartsWith bytes (cell_bytes key (cell_spelled h bytes)) → ⊥) → cell_behind key h bytes ≡ None
cell_behind-false key h bytes other = ap (λ b. if b then Some (cell_spelled h bytes) else None) (test_false bytes (cell_bytes key (cell_spelled h bytes)) other)

-- a cell is read as it was written, whatever stands behind it
module _ (key : Key) (bytes : List ℕ) (c : Cell) (fits : IsCell c) (starts : StartsWith bytes (cell_bytes key c)) where
  begins_with_packet : StartsWith bytes (cell_front key c)
  begins_with_packet = begins_first bytes (cell_front key c) (check_of key (cell_fields key c)) starts

  pub begins_with_head : StartsWith bytes (head_bytes key c.head)
  begins_with_head = begins_first bytes (head_bytes key c.head) (packet_bytes c.packet) begins_with_packet

  packet_there : take (frame_size c.head.configuration) (drop head_size bytes) ≡ packet_bytes c.packet
  packet_there =
      let size : frame_size c.head.configuration ≡ length (packet_bytes c.packet) = omega (arith, length-packet_bytes c.packet, fits.payload) in
      let place : head_size ≡ length (head_bytes key c.head) = omega (arith, length-head_bytes key c.head, fits.head.stream, fits.head.name) in
      (λ i. take (size i) (drop (place i) bytes)) ∙ begins_second bytes (head_bytes key c.head) (packet_bytes c.packet) begins_with_packet

  is_spelled : cell_spelled c.head bytes ≡ c
  is_spelled =
      let packet_is = ap packet_of_bytes packet_there ∙ packet_of_bytes-packet_bytes c.packet (id_of_bytes-id_bytes c.packet.id fits.id) in
      λ i. record { head = c.head; packet = packet_is i }

  pub cell_at-begins : cell_at key bytes ≡ Some c
  cell_at-begins =
      ap (option_and_then (λ h. cell_behind key h bytes)) (head_at-begins key bytes c.head fits.head begins_with_head)
      ∙ cell_behind-true key c.head bytes (subst (λ k. StartsWith bytes (cell_bytes key k)) (sym is_spelled) starts)
      ∙ ap Some is_spelled

pub cell_at-cell_bytes : (key : Key) (c : Cell) (rest : List ℕ) → IsCell c → cell_at key (cell_bytes key c ++ rest) ≡ Some c
cell_at-cell_bytes key c rest fits = cell_at-begins key (cell_bytes key c ++ rest) c fits (starts_with_of_append (cell_bytes key c ++ rest) (cell_bytes key c) rest refl)

-- bytes in which a cell is read begin with its bytes
pub behind-begins : (key : Key) (h : Head) (bytes : List ℕ) (c : Cell) → cell_behind key h bytes ≡ Some c → StartsWith bytes (cell_bytes key c) × (c.head ≡ h)
behind-begins key h bytes c = by (starts_with nat_eq bytes (cell_bytes key (cell_spelled h bytes))) refl
  where
    by : (b : Bool) → starts_with nat_eq bytes (cell_bytes key (cell_spelled h bytes)) ≡ b → (if b then Some (cell_spelled h bytes) else None) ≡ Some c → StartsWith bytes (cell_bytes key c) × (c.head ≡ h)
    by true e is = subst (λ k. StartsWith bytes (cell_bytes key k) × (k.head ≡ h)) (same_Some (cell_spelled h bytes) c is) (begins bytes (cell_bytes key (cell_spelled h bytes)) e, refl)
    by false e is = absurd (none-some c is)

pub cell_at-written : (key : Key) (bytes : List ℕ) (c : Cell) → cell_at key bytes ≡ Some c → StartsWith bytes (cell_bytes key c)
cell_at-written key bytes c = by (head_at key bytes)
  where
    by : (head : Option Head) → option_and_then (λ h. cell_behind key h bytes) head ≡ Some c → StartsWith bytes (cell_bytes key c)
    by None is = absurd (none-some c is)
    by (Some h) is = (behind-begins key h bytes c is).0

-- a packet's bytes are those that spelled it
pub packet_bytes-packet_of_bytes : (bytes : List ℕ) → 4 ≤ length bytes → AreBytes bytes → packet_bytes (packet_of_bytes bytes) ≡ bytes
unfolding packet_of_bytes
packet_bytes-packet_of_bytes bytes long fits =
    ap (λ xs. xs ++ drop 4 bytes) (id_bytes-id_of_bytes (take 4 bytes) (length-take-le 4 bytes long) (λ k. part_fits bytes 0 4 k fits))
    ∙ take-append-drop 4 bytes

-- ---- what a reader looks at behind a head

-- as many bytes as stand before a cell's check
abbrev pub front_size : Head → ℕ
front_size h = head_size + frame_size h.configuration

-- the bytes where the symbol stands
abbrev pub symbol_there : Head → List ℕ → List ℕ
symbol_there h bytes = take h.configuration.symbol_size (drop 56 bytes)

-- the check that has to stand behind them
abbrev pub right_check : Key → Head → List ℕ → List ℕ
right_check key h bytes = check_of key (take 56 bytes ++ digest_of (symbol_there h bytes))

pub length-payload_spelled : (h : Head) (bytes : List ℕ) → length (cell_spelled h bytes).packet.payload ≡ min (4 + h.configuration.symbol_size) (length bytes - 52) - 4
unfolding packet_of_bytes
length-payload_spelled h bytes =
    length-drop 4 (take (frame_size h.configuration) (drop head_size bytes))
    ∙ ap (λ n. n - 4) (length-take (frame_size h.configuration) (drop head_size bytes) ∙ ap (min (frame_size h.configuration)) (length-drop head_size bytes))

payload_spelled : (h : Head) (bytes : List ℕ) → (cell_spelled h bytes).packet.payload ≡ symbol_there h bytes
unfolding packet_of_bytes
payload_spelled h bytes =
    drop-take 4 h.configuration.symbol_size (drop head_size bytes) ∙ ap (take h.configuration.symbol_size) (drop-drop 4 head_size bytes)

-- the symbol of a cell that is read
pub payload_behind : (key : Key) (h : Head) (bytes : List ℕ) (c : Cell) → cell_behind key h bytes ≡ Some c → c.packet.payload ≡ symbol_there h bytes
payload_behind key h bytes c = by (starts_with nat_eq bytes (cell_bytes key (cell_spelled h bytes)))
  where
    by : (b : Bool) → (if b then Some (cell_spelled h bytes) else None) ≡ Some c → c.packet.payload ≡ symbol_there h bytes
    by true is = ap (λ (k : Cell). k.packet.payload) (sym (same_Some (cell_spelled h bytes) c is)) ∙ payload_spelled h bytes
    by false is = absurd (none-some c is)

module _ (key : Key) (h : Head) (bytes : List ℕ) (streamed : length h.stream ≡ 8) (named : length h.name ≡ 16) where
  pub none_behind_in_short : length bytes < cell_size h.configuration.symbol_size → cell_behind key h bytes ≡ None
  none_behind_in_short short =
      cell_behind-false key h bytes (λ starts.
      omega (
        arith,
        short,
        streamed,
        named,
        starts_with_length bytes (cell_bytes key (cell_spelled h bytes)) starts,
        length-cell_bytes key (cell_spelled h bytes),
        length-payload_spelled h bytes,
      ))

  module _ (long : cell_size h.configuration.symbol_size ≤ length bytes) where
    abbrev read_cell : Cell
    read_cell = cell_spelled h bytes

    length-front : length (cell_front key read_cell) ≡ front_size h
    length-front = omega (arith, streamed, named, long, length-cell_front key read_cell, length-payload_spelled h bytes)

    -- what the check is over, by the bytes
    fields_spelled : StartsWith bytes (cell_front key read_cell) → cell_fields key read_cell ≡ take 56 bytes ++ digest_of (symbol_there h bytes)
    fields_spelled front =
        let before = head_bytes key h ++ id_bytes read_cell.packet.id in
        let four : length (id_bytes read_cell.packet.id) ≡ 4 = refl in
        let size : length before ≡ 56 = omega (arith, length-append (head_bytes key h) (id_bytes read_cell.packet.id), four, length-head_bytes key h, streamed, named) in
        let begun : StartsWith bytes before =
        begins_first bytes before read_cell.packet.payload
        (subst (StartsWith bytes) (sym (append_assoc (head_bytes key h) (id_bytes read_cell.packet.id) read_cell.packet.payload)) front) in
        let there : before ≡ take 56 bytes = sym (ap (λ n. take n bytes) (sym size) ∙ begun) in
        λ i. there i ++ digest_of (payload_spelled h bytes i)

    pub none_without_right_check : (StartsWith (drop (front_size h) bytes) (right_check key h bytes) → ⊥) → cell_behind key h bytes ≡ None
    none_without_right_check other =
        cell_behind-false key h bytes (λ starts.
        let front = begins_first bytes (cell_front key read_cell) (check_of key (cell_fields key read_cell)) starts in
        other (subst (λ xs. StartsWith (drop (front_size h) bytes) (check_of key xs)) (fields_spelled front)
        (subst (λ n. StartsWith (drop n bytes) (check_of key (cell_fields key read_cell))) length-front
        (begins_second bytes (cell_front key read_cell) (check_of key (cell_fields key read_cell)) starts))))

    -- the bytes that a reader takes for the packet
    pub packet_read : AreBytes bytes → packet_bytes read_cell.packet ≡ take (frame_size h.configuration) (drop head_size bytes)
    packet_read fits =
        let part = take (frame_size h.configuration) (drop head_size bytes) in
        packet_bytes-packet_of_bytes part (omega (arith, long, length-take (frame_size h.configuration) (drop head_size bytes), length-drop head_size bytes))
        (λ i within. part_fits bytes head_size (frame_size h.configuration) i fits)

    pub cell_read : StartsWith bytes (head_bytes key h) → packet_bytes read_cell.packet ≡ take (frame_size h.configuration) (drop head_size bytes)
        → StartsWith (drop (front_size h) bytes) (right_check key h bytes) → cell_behind key h bytes ≡ Some read_cell
    cell_read headed written checked =
        let place : length (head_bytes key h) ≡ head_size = omega (arith, length-head_bytes key h, streamed, named) in
        let size : length (packet_bytes read_cell.packet) ≡ frame_size h.configuration =
        ap length written ∙ length-take (frame_size h.configuration) (drop head_size bytes) ∙ omega (arith, long, length-drop head_size bytes) in
        let behind : StartsWith (drop (length (head_bytes key h)) bytes) (packet_bytes read_cell.packet) =
        (λ i. take (size i) (drop (place i) bytes)) ∙ sym written in
        let front : StartsWith bytes (cell_front key read_cell) = begins_both bytes (head_bytes key h) (packet_bytes read_cell.packet) headed behind in
        let last : StartsWith (drop (length (cell_front key read_cell)) bytes) (check_of key (cell_fields key read_cell)) =
        subst (λ n. StartsWith (drop n bytes) (check_of key (cell_fields key read_cell))) (sym length-front)
        (subst (λ xs. StartsWith (drop (front_size h) bytes) (check_of key xs)) (sym (fields_spelled front)) checked) in
        cell_behind-true key h bytes (begins_both bytes (cell_front key read_cell) (check_of key (cell_fields key read_cell)) front last)
