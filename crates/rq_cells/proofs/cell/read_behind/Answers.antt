use Rattle.std.proofs.Common.{◌≡◌, ◌≤◌, ◌-◌, ◌++◌, sym, ap, ◌∙◌, take, drop, length, arith, rules, Some, Ok, Err, if◌then◌else◌, length-take}
use Rattle.std.specs.List.{starts_with}
use Rattle.std.specs.Prelude.{nat_eq}
use Rattle.std.proofs.lemmas.List.{drop-take, length-drop, take_rest}
use Rattle.std.proofs.lemmas.Bool.{le-ltb}
use Rattle.rq_base.proofs.Accepted.{same_ok}
use Rattle.rq_bytes.specs.declared.error.Error.TheVariants.{PacketTooShort}
use Rattle.rq_base.specs.RefusedInput.{read_packet}
use Rattle.rq_standard.specs.Packet.{packet_of_bytes}
use Rattle.rq_standard.specs.Streams.{frame_size}
use Rattle.rq_cells.specs.Cells.{check_of, head_size}
use Rattle.rq_cells.proofs.Beginnings.{begins, refuted}
use Rattle.rq_cells.proofs.CellBytes.{front_size, right_check, none_without_right_check, packet_read, cell_read}
use Rattle.rq_cells.proofs.cell.read_behind.Goals as goal

pub returns-then-not-starts_with-clause-cell : goal.returns-then-not-starts_with-clause-cell
returns-then-not-starts_with-clause-cell c =
    let key = c.args.key.now in
    let h = c.args.head in
    let bytes = c.args.bytes.now in
    let streamed : length h.stream ≡ 8 = search rules in
    let named : length h.name ≡ 16 = search rules in
    let size : c.cell_length.result - 8 ≡ front_size h = omega (arith, c.cell_length.ensures) in
    let back = c.split_at.ensures.back ∙ ap (λ n. drop n bytes) size in
    let right : c.cell_check.result ≡ right_check key h bytes = c.cell_check.ensures ∙ ap (λ xs. check_of key (take 56 bytes ++ xs)) c.requires.digest in
    let test : c.starts_with.result ≡ starts_with nat_eq (drop (front_size h) bytes) (right_check key h bytes) =
    c.starts_with.ensures.value ∙ (λ i. starts_with nat_eq (back i) (right i)) in
    sym (none_without_right_check key h bytes streamed named c.requires.long
    (refuted (drop (front_size h) bytes) (right_check key h bytes) (sym test ∙ c.if-not-starts_with.true)))

pub returns-clause-cell : goal.returns-clause-cell
returns-clause-cell c =
    let key = c.args.key.now in
    let h = c.args.head in
    let bytes = c.args.bytes.now in
    let streamed : length h.stream ≡ 8 = search rules in
    let named : length h.name ≡ 16 = search rules in
    let long = c.requires.long in
    let size : c.cell_length.result - 8 ≡ front_size h = omega (arith, c.cell_length.ensures) in
    let front = c.split_at.ensures.front ∙ ap (λ n. take n bytes) size in
    let back = c.split_at.ensures.back ∙ ap (λ n. drop n bytes) size in
    let right : c.cell_check.result ≡ right_check key h bytes = c.cell_check.ensures ∙ ap (λ xs. check_of key (take 56 bytes ++ xs)) c.requires.digest in
    let test : c.starts_with.result ≡ starts_with nat_eq (drop (front_size h) bytes) (right_check key h bytes) =
    c.starts_with.ensures.value ∙ (λ i. starts_with nat_eq (back i) (right i)) in
    let checked = begins (drop (front_size h) bytes) (right_check key h bytes) (sym test ∙ c.if-not-starts_with.false) in
    let written = packet_read key h bytes streamed named long (λ i within. let fits = c.type_inv.bytes i in omega (arith, fits)) in
    let before = c.split_at.result.0.now in
    let part = take (length before - head_size) (drop head_size before) in
    let is : part ≡ take (frame_size h.configuration) (drop head_size bytes) =
    take_rest before head_size ∙ ap (drop head_size) front ∙ drop-take head_size (frame_size h.configuration) bytes in
    let enough : 4 ≤ length part = omega (arith, long, ap length is, length-take (frame_size h.configuration) (drop head_size bytes), length-drop head_size bytes) in
    let read : read_packet part ≡ Ok (packet_of_bytes part) = ap (λ b. if b then Err PacketTooShort else Ok (packet_of_bytes part)) (le-ltb (length part) 4 enough) in
    let packet : c.in_ok-packet.packet ≡ packet_of_bytes (take (frame_size h.configuration) (drop head_size bytes)) =
    same_ok c.in_ok-packet.packet (packet_of_bytes part) (sym c.in_ok-packet.ensures ∙ read) ∙ ap packet_of_bytes is in
    (λ i. Some (record { head = h; packet = packet i })) ∙ sym (cell_read key h bytes streamed named long c.requires.head written checked)
