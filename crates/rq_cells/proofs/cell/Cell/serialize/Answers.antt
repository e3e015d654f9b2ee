use Rattle.std.proofs.Common.{◌≡◌, ◌++◌, length, sym, ap, ◌∙◌, arith, rules, refl, Ok, length-append, append_assoc, take}
use Rattle.std.proofs.lemmas.List.{take_all}
use Rattle.rq_base.proofs.Accepted.{same_ok}
use Rattle.rq_standard.specs.Packet.{id_bytes}
use Rattle.rq_cells.specs.Cells.{check_of, digest_of, head_bytes, cell_bytes, cell_fields}
use Rattle.rq_cells.proofs.HeadBytes.{length-head_bytes}
use Rattle.rq_cells.proofs.cell.Cell.serialize.Goals as goal
use Rattle.rq_cells.proofs.cell.Cell.serialize.Goals.{After-as_slice}

-- head and payload id
module _ (c : After-as_slice) where
  written : c.as_slice.result.now ≡ head_bytes c.args.key.now c.args.self.now.head ++ id_bytes c.args.self.now.packet.id
  written =
      c.as_slice.ensures.value ∙ c.in_ok-extend_from_slice.ensures.items
      ∙ (λ i. same_ok c.in_ok-bytes.bytes.items (head_bytes c.args.key.now c.args.self.now.head) (sym c.in_ok-bytes.ensures) i ++ (c.serialize-2.ensures.value ∙ ap id_bytes c.payload_id.ensures) i)

  size : length c.as_slice.result.now ≡ 56
  size =
      let h = c.args.self.now.head in
      let streamed : length h.stream ≡ 8 = search rules in
      let named : length h.name ≡ 16 = search rules in
      let four : length (id_bytes c.args.self.now.packet.id) ≡ 4 = refl in
      ap length written
      ∙ omega (arith, length-append (head_bytes c.args.key.now h) (id_bytes c.args.self.now.packet.id), length-head_bytes c.args.key.now h, streamed, named, four)

pub cell_check-check-requires : goal.cell_check-check-requires
cell_check-check-requires c = omega (arith, size ((goal.at.cell_check-check-requires c).After-as_slice))

pub returns : goal.returns
returns c =
    let moved = (goal.at.returns c).After-as_slice in
    let key = c.args.key.now in
    let cell = c.args.self.now in
    let head = head_bytes key cell.head in
    let id = id_bytes cell.packet.id in
    let digest : c.digest_of-digest.result ≡ digest_of cell.packet.payload = c.digest_of-digest.ensures ∙ ap digest_of c.data.ensures in
    let front : take 56 c.as_slice.result.now ≡ head ++ id = take_all 56 c.as_slice.result.now (omega (arith, size moved)) ∙ written moved in
    let check : c.cell_check-check.result ≡ check_of key (cell_fields key cell) =
    c.cell_check-check.ensures ∙ (λ i. check_of key (front i ++ digest i)) in
    let begun : c.extend_from_slice.new.self.items ≡ head ++ id = sym c.as_slice.ensures.value ∙ written moved in
    let packed : c.extend_from_slice-2.new.self.items ≡ head ++ (id ++ cell.packet.payload) =
    c.in_ok-extend_from_slice-2.ensures.items ∙ (λ i. begun i ++ c.data-2.ensures i) ∙ append_assoc head id cell.packet.payload in
    let bytes : c.extend_from_slice-3.new.self.items ≡ cell_bytes key cell =
    c.in_ok-extend_from_slice-3.ensures.items ∙ (λ i. packed i ++ check i) in
    ap Ok (sym bytes)
