use Rattle.std.proofs.Common.{◌≡◌, ℕ, ◌+◌, ◌<◌, [], length, map, get_or, sym, ap, subst, ◌∙◌, arith, rules}
use Rattle.std.specs.Prelude.{vec_items}
use Rattle.std.proofs.lemmas.List.{length-set, length-map, get_or-map, get_or-set_other}
use Rattle.std.proofs.lemmas.List.Elements.{All-set}
use Rattle.rq_cast.specs.Rows.{AreRooms, HasPacketOf, symbol_digest}
use Rattle.rq_cast.specs.Sent.{sending_of, IsSentCell}
use Rattle.rq_cast.specs.Writing.{IsRoom}
use Rattle.rq_cast.proofs.RowCells.{items_after, at_cell, set_below}
use Rattle.rq_cast.proofs.sending.Sender.put_checks.Goals as goal

pub put_check-requires : goal.put_check-requires
put_check-requires c =
    let s = sending_of c.args.self.now in
    let below : c.loop-cell.cell-index < length c.loop-cell.cell-items = omega (arith, c.loop-cell-test.true, c.loop-cell.invariant.count) in
    record {
      room = subst (IsRoom s.key s.head) (sym c.as_mut_slice.ensures.value)
          (at_cell (IsRoom s.key s.head) c.loop-cell.cell-items c.loop-cell.cell-index c.cell-item.result below c.loop-cell.invariant.rooms);
    }

pub loop-cell-preserved : goal.loop-cell-preserved
loop-cell-preserved c =
    let s = sending_of c.args.self.now in
    let items = c.loop-cell.cell-items in
    let n = c.loop-cell.cell-index in
    let row = c.args.row.now in
    let kept = c.loop-cell.invariant in
    let v = get_or items n c.cell-item.result in
    let new = c.put_check.new.cell in
    let cells = map vec_items items in
    let long : length new ≡ v.len = search rules in
    let is = items_after items n v new long in
    let here : n < length items = omega (arith, c.loop-cell-test.true, kept.count) in
    let below : n < length cells = omega (arith, here, length-map items vec_items) in
    let before : n < length (map vec_items row) = omega (arith, c.loop-cell-test.true, length-map row vec_items) in
    let was : c.as_mut_slice.result.now ≡ get_or (map vec_items row) n [] =
    c.as_mut_slice.ensures.value ∙ sym (get_or-map vec_items items n c.cell-item.result [] here) ∙ kept.others n (omega arith) in
    record {
      number = omega (arith, kept.number);
      count = length-set items n _ ∙ kept.count;
      rooms = subst (AreRooms s.key s.head) (sym is) (All-set (IsRoom s.key s.head) cells n new c.put_check.ensures.room kept.rooms);
      others = λ j past. subst (λ xs. get_or xs j [] ≡ get_or (map vec_items row) j []) (sym is)
          (get_or-set_other cells n j new [] (λ same. omega (arith, past, same)) ∙ kept.others j (omega (arith, past)));
      whole = λ first has hashed.
          subst (λ xs. (j : ℕ) → j < n + 1 → IsSentCell s (first + j) (get_or xs j [])) (sym is)
          (set_below (λ j cell. IsSentCell s (first + j) cell) cells n new below (kept.whole first has hashed)
          (c.put_check.ensures.cell (first + n) (subst (HasPacketOf s (first + n)) (sym was) (has n before))
          ((λ i. get_or c.args.digests.now (kept.number i) []) ∙ hashed n before ∙ ap (symbol_digest s.encoded) (sym was))));
    }
