use Rattle.std.proofs.Common.{◌≡◌, ℕ, ◌+◌, ◌-◌, ◌<◌, Vec, Global, List, [], ◌++◌, length, map, take, drop, get_or, sym, ap, subst, ◌∙◌, arith}
use Rattle.std.specs.Prelude.{vec_items}
use Rattle.std.specs.Vec.{with_items}
use Rattle.std.proofs.lemmas.List.{length-append, length-map, map-append, take-map, drop-map, get_or_append_left, with_items_is}
use Rattle.std.proofs.lemmas.List.Elements.{All-append, All-take, All-drop}
use Rattle.rq_cast.specs.Rows.{AreRooms}
use Rattle.rq_cast.specs.Sent.{sending_of, IsSentCell}
use Rattle.rq_cast.specs.Writing.{IsRoom}
use Rattle.rq_cast.proofs.sending.Sender.make.Goals as goal
use Rattle.rq_cast.proofs.sending.Sender.make.Goals.{After-split_at_mut-cells}

module _ (c : After-split_at_mut-cells) where
  abbrev items : List (Vec ℕ Global)
  items = c.args.row.now.cells.items

  abbrev count : ℕ
  count = c.min-count.result

  front_rooms : AreRooms (sending_of c.args.self.now).key (sending_of c.args.self.now).head (map vec_items c.split_at_mut-cells.result.0.now)
  front_rooms =
      let s = sending_of c.args.self.now in
      subst (λ xs. AreRooms s.key s.head (map vec_items xs)) (sym (c.split_at_mut-cells.ensures.front ∙ ap (take count) c.as_mut_slice.ensures.value))
      (subst (AreRooms s.key s.head) (take-map vec_items count items) (All-take (IsRoom s.key s.head) count (map vec_items items) c.requires.row.rooms))

  back_rooms : AreRooms (sending_of c.args.self.now).key (sending_of c.args.self.now).head (map vec_items c.split_at_mut-cells.result.1.now)
  back_rooms =
      let s = sending_of c.args.self.now in
      subst (λ xs. AreRooms s.key s.head (map vec_items xs)) (sym (c.split_at_mut-cells.ensures.back ∙ ap (drop count) c.as_mut_slice.ensures.value))
      (subst (AreRooms s.key s.head) (drop-map vec_items count items) (All-drop (IsRoom s.key s.head) count (map vec_items items) c.requires.row.rooms))

pub put_cells-requires-clause-rooms : goal.put_cells-requires-clause-rooms
put_cells-requires-clause-rooms c = front_rooms (goal.at.put_cells-requires-clause-rooms c).After-split_at_mut-cells

pub returns-clause-row : goal.returns-clause-row
returns-clause-row c =
    let moved = (goal.at.returns-clause-row c).After-split_at_mut-cells in
    let s = sending_of c.args.self.now in
    let number = c.args.number in
    let new = c.put_cells.new.row in
    let rest = c.split_at_mut-cells.result.1.now in
    let cells = map (vec_items {X = ℕ} {Z = Global}) new in
    let others = map (vec_items {X = ℕ} {Z = Global}) rest in
    let count : length new ≡ c.min-count.result = omega (arith, c.put_cells.auto.row, c.split_at_mut-cells.ensures.front_len) in
    let long : length (new ++ rest) ≡ c.args.row.now.cells.len =
    omega (arith, length-append new rest, count, c.split_at_mut-cells.ensures.back_len, c.as_mut_slice.ensures.len) in
    let after : (with_items c.args.row.now.cells (new ++ rest)).items ≡ new ++ rest = with_items_is c.args.row.now.cells (new ++ rest) long in
    let are : map (vec_items {X = ℕ} {Z = Global}) (with_items c.args.row.now.cells (new ++ rest)).items ≡ cells ++ others = ap (map vec_items) after ∙ map-append vec_items new rest in
    record {
      count = omega (arith, ap length after, long, c.requires.row.count, c.args.row.now.cells.ok.0);
      rooms = subst (AreRooms s.key s.head) (sym are) (All-append (IsRoom s.key s.head) cells others c.put_cells.ensures.rooms (back_rooms moved));
      few = omega (arith, c.min-count.ensures);
      there = λ n from below.
          let j = n - number in
          let few : j < c.min-count.result = omega (arith, from, below) in
          let within : j < length cells = omega (arith, few, count, length-map new (vec_items {X = ℕ} {Z = Global})) in
          let here : number + j ≡ n = omega (arith, from) in
          subst (λ xs. IsSentCell s n (get_or xs j [])) (sym are)
          (subst (IsSentCell s n) (sym (get_or_append_left cells others [] j within))
          (subst (λ i. IsSentCell s i (get_or cells j [])) here (c.put_cells.ensures.cells j within)));
    }
