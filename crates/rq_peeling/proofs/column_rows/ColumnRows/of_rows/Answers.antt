-- What the check leaves to show of `column_rows::ColumnRows::of_rows`.
use Rattle.std.proofs.Common.{◌≡◌, ℕ, ◌+◌, ◌<◌, ◌==◌, ◌++◌, List, [], All, count_by, length, replicate, sym, ap, ◌∙◌, subst, arith}
use Rattle.std.specs.List.{sum_by}
use Rattle.std.proofs.lemmas.List.{take_all}
use Rattle.std.proofs.lemmas.List.FromFn.{length-map-range_with_len, get_or-map-range_with_len}
use Rattle.rq_algebra.specs.Systems.{at}
use Rattle.rq_peeling.specs.SystemRows.{one_in}
use Rattle.rq_peeling.specs.ColumnRows.{HasPlaced, rows_of_column, rows_with}
use Rattle.rq_peeling.proofs.ColumnPlacing.{placed_same, length-rows_with, rows_of_column-put, room_for, room_left, rows_with-more, starts_within, written_back}
use Rattle.rq_peeling.proofs.column_rows.ColumnRows.of_rows.Goals as goal

pub place_row-requires-clause-room : goal.place_row-requires-clause-room
place_row-requires-clause-room c = λ k l.
    let lists = c.args.ones.now in
    let row = c.loop-row.row in
    let starts = c.as_mut_slice.ensures.value in
    let are = c.in_ok-starts.ensures.ends.1 in
    let placed = c.loop-row.invariant.placed c.in_ok-starts.ensures.ends.0 are in
    let in_row : row < length lists = omega (arith, c.loop-row-test.true, c.height-row-end.ensures) in
    let inside : k < length c.loop-row.starts.items = rw starts at l in
    rw (c.row.ensures, starts)
    (room_left c.in_ok-starts.ensures.ends.0 (λ k. rows_with lists k row) c.loop-row.starts.items c.loop-row.rows.items placed k inside (one_in lists row k) (rw (are.counted k (omega (arith, placed.long, inside))) (room_for lists k row in_row)))

pub place_row-requires-clause-within : goal.place_row-requires-clause-within
place_row-requires-clause-within c = λ k l.
    let starts = c.as_mut_slice.ensures.value in
    let are = c.in_ok-starts.ensures.ends.1 in
    let placed = c.loop-row.invariant.placed c.in_ok-starts.ensures.ends.0 are in
    rw (starts, c.as_mut_slice-in-loop-row.ensures.value) (starts_within c.in_ok-starts.ensures.ends.0 (λ k. rows_with c.args.ones.now k c.loop-row.row) c.loop-row.starts.items c.loop-row.rows.items placed k (rw starts at l))

pub loop-row-preserved : goal.loop-row-preserved
loop-row-preserved c =
    let v = c.loop-row.invariant in
    let lists = c.args.ones.now in
    let row = c.loop-row.row in
    let new_starts = c.place_row.new.starts in
    let new_rows = c.place_row.new.rows in
    let starts = c.as_mut_slice.ensures.value in
    let rows = c.as_mut_slice-in-loop-row.ensures.value in
    let in_row : row < length lists = omega (arith, c.loop-row-test.true, c.height-row-end.ensures) in
    let long : length new_starts ≡ length c.loop-row.starts.items = c.place_row.ensures.long ∙ ap length starts in
    let wide : length new_rows ≡ length c.loop-row.rows.items = c.place_row.ensures.wide ∙ ap length rows in
    rw (written_back c.loop-row.starts.len c.loop-row.starts.items new_starts c.loop-row.starts.ok.0 long, written_back c.loop-row.rows.len c.loop-row.rows.items new_rows c.loop-row.rows.ok.0 wide)
    (record {
      long = long ∙ v.long;
      below = c.place_row.ensures.below (length lists) in_row (subst (All (λ r. r < length lists)) (sym rows) v.below);
      placed = λ counts are.
          placed_same counts (λ k. replicate (count_by (λ column. column == k) c.row.result.now) row ++ rows_with lists k row) (λ k. rows_with lists k (row + 1)) new_starts new_rows
          (λ k. rows_with-more lists k row ∙ ap (λ (cs : List ℕ). replicate (count_by (λ column. column == k) cs) row ++ rows_with lists k row) (sym c.row.ensures))
          (c.place_row.ensures.placed counts (λ k. rows_with lists k row) (rw (starts, rows) (v.placed counts are)) (λ k l. rw (c.row.ensures, are.counted k l) (room_for lists k row in_row)));
    })

pub returns-clause-width : goal.returns-clause-width
returns-clause-width c = length-map-range_with_len (rows_of_column c.loop-row.starts.items c.loop-row.rows.items) 0 (length c.loop-row.starts.items) ∙ c.loop-row.invariant.long

pub returns-clause-lists : goal.returns-clause-lists
returns-clause-lists c = λ k l.
    let lists = c.args.ones.now in
    let starts = c.loop-row.starts.items in
    let rows = c.loop-row.rows.items in
    let v = c.loop-row.invariant in
    let counts = c.in_ok-starts.ensures.ends.0 in
    let are = c.in_ok-starts.ensures.ends.1 in
    let all : c.loop-row.row ≡ length lists = omega (arith, c.loop-row-test.false, c.loop-row.auto.row-end, c.height-row-end.ensures) in
    let placed : HasPlaced counts (λ k. rows_with lists k (length lists)) starts rows = subst (λ (n : ℕ). HasPlaced counts (λ k. rows_with lists k n) starts rows) all (v.placed counts are) in
    let inside : k < length starts = omega (arith, length-map-range_with_len (rows_of_column starts rows) 0 (length starts), l) in
    let full : (j : ℕ) → j < length counts → length (rows_with lists j (length lists)) ≡ at counts j = (λ (j : ℕ) (m : j < length counts).
    length-rows_with lists j (length lists) (omega arith) ∙ ap (sum_by (count_by (λ column. column == j))) (take_all (length lists) lists (omega arith)) ∙ sym (are.counted j m)) in
    get_or-map-range_with_len (rows_of_column starts rows) 0 (length starts) k k [] inside (omega arith)
    ∙ rows_of_column-put lists counts starts rows placed full k (omega (arith, placed.long, inside))
