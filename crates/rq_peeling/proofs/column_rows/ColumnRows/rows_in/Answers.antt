-- What the check leaves to show of `column_rows::ColumnRows::rows_in`.
use Rattle.std.proofs.Common.{◌≡◌, ℕ, ◌+◌, ◌<◌, ◌≤◌, List, [], length, map, min, sym, ap, ◌∙◌, arith}
use Rattle.std.specs.Prelude.{slice_index_or, slice_range}
use Rattle.std.specs.List.{range_with_len}
use Rattle.std.proofs.lemmas.Bool.{ltb-true, ltb-false}
use Rattle.std.proofs.lemmas.List.{get_or_default, get_or_past, get_or_read}
use Rattle.std.proofs.lemmas.List.FromFn.{length-map-range_with_len, get_or-map-range_with_len}
use Rattle.rq_algebra.specs.Systems.{at}
use Rattle.rq_peeling.specs.ColumnRows.{ColumnLists, rows_of_column}
use Rattle.rq_peeling.proofs.column_rows.ColumnRows.rows_in.Goals as goal
use Rattle.rq_peeling.proofs.column_rows.ColumnRows.rows_in.Goals.{in-Some, in-None}

-- a column that callers see has a start
has_start : (starts rows : List ℕ) (lists : List (List ℕ)) (column : ℕ) → map (rows_of_column starts rows) (range_with_len 0 (length starts)) ≡ lists → column < length lists → column < length starts
has_start starts rows lists column view inside = omega (arith, ap length view, length-map-range_with_len (rows_of_column starts rows) 0 (length starts))

pub overflow_add-column : goal.overflow_add-column
overflow_add-column c = omega (arith, has_start _ _ _ _ (ap (λ (s : ColumnLists). s.lists) c.self.view_is) c.requires, c.self.inside.starts.ok)

pub index-requires : goal.index-requires
index-requires c = omega (arith, has_start _ _ _ _ (ap (λ (s : ColumnLists). s.lists) c.self.view_is) c.requires)

pub returns-clause-rows : goal.returns-clause-rows
returns-clause-rows c =
    let column = c.args.column in
    let starts = c.self.inside.starts.items in
    let rows = c.self.inside.rows.items in
    let has : column < length starts = has_start _ _ _ _ (ap (λ (s : ColumnLists). s.lists) c.self.view_is) c.requires in
    let view : slice_index_or c.args.self.now.lists column [] ≡ rows_of_column starts rows column =
    ap (λ (s : ColumnLists). slice_index_or s.lists column []) (sym c.self.view_is) ∙ get_or-map-range_with_len (rows_of_column starts rows) 0 (length starts) column column [] has (omega arith) in
    let end : c.match-get.end ≡ min (slice_index_or starts (column + 1) (length rows)) (length rows) = elim c.match-get.branch [
      | in-Some w ↦
          let found = w.in-Some.ensures.lookup in
          let inside : column + 1 < length starts = ltb-true (column + 1) (length starts) (sym (rw c.deref.ensures.value at found.0)) in
          let next : w.in-Some.next.now ≡ slice_index_or starts (column + 1) w.in-Some.next.now = rw c.deref.ensures.value at found.1 in
          let read : w.in-Some.next.now ≡ slice_index_or starts (column + 1) (length rows) = next ∙ get_or_default starts (column + 1) w.in-Some.next.now (length rows) inside in
          w.end-is ∙ w.min-end.ensures ∙ omega (arith, read, w.len.ensures, c.self.inside.rows.ok)
      | in-None w ↦
          let missed = w.in-None.ensures.lookup in
          let past : length starts ≤ column + 1 = ltb-false (column + 1) (length starts) (sym (rw c.deref.ensures.value at missed.0)) in
          let read : slice_index_or starts (column + 1) (length rows) ≡ length rows = get_or_past starts (column + 1) (length rows) past in
          w.end-is ∙ omega (arith, read, w.len-end.ensures, c.self.inside.rows.ok)
    ] in
    let first : c.index.result.now ≡ at starts column = get_or_read starts column c.index.result.now has c.index.ensures 0 in
    let start : c.min-start.result ≡ min (at starts column) c.match-get.end = c.min-start.ensures ∙ ap (λ (n : ℕ). min n c.match-get.end) first in
    c.part.ensures
    ∙ ap (λ (xs : List ℕ). slice_range xs c.min-start.result c.match-get.end) c.as_slice.ensures.value
    ∙ ap (λ (n : ℕ). slice_range rows n c.match-get.end) start
    ∙ ap (λ (n : ℕ). slice_range rows (min (at starts column) n) n) end
    ∙ sym view
