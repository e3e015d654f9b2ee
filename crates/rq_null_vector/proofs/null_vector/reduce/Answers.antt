-- What the check leaves to show of `null_vector::reduce`.
use Rattle.std.proofs.Common.{◌<◌, ◌+◌, length, zero-add, arith}
use Rattle.rq_elimination.proofs.SwappedRows.{Exchanges, swapped_rows}
use Rattle.rq_null_vector.proofs.ReducedRows.{swapped_reduced, reduced_more}
use Rattle.rq_null_vector.proofs.ZeroValues.{keeps_more}
use Rattle.rq_null_vector.proofs.null_vector.reduce.Goals as goal

pub loop-column-preserved : goal.loop-column-preserved
loop-column-preserved c =
    let v = c.loop-column.invariant in
    let found = c.in-Some.ensures.found in
    let rows = c.loop-column.rows in
    let swapped = c.swap.new.self in
    let column = c.loop-column.column in
    let a = c.loop-column.matrix in
    let b = c.scale_row.new.matrix in
    let scaled = c.scale_row.ensures in
    let cleared = c.clear_column.ensures in
    let in_rows : column < length rows = omega (arith, found) in
    let in_swapped : column < length swapped = omega (arith, c.swap.ensures.len) in
    let in_columns : 0 + column < a.width = omega (arith, v.keeps.width, c.requires.width) in
    let exchanges : Exchanges rows swapped column c.in-Some.pivot = record { by_index = c.swap.ensures.by_index; len = c.swap.ensures.len; left = in_rows; right = found.1 } in
    let are = swapped_rows exchanges a v.are_rows in
    let reduced = swapped_reduced exchanges 0 column a (omega arith) found.0 v.reduced in
    record {
      are_rows = rw (cleared.keeps.height, scaled.keeps.height) are;
      keeps = keeps_more c.args.matrix.now b c.clear_column.new.matrix (keeps_more c.args.matrix.now a b v.keeps scaled.keeps) cleared.keeps;
      reduced = reduced_more swapped 0 column a b c.clear_column.new.matrix are in_swapped in_columns v.keeps.octets_are (rw (zero-add column, c.swap.ensures.by_index.0 0) found.2) (rw (zero-add column) scaled.scaled) (rw (zero-add column) (rw scaled.keeps.width at cleared.cleared)) reduced;
    }
