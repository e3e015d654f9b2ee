use Rattle.std.proofs.Common.{◌∙◌, ℕ, sym, ap, get_or, vec_len, arith}
use Rattle.rq_standard.specs.TableRows.{row_of_numbers}
use Rattle.rq_tables.proofs.Lookups.{rows_from_push, rows_from_end}
use Rattle.rq_tables.proofs.systematic_constants.push_rows.Goals as goal

pub loop-numbers_of_row-preserved : goal.loop-numbers_of_row-preserved
loop-numbers_of_row-preserved c =
    let at = c.loop-numbers_of_row.numbers_of_row-index in
    let made = c.loop-numbers_of_row.rows in
    let step = rows_from_push made.items (vec_len made) c.args.numbers.now at (0, 0, 0, 0, 0) c.row_at.result c.loop-numbers_of_row-test.true (c.row_at.ensures ∙ ap (λ (n : ℕ). row_of_numbers n (get_or c.args.numbers.now at (0, 0, 0, 0, 0))) c.len.ensures) in
    record {
      made = rw (c.in_ok-push.ensures.items, c.in_ok-push.ensures.len) (step ∙ c.loop-numbers_of_row.invariant.made);
      count = omega (arith, c.in_ok-push.ensures.len);
    }

pub returns-clause-rows : goal.returns-clause-rows
returns-clause-rows c =
    sym (rows_from_end c.loop-numbers_of_row.rows.items (vec_len c.loop-numbers_of_row.rows) c.args.numbers.now c.loop-numbers_of_row.numbers_of_row-index c.loop-numbers_of_row-test.false)
    ∙ c.loop-numbers_of_row.invariant.made
