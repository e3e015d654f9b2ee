-- All rows of a table, in their order.
use Rattle.std.proofs.Common.{length, arith}
use Rattle.std.specs.List.{range_with_len}
use Rattle.std.proofs.lemmas.List.FromFn.{length-range_with_len, get_or-range_with_len}
use Rattle.rq_parts.specs.DenseOctetMatrix.{OctetTable}
use Rattle.rq_elimination.specs.RowSteps.{AreRows}

-- all rows, in their order
pub all_rows : (table : OctetTable) → AreRows (range_with_len 0 (length table.rows)) table
all_rows table =
    let long = length-range_with_len 0 (length table.rows) in
    record {
      below = λ i l. let e = get_or-range_with_len 0 (length table.rows) i 0 (omega (arith, long)) in omega (arith, long);
      apart = λ i j l m e.
          let first = get_or-range_with_len 0 (length table.rows) i 0 (omega (arith, long)) in
          let second = get_or-range_with_len 0 (length table.rows) j 0 (omega (arith, long)) in
          omega arith;
    }
