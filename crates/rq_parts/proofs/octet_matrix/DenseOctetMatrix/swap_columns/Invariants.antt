-- What the loops keep in `octet_matrix::DenseOctetMatrix::swap_columns`.
use Rattle.std.proofs.Common.{◌≡◌, None}
use Rattle.std.specs.List.{swap}
use Rattle.rq_parts.proofs.ListChanges.{mapped_until}
use Rattle.rq_parts.proofs.octet_matrix.DenseOctetMatrix.swap_columns.Given as goal

abbrev pub invariant-loop-row : goal.invariant-loop-row
invariant-loop-row l =
    record {
      rows : l.self-inside.rows.values ≡ mapped_until (λ row. swap row l.i l.j) l.start_row_hint l.row l.initial.self-inside.rows.values;
      width : l.self-inside.rows.symbol_size ≡ l.initial.self-inside.rows.symbol_size;
      order : l.self-inside.rows.order ≡ None;
    }
