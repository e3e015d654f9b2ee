-- What the check leaves to show of `sparse_matrix::SparseBinaryMatrix::hint_column_dense_and_frozen`.
use Rattle.std.proofs.Common.{[], length, get_or, sym, subst, ◌∙◌, arith}
use Rattle.std.specs.Option.{is_some}
use Rattle.rq_standard.specs.BitTableSteps.{ArePlacesOfOnes}
use Rattle.rq_parts.specs.SparseBinaryVec.{listed_bit}
use Rattle.rq_matrix.specs.SparseTables.{stored-small}
use Rattle.rq_matrix.proofs.SparseMatrixLaws.{made_dense}
use Rattle.rq_standard.proofs.OptionValues.{value_of}
use Rattle.rq_matrix.proofs.sparse_matrix.SparseBinaryMatrixBinaryMatrix.hint_column_dense_and_frozen.Goals as goal
use Rattle.rq_matrix.proofs.sparse_matrix.SparseBinaryMatrixBinaryMatrix.hint_column_dense_and_frozen.Goals.{After-indexed_rows-rows}

pub indexed_rows-rows-requires : goal.indexed_rows-rows-requires
indexed_rows-rows-requires c = λ lists is. omega (arith, (c.args.self.now.index_is lists is).count, c.stored_column-column.ensures.below)

-- the rows that are listed have a one in the column
module _ (c : After-indexed_rows-rows) where
  listed : ArePlacesOfOnes (λ row. listed_bit (get_or c.args.self.now.rows.items row []) c.stored_column-column.result) 0 (length c.args.self.now.rows.items) c.indexed_rows-rows.result.now
  listed =
      let old = c.args.self.now in
      let some = value_of old.index c.requires.indexed in
      subst (ArePlacesOfOnes (λ row. listed_bit (get_or old.rows.items row []) c.stored_column-column.result) 0 (length old.rows.items)) (sym (c.indexed_rows-rows.ensures some.0 some.1)) ((old.index_is some.0 some.1).each c.stored_column-column.result c.stored_column-column.ensures.below)

pub set_ones-requires-clause-rows : goal.set_ones-requires-clause-rows
set_ones-requires-clause-rows c = λ k d l.
    let below = ((listed (goal.at.set_ones-requires-clause-rows c).After-indexed_rows-rows).within k d l).1 in
    omega (arith, below, c.in_ok-push_column.ensures.ok.rows, c.args.self.now.tail_rows)

pub invariant_of-self-2 : goal.invariant_of-self-2
invariant_of-self-2 c =
    let old = c.args.self.now in
    let pushes = c.in_ok-push_column.ensures.ok in
    let marks = c.set_ones.ensures in
    record {
      rows_fit = old.rows_fit;
      columns_fit = old.columns_fit;
      height_within = old.height_within;
      width_within = old.width_within;
      boundary_within = omega (arith, c.requires.last, old.boundary_within);
      ordered = old.ordered;
      rows_in_order = old.rows_in_order;
      columns_in_order = old.columns_in_order;
      sparse = old.sparse;
      tail_rows = marks.rows ∙ pushes.rows ∙ old.tail_rows;
      tail_columns = omega (arith, marks.columns, pushes.columns, old.tail_columns, c.requires.last, old.boundary_within);
      index_is = old.index_is;
    }

pub returns-clause-ok : goal.returns-clause-ok
returns-clause-ok c =
    let old = c.args.self.now in
    made_dense old.height old.width old.boundary c.args.i c.stored_column-column.result (is_some old.index) old.rows.items old.row_order old.column_order old.tail c.push_column.new.self c.set_ones.new.self c.indexed_rows-rows.result.now old.rows_in_order
    (omega (arith, old.ordered, old.height_within)) old.ordered old.tail_rows c.requires.last old.boundary_within old.tail_columns c.stored_column-column.ensures.value
    (λ r. stored-small (length old.column_order.order) old.rows.items r c.stored_column-column.result old.sparse) (listed (goal.at.returns-clause-ok c).After-indexed_rows-rows) c.in_ok-push_column.ensures.ok c.set_ones.ensures
