-- What the check leaves to show of `sparse_matrix::SparseBinaryMatrix::get_ones_in_column_into`.
use Rattle.std.proofs.Common.{ℕ, List, [], length, get_or, sym, ap, subst, ◌∙◌, arith}
use Rattle.rq_standard.specs.BitTableSteps.{ArePlacesOfOnes}
use Rattle.rq_parts.specs.SparseBinaryVec.{listed_bit}
use Rattle.rq_matrix.specs.SparseBinaryMatrix.{sparse_bit}
use Rattle.rq_matrix.specs.SparseRows.{places_between}
use Rattle.rq_matrix.specs.SparseTables.{bit-before}
use Rattle.rq_matrix.proofs.SparseMatrixLaws.{places-same}
use Rattle.rq_matrix.proofs.SparseRowLaws.{between_places}
use Rattle.rq_matrix.proofs.sparse_matrix.SparseBinaryMatrixBinaryMatrix.get_ones_in_column_into.Goals as goal
use Rattle.rq_matrix.proofs.sparse_matrix.SparseBinaryMatrixBinaryMatrix.get_ones_in_column_into.Goals.{After-places_between-arg-1}

-- the rows that are listed have a one in the column
module _ (c : After-places_between-arg-1) where
  listed : ArePlacesOfOnes (λ row. listed_bit (get_or c.args.self.now.rows.items row []) c.stored_column.result) 0 (length c.args.self.now.row_order.order) c.get-stored.result.now
  listed =
      let old = c.args.self.now in
      let bit = λ (row : ℕ). listed_bit (get_or old.rows.items row []) c.stored_column.result in
      let each = (old.index_is c.in-Some.index c.in-Some.is).each c.stored_column.result c.stored_column.ensures.below in
      subst (λ n. ArePlacesOfOnes bit 0 n c.get-stored.result.now) (sym old.ordered) (subst (ArePlacesOfOnes bit 0 (length old.rows.items)) (sym c.get-stored.ensures) each)

pub places_between-requires : goal.places_between-requires
places_between-requires c = λ k d l.
    let below = ((listed c).within k d l).1 in
    omega (arith, below, ap length c.places.ensures, c.args.self.now.rows_in_order.place_count)

pub returns-in_ok-places_between-clause-ok : goal.returns-in_ok-places_between-clause-ok
returns-in_ok-places_between-clause-ok c =
    let old = c.args.self.now in
    let start = c.args.start_row in
    let end = c.args.end_row in
    let bit = λ (row : ℕ). listed_bit (get_or old.rows.items row []) c.stored_column.result in
    let list = listed (goal.at.returns-in_ok-places_between-clause-ok c).After-places_between-arg-1 in
    let items = c.in_ok-places_between.ensures.ok ∙ ap (λ (places : List ℕ). places_between c.get-stored.result.now places start end) c.places.ensures in
    subst (ArePlacesOfOnes (λ row. sparse_bit old.width old.boundary old.rows.items old.row_order old.column_order old.tail row c.args.col) start end) (sym items)
    (places-same (λ row. bit (get_or old.row_order.order row 0)) (λ row. sparse_bit old.width old.boundary old.rows.items old.row_order old.column_order old.tail row c.args.col) start end (places_between c.get-stored.result.now old.row_order.places start end)
    (λ row _ _.
    ap (listed_bit (get_or old.rows.items (get_or old.row_order.order row 0) [])) c.stored_column.ensures.value
    ∙ sym (bit-before old.width old.boundary old.rows.items old.row_order old.column_order old.tail row c.args.col c.requires.before))
    (between_places old.row_order old.rows_in_order start end bit c.get-stored.result.now list (omega (arith, c.requires.rows, old.height_within, old.ordered))))
