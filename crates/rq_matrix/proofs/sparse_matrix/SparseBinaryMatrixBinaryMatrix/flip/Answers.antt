-- What the check leaves to show of `sparse_matrix::SparseBinaryMatrix::flip`.
use Rattle.std.proofs.Common.{◌≡◌, ◌-◌, ◌<◌, ℕ, zero, suc, List, false, [], get_or, length, refl, sym, ap, subst, ◌∙◌, inl, inr, arith}
use Rattle.std.specs.Int.Bits.{bit_xor}
use Rattle.std.specs.Option.{is_some}
use Rattle.std.proofs.lemmas.List.{get_or_read}
use Rattle.rq_standard.specs.BitTableSteps.{bit_of}
use Rattle.rq_parts.specs.SparseBinaryVec.{listed_bit, SetsListed}
use Rattle.rq_matrix.specs.DenseTails.{tail_bit}
use Rattle.rq_matrix.specs.SparseBinaryMatrix.{sparse_bit}
use Rattle.rq_matrix.specs.SparseTables.{bit-before, bit-from, tail-small}
use Rattle.rq_matrix.proofs.SparseMatrixLaws.{sets_listed, sets_tail}
use Rattle.rq_matrix.proofs.StoredRows.{with_row_set}
use Rattle.rq_matrix.proofs.sparse_matrix.SparseBinaryMatrixBinaryMatrix.flip.Goals as goal

pub invariant_of-self : goal.invariant_of-self
invariant_of-self c =
    let old = c.args.self.now in
    let column = c.from-column.result in
    let off : is_some old.index ≡ false = elim c.requires.settable [ inl off ↦ off | inr from ↦ absurd (omega (arith, c.if-j-self.true)) ] in
    let in_columns : column < length old.column_order.order = omega (arith, c.from-column.ensures, c.stored_column.ensures.below) in
    with_row_set old off c.stored_row-row.result c.stored_row-row.ensures.below c.index_mut.result.now c.flip.new.self c.index_mut.ensures.value column (bit_xor (listed_bit c.index_mut.result.now column) 1) c.flip.result in_columns
    c.flip.ensures.ok c.flip.ensures.refused c.flip.ensures.increasing

pub returns-in_ok-flip-clause-ok : goal.returns-in_ok-flip-clause-ok
returns-in_ok-flip-clause-ok c =
    let old = c.args.self.now in
    let rows = old.rows.items in
    let row = c.stored_row-row.result in
    let new = c.flip.new.self in
    let column = c.from-column.result in
    let at_row = c.stored_row-row.ensures.value in
    let at_column = c.from-column.ensures ∙ c.stored_column.ensures.value in
    let before = c.if-j-self.true in
    let old_bit = sparse_bit old.width old.boundary rows old.row_order old.column_order old.tail c.args.i c.args.j in
    let read = get_or_read rows row c.index_mut.result.now c.stored_row-row.ensures.below c.index_mut.ensures.value [] in
    let was : listed_bit c.index_mut.result.now column ≡ old_bit =
    ap (λ (l : List ℕ). listed_bit l column) read
    ∙ ap (λ r. listed_bit (get_or rows r []) column) at_row
    ∙ ap (listed_bit (get_or rows (get_or old.row_order.order c.args.i 0) [])) at_column
    ∙ sym (bit-before old.width old.boundary rows old.row_order old.column_order old.tail c.args.i c.args.j before) in
    let flipped = subst (λ (l : List ℕ). SetsListed l column (bit_xor (listed_bit c.index_mut.result.now column) 1) new) read c.in_ok-flip.ensures.ok in
    let sets = subst (λ bit. SetsListed (get_or rows row []) column (bit_xor bit 1) new) was flipped in
    sets_listed old.height old.width old.boundary (is_some old.index) rows old.row_order old.column_order old.tail c.args.i c.args.j row column (bit_xor old_bit 1) new old.rows_in_order old.columns_in_order
    (omega (arith, old.ordered, old.height_within)) c.requires.row old.ordered before (omega (arith, old.boundary_within, old.width_within)) at_row at_column sets

flipped-bit : (bit : ℕ) → bit < 2 → bit_xor bit 1 ≡ bit_of (bit_xor bit 1)
flipped-bit zero small = refl
flipped-bit (suc zero) small = refl
flipped-bit (suc (suc bit)) small = absurd (omega arith)

pub returns-else-j-self-clause-ok : goal.returns-else-j-self-clause-ok
returns-else-j-self-clause-ok c =
    let old = c.args.self.now in
    let row = c.stored_row-row.result in
    let at_row = c.stored_row-row.ensures.value in
    let column = old.width - 1 - c.args.j in
    let from = c.if-j-self.false in
    let bit = tail_bit old.tail row column in
    let was = ap (λ r. tail_bit old.tail r column) at_row ∙ sym (bit-from old.width old.boundary old.rows.items old.row_order old.column_order old.tail c.args.i c.args.j from) in
    let old_bit = sparse_bit old.width old.boundary old.rows.items old.row_order old.column_order old.tail c.args.i c.args.j in
    let is_bit = subst (λ b. bit_xor bit 1 ≡ bit_of (bit_xor b 1)) was (flipped-bit bit (tail-small old.tail row column)) in
    sets_tail old.height old.width old.boundary (is_some old.index) old.rows.items old.row_order old.column_order old.tail c.flip-else-j-self.new.self c.args.i c.args.j row (bit_xor old_bit 1) (bit_xor bit 1) old.rows_in_order
    (omega (arith, old.ordered, old.height_within)) c.requires.row from c.requires.column at_row is_bit c.flip-else-j-self.ensures
