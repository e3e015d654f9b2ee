-- What the check leaves to show of `hdpc_rows::HdpcRows::read_column`.
use Rattle.std.proofs.Common.{◌≡◌, ◌≢◌, ℕ, ◌<◌, List, length, sym, ap, ◌∙◌, arith}
use Rattle.std.specs.Int.Bits.{bit_xor}
use Rattle.std.proofs.lemmas.List.{length-map}
use Rattle.std.proofs.lemmas.Simd.{get_or-zip2}
use Rattle.rq_algebra.specs.Systems.{at}
use Rattle.rq_standard.specs.Octets.{octet_mul}
use Rattle.rq_standard.specs.OctetField.{octets}
use Rattle.rq_standard.specs.Rows.{row_multiple}
use Rattle.rq_parts.specs.DenseOctetMatrix.{entry_of}
use Rattle.rq_elimination.specs.HdpcRows.{HdpcTable}
use Rattle.rq_elimination.proofs.ChangedEntries.{at-row_multiple}
use Rattle.rq_algebra.proofs.Choices.{if_apart}
use Rattle.rq_elimination.proofs.hdpc_rows.HdpcRows.read_column.Goals as goal

pub returns-clause-in_column : goal.returns-clause-in_column
returns-clause-in_column c =
    let table = c.self.inside.table in
    let factors = c.self.inside.factors.items in
    let column = c.args.column in
    let copied = c.copy_column.new.octets in
    let sum = c.get-sum.result in
    let count = c.self.invariant.count in
    let added = rw c.as_slice-factors.ensures.value at c.add_row_multiple.ensures.sum in
    let lanes : length copied ≡ length factors = c.copy_column.ensures.len ∙ c.requires.lanes ∙ ap (λ (hdpc : HdpcTable). length hdpc.factors) (sym c.self.view_is) in
    let heights : length table.rows ≡ length c.args.self.now.table.rows = ap (λ (hdpc : HdpcTable). length hdpc.table.rows) c.self.view_is in
    let widths : table.width ≡ c.args.self.now.table.width = ap (λ (hdpc : HdpcTable). hdpc.table.width) c.self.view_is in
    let sum_small : sum < 256 = rw c.get-sum.ensures (c.self.invariant.octets.elements 0 column (omega (arith, heights, c.requires.some)) (omega (arith, widths, c.requires.column))) in
    let small = rw c.as_slice-factors.ensures.value at c.are_octets.ensures in
    rw (← c.self.view_is) (λ i from l.
    let there : i < length factors = omega (arith, count, l) in
    let other : i ≢ 0 = (λ e. omega (arith, e, from)) in
    ap (λ (r : List ℕ). at r i) added
    ∙ get_or-zip2 bit_xor copied (row_multiple sum factors) i 0 0 0 (omega (arith, lanes, there)) (omega (arith, there, length-map factors (octet_mul sum)))
    ∙ ap (bit_xor (at copied i)) (at-row_multiple sum factors i there sum_small (small i 0 there) ∙ ap (λ (x : ℕ). octets.mul x (at factors i)) c.get-sum.ensures ∙ octets.mul_comm (entry_of table 0 column) (at factors i))
    ∙ ap (λ (x : ℕ). octets.add x (octets.mul (at factors i) (entry_of table 0 column))) (c.copy_column.ensures.copied i (omega arith) l ∙ sym (if_apart i 0 0 (entry_of table i column) other)))
