-- What the check leaves to show of `pi_solver::homogeneous_column::sum_behind`.
use Rattle.std.proofs.Common.{◌≡◌, ◌+◌, ◌<◌, ℕ, suc, length, sym, ap, ◌∙◌, arith, bit_xor}
use Rattle.rq_algebra.specs.Systems.{at, dot}
use Rattle.rq_algebra.proofs.Sums.{dot_zero, dot-suc, mul_zero}
use Rattle.rq_standard.specs.OctetField.{octets}
use Rattle.rq_standard.specs.Octets.{octet_mul}
use Rattle.rq_parts.specs.DenseOctetMatrix.{entry_of}
use Rattle.rq_elimination.proofs.ChangedEntries.{mul_is}
use Rattle.rq_solver.specs.Peeled.{inactive_count}
use Rattle.rq_solver.specs.HomogeneousColumns.{inactive_entry}
use Rattle.rq_solver.proofs.pi_solver.homogeneous_column.sum_behind.Goals as goal

pub loop-f-init : goal.loop-f-init
loop-f-init c =
    let e = c.args.peeled.now in
    let row = entry_of c.args.recorded.now.table (at c.args.left.now c.args.place) in
    let entries = inactive_entry e.peeling c.args.column.now in
    c.zero-sum.ensures ∙ sym (dot_zero octets (c.args.place + 1) row entries (λ f l. ap (octets.mul (row f)) (c.requires.zeros f (omega arith)) ∙ mul_zero octets (row f)))

pub loop-f-preserved : goal.loop-f-preserved
loop-f-preserved c =
    let e = c.args.peeled.now in
    let f = c.loop-f.f in
    let row = entry_of c.args.recorded.now.table (at c.args.left.now c.args.place) in
    let entries = inactive_entry e.peeling c.args.column.now in
    let octet_is : c.new-octet.result ≡ entries f = c.new-octet.ensures ∙ ap (at c.args.column.now) c.inactive_column.ensures in
    let small : entries f < 256 = omega (arith, c.type_inv.column (at e.peeling.order (length e.peeling.rows + f))) in
    let below : (at c.args.left.now c.args.place) < length c.args.recorded.now.table.rows = c.requires.under_way.listed.below c.args.place c.requires.row in
    let entry_small : row f < 256 = c.args.recorded.now.octets.elements (at c.args.left.now c.args.place) f below (omega (arith, c.loop-f-test.true, c.requires.under_way.pivots.wide, c.width.ensures, c.pivots.ensures)) in
    let next : suc f ≡ f + 1 = omega arith in
    c.add_assign.ensures.after
    ∙ ap (λ (s : ℕ). bit_xor s c.mul.result) c.loop-f.invariant
    ∙ ap (bit_xor (dot octets f row entries)) (c.mul.ensures ∙ ap (λ (x : ℕ). octet_mul x c.new-octet.result) c.get.ensures ∙ ap (octet_mul (row f)) octet_is ∙ sym (mul_is (row f) (entries f) entry_small small))
    ∙ sym (dot-suc octets f row entries) ∙ ap (λ (n : ℕ). dot octets n row entries) next

pub returns : goal.returns
returns c =
    let e = c.args.peeled.now in
    let end : c.loop-f.f ≡ inactive_count e.peeling = omega (arith, c.loop-f.auto.f-end, c.loop-f-test.false, c.width.ensures, c.pivots.ensures, c.requires.column) in
    c.byte.ensures ∙ c.loop-f.invariant ∙ ap (λ (n : ℕ). dot octets n (entry_of c.args.recorded.now.table (at c.args.left.now c.args.place)) (inactive_entry e.peeling c.args.column.now)) end
